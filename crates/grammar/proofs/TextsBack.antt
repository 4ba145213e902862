-- Characters and texts in quotes read back.
use Rattle.std.proofs.Common.{◌≡◌, ℕ, ◌^◌, ◌<◌, Bool, true, false, eqb, List, [], ◌∷◌, ◌++◌, length, Some, None, codes, refl, ap, ◌∙◌, subst, append_assoc, arith}
use Rattle.std.specs.List.{flat_map, AllByRecursion}
use Rattle.std.specs.Char.{digit_char}
use Rattle.std.proofs.lemmas.Bool.{and_parts, and_from, cond_both, cond-true, eqb-true, le-leb}
use Rattle.std.proofs.lemmas.Bool.Decides.{nat_tests}
use Rattle.chars.specs.Utf8.{scalar, scalars, encode, decoded}
use Rattle.chars.proofs.Decoding.{encodes_decoded}
use Rattle.words.specs.Classes.{quoting}
use Rattle.words.specs.Escapes.{quote, backslash, code, escape, escaped_str}
use Rattle.words.specs.Numerals.{numeral}
use Rattle.words.specs.Refusals.{text_refusal}
use Rattle.literals.specs.Characters.{char_body, character, char_refusal}
use Rattle.grammar.specs.Trees.{a_text, a_character}
use Rattle.grammar.specs.Strings.{special, short_escape, hex_digit, hex_number, TextPart, text_bare, text_short, text_code, Quoted, quoted_end, quoted_part, char_special, Character, char_bare, char_escape}
use Rattle.grammar.specs.Items.{text_rule, character_rule, is_text, is_character}
use Rattle.grammar.specs.ReadBack.{Spells, ReadsBack}
use Rattle.grammar.proofs.Spelling.{ascii, spells_ascii, spells_char, spells_as, spells_then}
use Rattle.grammar.proofs.Numerals.{numeral_in, numeral_some, numeral_most, numeral_number}
use Rattle.grammar.proofs.Accepted.{holds, text_accepted}

-- a character in single quotes
special_ascii : (c : ℕ) → char_special c ≡ true → ascii c ≡ true
special_ascii c h = grind (arith, nat_tests)

body_back : (c : ℕ) → scalar c ≡ true → Spells (λ s r. (u : List ℕ) → r ≡ 0x27 ∷ u → Character (0x27 ∷ s) c u) (char_body c)
body_back c h =
    cond_both (char_special c) (backslash ∷ c ∷ []) (encode c) (Spells (λ s r. (u : List ℕ) → r ≡ 0x27 ∷ u → Character (0x27 ∷ s) c u))
    (λ k. spells_as (spells_ascii (backslash ∷ c ∷ []) (and_from (ascii c) true (special_ascii c k) refl)) (λ s r e u f. char_escape (ap (λ z. 0x27 ∷ z) (e ∙ ap (λ z. backslash ∷ c ∷ z) f)) k))
    (λ k. spells_as (spells_char c h) (λ s r e u f. char_bare (ap (λ z. 0x27 ∷ z) (e ∙ ap (λ z. c ∷ z) f)) k))

pub character_back : (starts continues : ℕ → Bool) (n : ℕ) → char_refusal n ≡ None → ReadsBack starts continues (character n) (a_character n)
character_back starts continues n h =
    spells_then (spells_ascii (0x27 ∷ []) refl) (spells_then (body_back n (holds (scalar n) _ h)) (spells_ascii (0x27 ∷ []) refl) (λ s s' r p e. p r e))
    (λ s s' r e p k. (character_rule, is_character (rw e p)))

-- parts in a row, and the closing quote: each is written by `write` and means what `mean` says
module _ {Part : List ℕ → List ℕ → List ℕ → Type 0} (Fit : ℕ → Type 0) (write mean : ℕ → List ℕ) (part : (c : ℕ) → Fit c → Spells (λ s r. Part s (mean c) r) (write c)) where
  pub quoted_back : (cs : List ℕ) → AllByRecursion Fit cs → Spells (λ s r. Quoted Part s (flat_map mean cs) r) (flat_map write cs ++ quote ∷ [])
  quoted_back [] h = spells_as (spells_ascii (quote ∷ []) refl) (λ s r e. quoted_end e)
  quoted_back (c ∷ cs) h =
      rw (append_assoc (write c) (flat_map write cs) (quote ∷ [])) (spells_then (part c h.0) (quoted_back cs h.1) (λ s s' r p q. quoted_part p q))

-- short escapes, where a kind of parts has them
quoting_ascii : (c : ℕ) → quoting c ≡ true → ascii c ≡ true
quoting_ascii c h = grind (arith, nat_tests)

module _ (Part : List ℕ → List ℕ → List ℕ → Type 0) (short : (c v : ℕ) (s r : List ℕ) → s ≡ backslash ∷ c ∷ r → short_escape c ≡ Some v → Part s (v ∷ []) r) (c : ℕ) where
  pub short_back : (d v : ℕ) → ascii d ≡ true → short_escape d ≡ Some v → eqb c v ≡ true → Spells (λ s r. Part s (c ∷ []) r) (backslash ∷ d ∷ [])
  short_back d v a h e =
      rw (eqb-true c v e) (spells_as (spells_ascii (backslash ∷ d ∷ []) (and_from (ascii d) true a refl)) (λ s r q. short d v s r q h))

  pub quoting_back : quoting c ≡ true → Spells (λ s r. Part s (c ∷ []) r) (backslash ∷ c ∷ [])
  quoting_back h = spells_as (spells_ascii (backslash ∷ c ∷ []) (and_from (ascii c) true (quoting_ascii c h) refl)) (λ s r q. short c c s r q (cond-true (quoting c) _ _ h))

pub not_special : (c : ℕ) → quoting c ≡ false → special c ≡ false
not_special c h = grind (arith, nat_tests)

-- \u{h}
pub hex_char : (d : ℕ) → d < 16 → hex_digit (digit_char d) ≡ true
hex_char d h = grind (arith, nat_tests)

pub hex_ascii : (d : ℕ) → d < 16 → ascii (digit_char d) ≡ true
hex_ascii d h = grind (arith, nat_tests)

scalar_small : (c : ℕ) → scalar c ≡ true → c < 16 ^ 6
scalar_small c h = grind (arith, nat_tests)

code_back : (c : ℕ) → scalar c ≡ true → Spells (λ s r. TextPart s (c ∷ []) r) (code c)
code_back c h =
    spells_then (spells_ascii (codes "\\u{") refl) (spells_then (spells_ascii digits (numeral_in 16 c (omega arith) ascii hex_ascii)) (spells_ascii (codes "}") refl) (λ s s' r e f. e ∙ ap (λ z. digits ++ z) f))
    (λ s s' r e f. subst (λ v. TextPart s (v ∷ []) r) is (text_code digits (e ∙ ap (λ z. codes "\\u{" ++ z) f) (numeral_in 16 c (omega arith) hex_digit hex_char) (and_from _ _ (le-leb 1 (length digits) (numeral_some 16 c (omega arith))) (le-leb (length digits) 6 (numeral_most 16 c (omega arith) 6 (omega arith) (scalar_small c h)))) (ap scalar is ∙ h)))
  where
    digits : List ℕ
    digits = numeral 16 c

    is : hex_number (numeral 16 c) ≡ c
    is = numeral_number 16 c (omega arith) (omega arith)

escape_back : (shown : ℕ → Bool) (c : ℕ) → scalar c ≡ true → Spells (λ s r. TextPart s (c ∷ []) r) (escape shown c)
escape_back shown c h =
    cond_both (eqb c 0x00) _ _ Back (short_back TextPart short c 0x30 0x00 refl refl)
    (λ _. cond_both (eqb c 0x09) _ _ Back (short_back TextPart short c 0x74 0x09 refl refl)
    (λ _. cond_both (eqb c 0x0A) _ _ Back (short_back TextPart short c 0x6E 0x0A refl refl)
    (λ _. cond_both (eqb c 0x0D) _ _ Back (short_back TextPart short c 0x72 0x0D refl refl)
    (λ _. cond_both (quoting c) _ _ Back (quoting_back TextPart short c)
    (λ n. cond_both (shown c) _ _ Back (λ _. spells_as (spells_char c h) (λ s r e. text_bare e (not_special c n)))
    (λ _. code_back c h))))))
  where
    Back : List ℕ → Type 0
    Back w = Spells (λ s r. TextPart s (c ∷ []) r) w

    short : (d v : ℕ) (s r : List ℕ) → s ≡ backslash ∷ d ∷ r → short_escape d ≡ Some v → TextPart s (v ∷ []) r
    short d v s r e k = text_short e k

pub joined_one : (cs : List ℕ) → flat_map (λ c. c ∷ []) cs ≡ cs
joined_one [] = refl
joined_one (c ∷ cs) = ap (λ z. c ∷ z) (joined_one cs)

all_scalars : (cs : List ℕ) → scalars cs ≡ true → AllByRecursion (λ c. scalar c ≡ true) cs
all_scalars [] h = tt
all_scalars (c ∷ cs) h = let p = and_parts (scalar c) (scalars cs) h in (p.0, all_scalars cs p.1)

-- a text behind its opening quote
pub text_item : (starts continues : ℕ → Bool) (x literal : List ℕ) → Spells (λ s r. Quoted TextPart s x r) literal → ReadsBack starts continues (quote ∷ literal) (a_text x)
text_item starts continues x literal p = spells_then (spells_ascii (quote ∷ []) refl) p (λ s s' r e q k. (text_rule, is_text e q))

pub escaped_text_back : (starts continues shown : ℕ → Bool) (s : List ℕ) → text_refusal s ≡ None → ReadsBack starts continues (escaped_str shown (decoded s)) (a_text (decoded s))
escaped_text_back starts continues shown s h =
    let cs = decoded s in
    let p = quoted_back (λ c. scalar c ≡ true) (escape shown) (λ c. c ∷ []) (escape_back shown) cs (all_scalars cs (encodes_decoded s (text_accepted s h)).0) in
    text_item starts continues cs _ (spells_as p (λ u r q. subst (λ z. Quoted TextPart u z r) (joined_one cs) q))

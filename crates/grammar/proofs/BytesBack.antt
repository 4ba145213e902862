-- Byte strings read back.
use Rattle.std.proofs.Common.{◌≡◌, ℕ, ◌/◌, ◌%◌, ◌<◌, Bool, true, false, eqb, List, [], ◌∷◌, ◌++◌, Some, codes, sym, refl, ap, ◌∙◌, subst, arith}
use Rattle.std.specs.List.{AllByRecursion}
use Rattle.std.proofs.lemmas.Bool.{and_from, cond_both}
use Rattle.std.proofs.lemmas.Str.{digit_value-digit_char}
use Rattle.std.proofs.lemmas.Bool.Decides.{nat_tests}
use Rattle.chars.specs.Tables.{printable}
use Rattle.chars.specs.Utf8.{scalars, encode, encodes, utf8, decoded}
use Rattle.chars.proofs.Decoding.{encodes_decoded}
use Rattle.words.specs.Classes.{quoting}
use Rattle.words.specs.Escapes.{backslash}
use Rattle.words.specs.RawText.{longest_hashes, holds_quote, quoted}
use Rattle.literals.specs.Bytes.{digit_pair, byte_escape, escaped_byte_str, plain_byte_str, unescaped_or_raw_byte_str}
use Rattle.grammar.specs.Trees.{a_byte_string}
use Rattle.grammar.specs.Strings.{short_escape, hex_number, BytePart, byte_bare, byte_short, byte_pair, Quoted}
use Rattle.grammar.specs.Items.{bytes_rule, raw_bytes_rule, is_bytes, is_raw_bytes}
use Rattle.grammar.specs.ReadBack.{Spells, ReadsBack}
use Rattle.grammar.proofs.Spelling.{ascii, ascii_encode, spells_ascii, spells_char, spells_as, spells_then}
use Rattle.grammar.proofs.TextsBack.{quoted_back, short_back, quoting_back, not_special, hex_char, hex_ascii, joined_one}
use Rattle.grammar.proofs.RawBack.{BareChar, all_bare, joined_encode, raw_back}

-- a byte string behind `b"`
bytes_item : (starts continues : ℕ → Bool) (x literal : List ℕ) → Spells (λ s r. Quoted BytePart s x r) literal → ReadsBack starts continues (codes "b\"" ++ literal) (a_byte_string x)
bytes_item starts continues x literal p = spells_then (spells_ascii (codes "b\"") refl) p (λ s s' r e q k. (bytes_rule, is_bytes e q))

printable_ascii : (b : ℕ) → printable b ≡ true → ascii b ≡ true
printable_ascii b h = grind (arith, nat_tests)

-- \xhh
pair_back : (b : ℕ) → b < 256 → Spells (λ s r. BytePart s (b ∷ []) r) (codes "\\x" ++ digit_pair b)
pair_back b l =
    spells_then (spells_ascii (codes "\\x") refl) (spells_ascii (digit_pair b) (and_from _ _ (hex_ascii (b / 16) high) (and_from _ true (hex_ascii (b % 16) low) refl)))
    (λ s s' r e f. subst (λ v. BytePart s (v ∷ []) r) is (byte_pair (e ∙ ap (λ z. codes "\\x" ++ z) f) (hex_char (b / 16) high) (hex_char (b % 16) low)))
  where
    high : b / 16 < 16
    high = omega arith

    low : b % 16 < 16
    low = omega arith

    is : hex_number (digit_pair b) ≡ b
    is = omega (arith, digit_value-digit_char (b / 16) (omega arith), digit_value-digit_char (b % 16) (omega arith))

byte_back : (b : ℕ) → b < 256 → Spells (λ s r. BytePart s (b ∷ []) r) (byte_escape b)
byte_back b l =
    cond_both (eqb b 0x09) _ _ Back (short_back BytePart short b 0x74 0x09 refl refl)
    (λ _. cond_both (eqb b 0x0A) _ _ Back (short_back BytePart short b 0x6E 0x0A refl refl)
    (λ _. cond_both (eqb b 0x0D) _ _ Back (short_back BytePart short b 0x72 0x0D refl refl)
    (λ _. cond_both (quoting b) _ _ Back (quoting_back BytePart short b)
    (λ n. cond_both (printable b) _ _ Back (shown n)
    (λ _. pair_back b l)))))
  where
    Back : List ℕ → Type 0
    Back w = Spells (λ s r. BytePart s (b ∷ []) r) w

    short : (d v : ℕ) (s r : List ℕ) → s ≡ backslash ∷ d ∷ r → short_escape d ≡ Some v → BytePart s (v ∷ []) r
    short d v s r e k = byte_short e k

    shown : quoting b ≡ false → printable b ≡ true → Spells (λ s r. BytePart s (b ∷ []) r) (b ∷ [])
    shown n p =
        let a = printable_ascii b p in
        spells_as (spells_ascii (b ∷ []) (and_from (ascii b) true a refl)) (λ s r e. subst (λ z. BytePart s z r) (sym (ascii_encode b a)) (byte_bare e (not_special b n)))

pub escaped_bytes_back : (starts continues : ℕ → Bool) (bs : List ℕ) → AllByRecursion (λ b. b < 256) bs → ReadsBack starts continues (escaped_byte_str bs) (a_byte_string bs)
escaped_bytes_back starts continues bs h =
    let p = quoted_back (λ b. b < 256) byte_escape (λ b. b ∷ []) byte_back bs h in
    bytes_item starts continues bs _ (spells_as p (λ s r q. subst (λ z. Quoted BytePart s z r) (joined_one bs) q))

bare_bytes_back : (starts continues : ℕ → Bool) (cs : List ℕ) → scalars cs ≡ true → holds_quote cs ≡ false → ReadsBack starts continues (0x62 ∷ quoted (encodes cs)) (a_byte_string (encodes cs))
bare_bytes_back starts continues cs h n =
    let p = quoted_back BareChar encode encode (λ c k. spells_as (spells_char c k.0) (λ s r e. byte_bare e k.1)) cs (all_bare cs h n) in
    rw (← joined_encode cs) (bytes_item starts continues _ _ p)

utf8_bytes_back : (starts continues : ℕ → Bool) (bs : List ℕ) → utf8 bs ≡ true → ReadsBack starts continues (plain_byte_str bs) (a_byte_string bs)
utf8_bytes_back starts continues bs u =
    let d = encodes_decoded bs u in
    let cs = decoded bs in
    subst (λ z. ReadsBack starts continues (plain_byte_str bs) (a_byte_string z)) d.1
    (cond_both (holds_quote cs) _ _ (λ w. ReadsBack starts continues (0x62 ∷ w) (a_byte_string (encodes cs)))
    (λ _. spells_as (raw_back (codes "br") cs refl d.0) (λ s r (s', e, f) k. (raw_bytes_rule, is_raw_bytes (longest_hashes cs) e f)))
    (bare_bytes_back starts continues cs d.0))

pub plain_bytes_back : (starts continues : ℕ → Bool) (bs : List ℕ) → AllByRecursion (λ b. b < 256) bs → ReadsBack starts continues (unescaped_or_raw_byte_str bs) (a_byte_string bs)
plain_bytes_back starts continues bs h =
    cond_both (utf8 bs) _ _ (λ w. ReadsBack starts continues w (a_byte_string bs)) (utf8_bytes_back starts continues bs) (λ _. escaped_bytes_back starts continues bs h)

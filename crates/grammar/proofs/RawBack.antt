-- Texts without escapes read back: quoted as they are, and raw between hashes.
use Rattle.std.proofs.Common.{◌≡◌, ℕ, zero, suc, ◌<◌, ◌≤◌, Bool, true, false, cond, eqb, List, [], ◌∷◌, ◌++◌, replicate, None, codes, refl, ap, ◌∙◌, subst, append_assoc, arith}
use Rattle.std.specs.List.{flat_map, AllByRecursion}
use Rattle.std.proofs.lemmas.Bool.{and_parts, and_right, or_parts, cond_both, lt-leb}
use Rattle.chars.specs.Utf8.{scalar, scalars, encode, encodes, decoded}
use Rattle.chars.proofs.Decoding.{encodes_decoded}
use Rattle.words.specs.Classes.{all}
use Rattle.words.specs.Escapes.{quote}
use Rattle.words.specs.RawText.{hash, leading_hashes, longest_hashes, holds_quote, quoted, fenced, unescaped_or_raw_str}
use Rattle.words.specs.Refusals.{text_refusal}
use Rattle.grammar.specs.Trees.{a_text}
use Rattle.grammar.specs.Strings.{special, TextPart, text_bare, Quoted, Fenced, fenced_end, fenced_char}
use Rattle.grammar.specs.Items.{raw_text_rule, is_raw_text}
use Rattle.grammar.specs.ReadBack.{Spells, ReadsBack}
use Rattle.grammar.proofs.Spelling.{ascii, spells_text, spells_ascii, spells_char, spells_as, spells_then, spells_both}
use Rattle.grammar.proofs.Accepted.{text_accepted}
use Rattle.grammar.proofs.TextsBack.{quoted_back, joined_one, text_item}

-- between quotes: characters of which none is special
abbrev pub BareChar : ℕ → Type 0
BareChar c = (scalar c ≡ true) × (special c ≡ false)

pub all_bare : (cs : List ℕ) → scalars cs ≡ true → holds_quote cs ≡ false → AllByRecursion BareChar cs
all_bare [] h n = tt
all_bare (c ∷ cs) h n =
    let p = and_parts (scalar c) (scalars cs) h in
    let q = or_parts (special c) (holds_quote cs) n in
    ((p.0, q.0), all_bare cs p.1 q.1)

pub joined_encode : (cs : List ℕ) → flat_map encode cs ≡ encodes cs
joined_encode [] = refl
joined_encode (c ∷ cs) = ap (λ z. encode c ++ z) (joined_encode cs)

bare_text_back : (starts continues : ℕ → Bool) (cs : List ℕ) → scalars cs ≡ true → holds_quote cs ≡ false → ReadsBack starts continues (quoted (encodes cs)) (a_text cs)
bare_text_back starts continues cs h n =
    let p = quoted_back BareChar encode (λ c. c ∷ []) (λ c k. spells_as (spells_char c k.0) (λ s r e. text_bare e k.1)) cs (all_bare cs h n) in
    rw (← joined_encode cs) (text_item starts continues cs _ (spells_as p (λ u r q. subst (λ z. Quoted TextPart u z r) (joined_one cs) q)))

-- no quote of the text has as many hashes behind it as stand around it
leading_longest : (s : List ℕ) → leading_hashes s ≤ longest_hashes s
leading_longest [] = omega arith
leading_longest (c ∷ s) = omega arith

leading_before : (cs s : List ℕ) → leading_hashes (cs ++ quote ∷ s) ≡ leading_hashes cs
leading_before [] s = refl
leading_before (c ∷ cs) s = ap (λ n. cond (eqb c hash) (suc n) 0) (leading_before cs s)

fenced_back : (m : ℕ) (cs r : List ℕ) → longest_hashes cs < m → Fenced m (cs ++ quote ∷ (replicate m hash ++ r)) cs r
fenced_back m [] r l = fenced_end refl
fenced_back m (c ∷ cs) r l =
    let behind = replicate m hash ++ r in
    let few : leading_hashes (cs ++ quote ∷ behind) < m = omega (arith, leading_before cs behind, leading_longest cs) in
    fenced_char refl (and_right (eqb c quote) _ (lt-leb m _ few)) (fenced_back m cs r (omega arith))

-- the characters of a fence
hashes_ascii : (n : ℕ) → all ascii (replicate n hash) ≡ true
hashes_ascii zero = refl
hashes_ascii (suc n) = hashes_ascii n

spells_fenced : (n : ℕ) (cs : List ℕ) → scalars cs ≡ true → Spells (λ s r. s ≡ fenced n cs ++ r) (fenced n (encodes cs))
spells_fenced n cs h =
    let hashes = spells_ascii (replicate (suc n) hash) (hashes_ascii (suc n)) in
    let one = spells_ascii (quote ∷ []) refl in
    spells_both (replicate (suc n) hash) (quoted cs ++ replicate (suc n) hash) hashes
    (spells_both (quoted cs) (replicate (suc n) hash) (spells_both (quote ∷ []) (cs ++ quote ∷ []) one (spells_both cs (quote ∷ []) (spells_text cs h) one)) hashes)

fenced_parts : (n : ℕ) (cs r : List ℕ) → fenced n cs ++ r ≡ replicate (suc n) hash ++ quote ∷ (cs ++ quote ∷ (replicate (suc n) hash ++ r))
fenced_parts n cs r =
    let hashes = replicate (suc n) hash in
    append_assoc hashes (quoted cs ++ hashes) r
    ∙ ap (λ z. hashes ++ quote ∷ z) (append_assoc (cs ++ quote ∷ []) hashes r ∙ append_assoc cs (quote ∷ []) (hashes ++ r))

-- behind the letters of its kind, a raw string has one hash more than any run in it
pub raw_back : (letters cs : List ℕ) → all ascii letters ≡ true → scalars cs ≡ true
    → Spells (λ s r. (s' : List ℕ) × (s ≡ letters ++ (replicate (suc (longest_hashes cs)) hash ++ quote ∷ s')) × Fenced (suc (longest_hashes cs)) s' cs r) (letters ++ fenced (longest_hashes cs) (encodes cs))
raw_back letters cs a h =
    let n = longest_hashes cs in
    spells_then (spells_ascii letters a) (spells_fenced n cs h)
    (λ s s' r e f. (cs ++ quote ∷ (replicate (suc n) hash ++ r), e ∙ ap (λ z. letters ++ z) (f ∙ fenced_parts n cs r), fenced_back (suc n) cs r (omega arith)))

pub plain_text_back : (starts continues : ℕ → Bool) (s : List ℕ) → text_refusal s ≡ None → ReadsBack starts continues (unescaped_or_raw_str (decoded s)) (a_text (decoded s))
plain_text_back starts continues s h =
    let cs = decoded s in
    let v = (encodes_decoded s (text_accepted s h)).0 in
    cond_both (holds_quote cs) _ _ (λ w. ReadsBack starts continues w (a_text cs))
    (λ _. spells_as (raw_back (codes "r") cs refl v) (λ u r (u', e, f) k. (raw_text_rule, is_raw_text (longest_hashes cs) e f)))
    (bare_text_back starts continues cs v)

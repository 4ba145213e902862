-- What stands between quotes has one reading.
-- Assumes nothing.
use Rattle.std.proofs.Common.{◌≡◌, ℕ, zero, suc, ◌≤◌, Bool, true, eqb, List, [], ◌∷◌, ◌++◌, replicate, Some, None, sym, refl, ap, ◌∙◌, ap₂, arith}
use mathlib.Core.List.{append_cancel_left}
use Rattle.std.proofs.lemmas.Bool.{both_ways, le-leb}
use Rattle.chars.specs.Utf8.{encode}
use Rattle.words.specs.Classes.{all}
use Rattle.words.specs.Escapes.{quote}
use Rattle.words.specs.RawText.{hash, leading_hashes}
use Rattle.grammar.specs.Strings.{special, short_escape, hex_digit, hex_number, TextPart, text_bare, text_short, text_code, BytePart, byte_bare, byte_short, byte_pair, Quoted, quoted_end, quoted_part, char_special, Character, char_bare, char_escape, fence, Fenced, fenced_end, fenced_char}
use Rattle.grammar.proofs.Runs.{head_is, tail_is, clash, take_while, drop_while, take_run, drop_run}

abbrev pub Same : List ℕ → List ℕ → List ℕ → List ℕ → Type 0
Same x r x' r' = (x ≡ x') × (r ≡ r')

-- c is the character d
abbrev pub is : ℕ → ℕ → Bool
is d c = eqb c d

-- a short escape stands for one character
short_once : {c c' v v' : ℕ} → short_escape c ≡ Some v → short_escape c' ≡ Some v' → c ≡ c' → v ∷ [] ≡ v' ∷ []
short_once h h' q = cc

-- the letters of the long escapes have no short one
not_short : {c v d : ℕ} {x y : List ℕ} → short_escape c ≡ Some v → c ∷ x ≡ d ∷ y → short_escape d ≡ None → ⊥
not_short h e n = let z : ◌≡◌ {A = ℕ} 0 1 = cc in omega arith

-- the digits of a code end at its bracket
digits_once : (h h' s s' : List ℕ) → all hex_digit h ≡ true → all hex_digit h' ≡ true → h ++ 0x7D ∷ s ≡ h' ++ 0x7D ∷ s' → Same h s h' s'
digits_once h h' s s' a a' e =
    let t = take_run hex_digit h (0x7D ∷ s) a refl in
    let t' = take_run hex_digit h' (0x7D ∷ s') a' refl in
    let d = drop_run hex_digit h (0x7D ∷ s) a refl in
    let d' = drop_run hex_digit h' (0x7D ∷ s') a' refl in
    (sym t ∙ ap (take_while hex_digit) e ∙ t', tail_is (sym d ∙ ap (drop_while hex_digit) e ∙ d'))

text_part_once : {s y r s' y' r' : List ℕ} → TextPart s y r → TextPart s' y' r' → s ≡ s' → Same y r y' r'
text_part_once (text_bare e n) (text_bare e' n') q = (cc, tail_is (sym e ∙ q ∙ e'))
text_part_once (text_bare e n) (text_short e' n') q = absurd (clash special (sym (sym e ∙ q ∙ e')) refl n)
text_part_once (text_bare e n) (text_code h' e' a' b' c') q = absurd (clash special (sym (sym e ∙ q ∙ e')) refl n)
text_part_once (text_short e n) (text_bare e' n') q = absurd (clash special (sym e ∙ q ∙ e') refl n')
text_part_once (text_short e n) (text_short e' n') q =
    let p = tail_is (sym e ∙ q ∙ e') in (short_once n n' (head_is p), tail_is p)
text_part_once (text_short e n) (text_code h' e' a' b' c') q = absurd (not_short n (tail_is (sym e ∙ q ∙ e')) refl)
text_part_once (text_code h e a b c) (text_bare e' n') q = absurd (clash special (sym e ∙ q ∙ e') refl n')
text_part_once (text_code h e a b c) (text_short e' n') q = absurd (not_short n' (tail_is (sym (sym e ∙ q ∙ e'))) refl)
text_part_once (text_code h {r = r} e a b c) (text_code h' {r = r'} e' a' b' c') q =
    let p = digits_once h h' r r' a a' (tail_is (tail_is (tail_is (sym e ∙ q ∙ e')))) in
    (ap (λ z. hex_number z ∷ []) p.0, p.1)

byte_part_once : {s y r s' y' r' : List ℕ} → BytePart s y r → BytePart s' y' r' → s ≡ s' → Same y r y' r'
byte_part_once (byte_bare e n) (byte_bare e' n') q = (ap encode (head_is (sym e ∙ q ∙ e')), tail_is (sym e ∙ q ∙ e'))
byte_part_once (byte_bare e n) (byte_short e' n') q = absurd (clash special (sym (sym e ∙ q ∙ e')) refl n)
byte_part_once (byte_bare e n) (byte_pair e' a' b') q = absurd (clash special (sym (sym e ∙ q ∙ e')) refl n)
byte_part_once (byte_short e n) (byte_bare e' n') q = absurd (clash special (sym e ∙ q ∙ e') refl n')
byte_part_once (byte_short e n) (byte_short e' n') q =
    let p = tail_is (sym e ∙ q ∙ e') in (short_once n n' (head_is p), tail_is p)
byte_part_once (byte_short e n) (byte_pair e' a' b') q = absurd (not_short n (tail_is (sym e ∙ q ∙ e')) refl)
byte_part_once (byte_pair e a b) (byte_bare e' n') q = absurd (clash special (sym e ∙ q ∙ e') refl n')
byte_part_once (byte_pair e a b) (byte_short e' n') q = absurd (not_short n' (tail_is (sym (sym e ∙ q ∙ e'))) refl)
byte_part_once (byte_pair {c} {d} {s} {r} e a b) (byte_pair {c = c'} {d = d'} {r = r'} e' a' b') q =
    pair (tail_is (tail_is (sym e ∙ q ∙ e')))
  where
    pair : c ∷ d ∷ r ≡ c' ∷ d' ∷ r' → Same (hex_number (c ∷ d ∷ []) ∷ []) r (hex_number (c' ∷ d' ∷ []) ∷ []) r'
    pair p = (rw (head_is p, head_is (tail_is p)), tail_is (tail_is p))

-- two strings of the same kind of parts, where a part is told by the text and does not begin with the closing quote
module _ {Part : List ℕ → List ℕ → List ℕ → Type 0}
    (once : (s y r s' y' r' : List ℕ) → Part s y r → Part s' y' r' → s ≡ s' → Same y r y' r')
    (no_end : (s y r u : List ℕ) → Part s y r → s ≡ quote ∷ u → ⊥) where
  quoted_once : {s x r s' x' r' : List ℕ} → Quoted Part s x r → Quoted Part s' x' r' → s ≡ s' → Same x r x' r'
  quoted_once (quoted_end e) (quoted_end e') q = (refl, tail_is (sym e ∙ q ∙ e'))
  quoted_once (quoted_end e) (quoted_part p' k') q = absurd (no_end _ _ _ _ p' (sym q ∙ e))
  quoted_once (quoted_part p k) (quoted_end e') q = absurd (no_end _ _ _ _ p (q ∙ e'))
  quoted_once (quoted_part p k) (quoted_part p' k') q =
      let a = once _ _ _ _ _ _ p p' q in
      let b = quoted_once k k' a.1 in
      (ap₂ ◌++◌ a.0 b.0, b.1)

text_part_no_end : {s y r u : List ℕ} → TextPart s y r → s ≡ quote ∷ u → ⊥
text_part_no_end (text_bare e n) q = clash special (sym q ∙ e) refl n
text_part_no_end (text_short e n) q = clash (is quote) (sym q ∙ e) refl refl
text_part_no_end (text_code h e a b c) q = clash (is quote) (sym q ∙ e) refl refl

byte_part_no_end : {s y r u : List ℕ} → BytePart s y r → s ≡ quote ∷ u → ⊥
byte_part_no_end (byte_bare e n) q = clash special (sym q ∙ e) refl n
byte_part_no_end (byte_short e n) q = clash (is quote) (sym q ∙ e) refl refl
byte_part_no_end (byte_pair e a b) q = clash (is quote) (sym q ∙ e) refl refl

pub text_once : {s x r s' x' r' : List ℕ} → Quoted TextPart s x r → Quoted TextPart s' x' r' → s ≡ s' → Same x r x' r'
text_once k k' q = quoted_once (λ s y r s' y' r'. text_part_once) (λ s y r u. text_part_no_end) k k' q

pub bytes_once : {s x r s' x' r' : List ℕ} → Quoted BytePart s x r → Quoted BytePart s' x' r' → s ≡ s' → Same x r x' r'
bytes_once k k' q = quoted_once (λ s y r s' y' r'. byte_part_once) (λ s y r u. byte_part_no_end) k k' q

pub character_once : {s r s' r' : List ℕ} {c c' : ℕ} → Character s c r → Character s' c' r' → s ≡ s' → (c ≡ c') × (r ≡ r')
character_once (char_bare e n) (char_bare e' n') q = let p = tail_is (sym e ∙ q ∙ e') in (head_is p, tail_is (tail_is p))
character_once (char_bare e n) (char_escape e' n') q = absurd (clash char_special (sym (tail_is (sym e ∙ q ∙ e'))) refl n)
character_once (char_escape e n) (char_bare e' n') q = absurd (clash char_special (tail_is (sym e ∙ q ∙ e')) refl n')
character_once (char_escape e n) (char_escape e' n') q =
    let p = tail_is (tail_is (sym e ∙ q ∙ e')) in (head_is p, tail_is (tail_is p))

-- the quote that ends a raw string has its hashes
own_hashes : (n : ℕ) (r : List ℕ) → n ≤ leading_hashes (replicate n hash ++ r)
own_hashes zero r = omega arith
own_hashes (suc n) r = omega (arith, own_hashes n r)

own_fence : (n : ℕ) (r : List ℕ) → fence n (quote ∷ (replicate n hash ++ r)) ≡ true
own_fence n r = le-leb n (leading_hashes (replicate n hash ++ r)) (own_hashes n r)

pub fenced_once : {n : ℕ} {s x r s' x' r' : List ℕ} → Fenced n s x r → Fenced n s' x' r' → s ≡ s' → Same x r x' r'
fenced_once {n} (fenced_end {r = r} e) (fenced_end {r = r'} e') q = (refl, append_cancel_left (replicate n hash) r r' (tail_is (sym e ∙ q ∙ e')))
fenced_once {n} (fenced_end {s} {r} e) (fenced_char {s = s'} e' f' k') q = absurd (both_ways (fence n s') f' (ap (fence n) (sym q ∙ e) ∙ own_fence n r))
fenced_once {n} (fenced_char {s = s} e f k) (fenced_end {r = r'} e') q = absurd (both_ways (fence n s) f (ap (fence n) (q ∙ e') ∙ own_fence n r'))
fenced_once (fenced_char e f k) (fenced_char e' f' k') q =
    let p = sym e ∙ q ∙ e' in
    let b = fenced_once k k' (tail_is p) in
    (ap₂ ◌∷◌ (head_is p) b.0, b.1)

-- the hashes before a quote
pub hashes_once : (m n : ℕ) (s s' : List ℕ) → replicate m hash ++ quote ∷ s ≡ replicate n hash ++ quote ∷ s' → (m ≡ n) × (s ≡ s')
hashes_once zero zero s s' e = (refl, tail_is e)
hashes_once zero (suc n) s s' e = absurd (clash (is quote) e refl refl)
hashes_once (suc m) zero s s' e = absurd (clash (is hash) e refl refl)
hashes_once (suc m) (suc n) s s' e = let p = hashes_once m n s s' (tail_is e) in (ap suc p.0, p.1)

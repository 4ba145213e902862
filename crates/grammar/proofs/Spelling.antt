-- Bytes that spell characters, one piece after another.
use Rattle.std.proofs.Common.{◌≡◌, ℕ, Bool, true, leb, List, [], ◌∷◌, ◌++◌, sym, refl, ap, ◌∙◌, ap₂, ⊎_elim, append_assoc, append-nil, arith}
use Rattle.std.proofs.lemmas.Bool.{and_parts, and_from, leb-true}
use Rattle.std.proofs.lemmas.Bool.Decides.{nat_tests}
use Rattle.chars.specs.Utf8.{scalar, scalars, encode, encodes}
use Rattle.chars.proofs.HighBytes.{encode_parts}
use Rattle.words.specs.Classes.{all}
use Rattle.grammar.specs.ReadBack.{Spells}

pub encodes_append : (a b : List ℕ) → encodes (a ++ b) ≡ encodes a ++ encodes b
encodes_append [] b = refl
encodes_append (c ∷ a) b = ap (λ z. encode c ++ z) (encodes_append a b) ∙ sym (append_assoc (encode c) (encodes a) (encodes b))

pub scalars_append : (a b : List ℕ) → scalars a ≡ true → scalars b ≡ true → scalars (a ++ b) ≡ true
scalars_append [] b h k = k
scalars_append (c ∷ a) b h k =
    let p = and_parts (scalar c) (scalars a) h in
    and_from (scalar c) (scalars (a ++ b)) p.0 (scalars_append a b p.1 k)

-- characters spell themselves, and those of ASCII are their own bytes
pub spells_text : (cs : List ℕ) → scalars cs ≡ true → Spells (λ s r. s ≡ cs ++ r) (encodes cs)
spells_text cs h = record { characters = cs; spelled = refl; valid = h; before = λ r. refl }

pub spells_char : (c : ℕ) → scalar c ≡ true → Spells (λ s r. s ≡ c ∷ r) (encode c)
spells_char c h = record { characters = c ∷ []; spelled = sym (append-nil (encode c)); valid = and_from (scalar c) true h refl; before = λ r. refl }

abbrev pub ascii : ℕ → Bool
ascii c = leb c 0x7F

ascii_scalar : (c : ℕ) → ascii c ≡ true → scalar c ≡ true
ascii_scalar c h = grind (arith, nat_tests)

pub ascii_encode : (c : ℕ) → ascii c ≡ true → c ∷ [] ≡ encode c
ascii_encode c h = ⊎_elim sym (λ k. absurd (omega (arith, leb-true c 0x7F h, k.0))) (encode_parts c (ascii_scalar c h))

ascii_spelled : (x : List ℕ) → all ascii x ≡ true → (x ≡ encodes x) × (scalars x ≡ true)
ascii_spelled [] h = (refl, refl)
ascii_spelled (c ∷ x) h =
    let p = and_parts (ascii c) (all ascii x) h in
    let more = ascii_spelled x p.1 in
    (ap₂ ◌++◌ (ascii_encode c p.0) more.0, and_from (scalar c) (scalars x) (ascii_scalar c p.0) more.1)

pub spells_ascii : (x : List ℕ) → all ascii x ≡ true → Spells (λ s r. s ≡ x ++ r) x
spells_ascii x h = let p = ascii_spelled x h in record { characters = x; spelled = p.0; valid = p.1; before = λ r. refl }

module _ {R T : List ℕ → List ℕ → Type 0} where
  -- the same bytes, in another relation
  pub spells_as : {a : List ℕ} → Spells R a → ((s r : List ℕ) → R s r → T s r) → Spells T a
  spells_as p f = record { characters = p.characters; spelled = p.spelled; valid = p.valid; before = λ r. f _ r (p.before r) }

  -- one piece, and then another
  pub spells_then : {S : List ℕ → List ℕ → Type 0} {a b : List ℕ} → Spells R a → Spells S b → ((s s' r : List ℕ) → R s s' → S s' r → T s r) → Spells T (a ++ b)
  spells_then p q f = record {
    characters = p.characters ++ q.characters;
    spelled = ap₂ ◌++◌ p.spelled q.spelled ∙ sym (encodes_append p.characters q.characters);
    valid = scalars_append p.characters q.characters p.valid q.valid;
    before = λ r. rw (append_assoc p.characters q.characters r) (f _ _ r (p.before (q.characters ++ r)) (q.before r));
  }

pub spells_both : (x y : List ℕ) {a b : List ℕ} → Spells (λ s r. s ≡ x ++ r) a → Spells (λ s r. s ≡ y ++ r) b → Spells (λ s r. s ≡ (x ++ y) ++ r) (a ++ b)
spells_both x y p q = spells_then p q (λ s s' r e f. e ∙ ap (λ z. x ++ z) f ∙ sym (append_assoc x y r))

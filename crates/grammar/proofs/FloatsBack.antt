-- Floats read back: as words or as numbers.
use Rattle.std.proofs.Common.{◌≡◌, ℕ, Bool, true, false, ◌&&◌, ◌||◌, eqb, ◌⊎◌, List, [], ◌∷◌, ◌++◌, None, codes, refl, ap, ◌∙◌, inl, inr, ⊎_elim}
use Rattle.std.proofs.lemmas.Bool.{and_parts, and_from, or_left, or_cases, eqb-true, false≢true}
use Rattle.chars.specs.Tables.{Lawful, digit}
use Rattle.words.specs.Classes.{all}
use Rattle.words.specs.Names.{same}
use Rattle.literals.specs.Bytes.{bytes_refusal}
use Rattle.literals.specs.Floats.{past_digits, ended, digits, exponent, fraction_end, fraction, behind_integer, decimal, unsigned, float_text, float_refusal, float_suffix, float}
use Rattle.literals.specs.Integers.{suffix_if}
use Rattle.literals.specs.declared.float.Width.{Width}
use Rattle.literals.specs.declared.float.Width.TheVariants.{F32, F64}
use Rattle.grammar.specs.Tokens.{begins, number_first, number_char}
use Rattle.grammar.specs.ReadBack.{ReadsBack, suffix_char, float_tree}
use Rattle.grammar.proofs.Classes.{all_append, begins_append}
use Rattle.grammar.proofs.Accepted.{neither, holds}
use Rattle.grammar.proofs.NumbersBack.{digit_number, suffixed, number_back}
use Rattle.grammar.proofs.WordsBack.{same_is, word_back}

-- the parts of a float are of the characters of numbers
past_all : (s : List ℕ) → all number_char (past_digits s) ≡ true → all number_char s ≡ true
past_all [] h = refl
past_all (c ∷ s) h = step (digit c) refl (past_all s)
  where
    step : (t : Bool) → digit c ≡ t → (all number_char (past_digits s) ≡ true → all number_char s ≡ true) → all number_char (c ∷ s) ≡ true
    step true e more = and_from (number_char c) (all number_char s) (digit_number c e) (more (rw e at h))
    step false e more = rw e at h

ended_all : (s : List ℕ) → ended s ≡ true → all number_char s ≡ true
ended_all [] h = refl
ended_all (c ∷ s) h = absurd (false≢true h)

digits_all : (s : List ℕ) → digits s ≡ true → all number_char s ≡ true
digits_all [] h = refl
digits_all (c ∷ s) h =
    let p = and_parts (digit c) (ended (past_digits s)) h in
    and_from (number_char c) (all number_char s) (digit_number c p.0) (past_all s (ended_all (past_digits s) p.1))

-- one character that is told, and then the rest
told : (c d : ℕ) (s : List ℕ) → number_char d ≡ true → eqb c d ≡ true → all number_char s ≡ true → all number_char (c ∷ s) ≡ true
told c d s n e h = and_from (number_char c) (all number_char s) (ap number_char (eqb-true c d e) ∙ n) h

exponent_all : (s : List ℕ) → exponent s ≡ true → all number_char s ≡ true
exponent_all [] h = refl
exponent_all (c ∷ s) h = step (eqb c 0x2D) refl
  where
    step : (t : Bool) → eqb c 0x2D ≡ t → all number_char (c ∷ s) ≡ true
    step true e = told c 0x2D s refl e (digits_all s (rw e at h))
    step false e = digits_all (c ∷ s) (rw e at h)

e_all : (c : ℕ) (s : List ℕ) → (eqb c 0x65 && exponent s) ≡ true → all number_char (c ∷ s) ≡ true
e_all c s h = let p = and_parts (eqb c 0x65) (exponent s) h in told c 0x65 s refl p.0 (exponent_all s p.1)

fraction_end_all : (s : List ℕ) → fraction_end s ≡ true → all number_char s ≡ true
fraction_end_all [] h = refl
fraction_end_all (c ∷ s) h = e_all c s h

fraction_all : (s : List ℕ) → fraction s ≡ true → all number_char s ≡ true
fraction_all [] h = refl
fraction_all (c ∷ s) h =
    let p = and_parts (digit c) (fraction_end (past_digits s)) h in
    and_from (number_char c) (all number_char s) (digit_number c p.0) (past_all s (fraction_end_all (past_digits s) p.1))

behind_all : (s : List ℕ) → behind_integer s ≡ true → all number_char s ≡ true
behind_all [] h = refl
behind_all (c ∷ s) h = step (eqb c 0x2E) refl
  where
    step : (t : Bool) → eqb c 0x2E ≡ t → all number_char (c ∷ s) ≡ true
    step true e = told c 0x2E s refl e (fraction_all s (rw e at h))
    step false e = e_all c s (rw e at h)

-- characters that begin like a number and are those of one
abbrev Numeric : List ℕ → Type 0
Numeric s = (begins number_first s ≡ true) × (all number_char s ≡ true)

decimal_numeric : (s : List ℕ) → decimal s ≡ true → Numeric s
decimal_numeric [] h = absurd (false≢true h)
decimal_numeric (c ∷ s) h = step (eqb c 0x30) refl
  where
    step : (t : Bool) → eqb c 0x30 ≡ t → Numeric (c ∷ s)
    step true e = (ap number_first (eqb-true c 0x30 e), told c 0x30 s refl e (behind_all s (rw e at h)))
    step false e =
        let p = and_parts (digit c) (behind_integer (past_digits s)) (rw e at h) in
        (or_left (digit c) _ p.0, and_from (number_char c) (all number_char s) (digit_number c p.0) (past_all s (behind_all (past_digits s) p.1)))

-- the text of a float: the two words, or numeric
abbrev Floats : List ℕ → Type 0
Floats s = (s ≡ codes "NaN") ⊎ ((s ≡ codes "inf") ⊎ Numeric s)

unsigned_cases : (s : List ℕ) → unsigned s ≡ true → Floats s
unsigned_cases s h =
    ⊎_elim (λ k. ⊎_elim (λ e. inl (same_is s _ e)) (λ e. inr (inl (same_is s _ e))) (or_cases (same s (codes "NaN")) (same s (codes "inf")) k))
    (λ k. inr (inr (decimal_numeric s k)))
    (or_cases (same s (codes "NaN") || same s (codes "inf")) (decimal s) h)

unsigned_all : (s : List ℕ) → Floats s → all number_char s ≡ true
unsigned_all s (inl e) = ap (all number_char) e
unsigned_all s (inr (inl e)) = ap (all number_char) e
unsigned_all s (inr (inr p)) = p.1

float_cases : (s : List ℕ) → float_text s ≡ true → Floats s
float_cases [] h = absurd (false≢true h)
float_cases (c ∷ s) h = step (eqb c 0x2D) refl
  where
    step : (t : Bool) → eqb c 0x2D ≡ t → Floats (c ∷ s)
    step true e = inr (inr (ap number_first (eqb-true c 0x2D e), told c 0x2D s refl e (unsigned_all s (unsigned_cases s (rw e at h)))))
    step false e = unsigned_cases (c ∷ s) (rw e at h)

float_suffix_chars : (width : Width) → all suffix_char (float_suffix width) ≡ true
float_suffix_chars F32 = refl
float_suffix_chars F64 = refl

module _ {starts continues shown : ℕ → Bool} (law : Lawful starts continues shown) where
  nan_back : (on : Bool) (width : Width) → ReadsBack starts continues (float on (float_suffix width) (codes "NaN")) (float_tree (float on (float_suffix width) (codes "NaN")))
  nan_back false width = word_back law (codes "NaN") refl refl
  nan_back true F32 = word_back law (codes "NaNf32") refl refl
  nan_back true F64 = word_back law (codes "NaNf64") refl refl

  inf_back : (on : Bool) (width : Width) → ReadsBack starts continues (float on (float_suffix width) (codes "inf")) (float_tree (float on (float_suffix width) (codes "inf")))
  inf_back false width = word_back law (codes "inf") refl refl
  inf_back true F32 = word_back law (codes "inff32") refl refl
  inf_back true F64 = word_back law (codes "inff64") refl refl

  pub float_back : (s : List ℕ) (on : Bool) (width : Width) → float_refusal s ≡ None → ReadsBack starts continues (float on (float_suffix width) s) (float_tree (float on (float_suffix width) s))
  float_back s on width h = step (float_cases s (holds (float_text s) _ (neither (bytes_refusal s) _ h).1))
    where
      step : Floats s → ReadsBack starts continues (float on (float_suffix width) s) (float_tree (float on (float_suffix width) s))
      step (inl e) = rw e (nan_back on width)
      step (inr (inl e)) = rw e (inf_back on width)
      step (inr (inr p)) =
          let end = suffix_if on (float_suffix width) in
          let b = begins_append number_first s end p.0 in
          rw b (number_back starts continues (s ++ end) b (all_append number_char s end p.1 (suffixed on (float_suffix width) (float_suffix_chars width))))

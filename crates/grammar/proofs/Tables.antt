-- What the laws of tables say of the words of ASCII, and of the characters that no word has.
-- Assumes nothing.
use Rattle.std.proofs.Common.{◌≡◌, ℕ, ◌<◌, Bool, true, false, eqb, List, [], ◌∷◌, ◌++◌, refl, ap, ◌∙◌, ⊎_elim, arith, lit<}
use Rattle.std.proofs.lemmas.Bool.{both_ways, and_parts, and_from, or_cases, or_right, eqb-true}
use Rattle.std.proofs.lemmas.Bool.Decides.{nat_tests}
use Rattle.chars.specs.Blanks.{none_in}
use Rattle.chars.specs.Blanks.{blank}
use Rattle.chars.specs.Tables.{Lawful, letter, word}
use Rattle.words.specs.Classes.{all}
use Rattle.words.specs.Names.{first_char}
use Rattle.grammar.specs.Tokens.{begins, Word, number_first}
use Rattle.grammar.proofs.Behind.{closers}

word_small : (c : ℕ) → word c ≡ true → c < 0x80
word_small c h = grind (arith, nat_tests)

letter_small : (c : ℕ) → letter c ≡ true → c < 0x80
letter_small c h = grind (arith, nat_tests)

module _ {starts continues shown : ℕ → Bool} (laws : Lawful starts continues shown) where
  pub ascii_only : (x : List ℕ) → all word x ≡ true → all continues x ≡ true
  ascii_only [] h = refl
  ascii_only (c ∷ x) h =
      let p = and_parts (word c) (all word x) h in
      and_from (continues c) (all continues x) (laws.ascii_continues c (word_small c p.0) ∙ p.0) (ascii_only x p.1)

  ascii_begun : (x : List ℕ) → begins letter x ≡ true → begins (first_char starts) x ≡ true
  ascii_begun [] h = h
  ascii_begun (c ∷ x) h = or_right (eqb c 0x5F) (starts c) (laws.ascii_starts c (letter_small c h) ∙ h)

  -- a word of ASCII is a word with every table
  pub ascii_word : (x r : List ℕ) → begins letter x ≡ true → all word x ≡ true → begins continues r ≡ false → Word starts continues (x ++ r) x r
  ascii_word x r b a l = record { split = refl; begun = ascii_begun x b; only = ascii_only x a; longest = l }

  -- no comma or bracket goes on in a word
  pub no_closer_next : none_in continues (0x28 ∷ closers) ≡ true
  no_closer_next = rw (laws.ascii_continues 0x28 (lit< tt), laws.ascii_continues 0x2C (lit< tt), laws.ascii_continues 0x5D (lit< tt), laws.ascii_continues 0x29 (lit< tt))

  -- a word begins with no blank, hash, comma or closing bracket, and with no digit or minus
  pub no_blank_first : (c : ℕ) → first_char starts c ≡ true → blank c ≡ false
  no_blank_first c h = step (blank c) refl
    where
      step : (b : Bool) → blank c ≡ b → blank c ≡ false
      step false e = e
      step true e =
          absurd (⊎_elim
          (λ u. both_ways (blank c) (ap blank (eqb-true c 0x5F u)) e)
          (λ u. both_ways (continues c) (laws.no_blank_continues c e) (laws.start_continues c u))
          (or_cases (eqb c 0x5F) (starts c) h))

  pub no_closer_first : none_in (first_char starts) (0x23 ∷ closers) ≡ true
  no_closer_first = rw (laws.ascii_starts 0x23 (lit< tt), laws.ascii_starts 0x2C (lit< tt), laws.ascii_starts 0x5D (lit< tt), laws.ascii_starts 0x29 (lit< tt))

  pub no_number_first : (c : ℕ) → number_first c ≡ true → first_char starts c ≡ false
  no_number_first c h = let e : starts c ≡ letter c = laws.ascii_starts c (grind (arith, nat_tests)) in rw e (grind (arith, nat_tests))

-- The reserved words read back, but for `Some`.
use Rattle.std.proofs.Common.{◌≡◌, ℕ, suc, ◌<◌, Bool, true, false, ◌&&◌, eqb, List, [], ◌∷◌, length, get_or, codes, sym, refl, ap, ◌∙◌, ap₂, ⊎_elim, arith}
use Rattle.std.proofs.lemmas.Bool.{and_parts, or_right, or_cases, eqb-true, false≢true}
use Rattle.std.proofs.lemmas.Bool.Decides.{nat_tests}
use Rattle.chars.specs.Tables.{Lawful, letter, word}
use Rattle.words.specs.Classes.{all}
use Rattle.words.specs.Names.{agrees, same, one_of, reserved, reserved_words, first_char}
use Rattle.grammar.specs.Trees.{a_word}
use Rattle.grammar.specs.Tokens.{begins}
use Rattle.grammar.specs.Items.{word_rule, is_word}
use Rattle.grammar.specs.ReadBack.{ReadsBack}
use Rattle.grammar.proofs.Classes.{all_weaker}
use Rattle.grammar.proofs.Spelling.{ascii, spells_ascii, spells_as}
use Rattle.grammar.proofs.NamesBack.{no_continue}

-- a list that is the same as a word is that word
agrees_behind : (i : ℕ) (w cs : List ℕ) (c : ℕ) → agrees (suc i) w (c ∷ cs) ≡ agrees i w cs
agrees_behind i [] cs c = refl
agrees_behind i (d ∷ w) cs c = ap (λ t. eqb (get_or cs i 0) d && t) (agrees_behind (suc i) w cs c)

agrees_is : (cs w : List ℕ) → length cs ≡ length w → agrees 0 w cs ≡ true → cs ≡ w
agrees_is [] [] l h = refl
agrees_is [] (d ∷ w) l h = absurd (omega arith)
agrees_is (c ∷ cs) [] l h = absurd (omega arith)
agrees_is (c ∷ cs) (d ∷ w) l h =
    let p = and_parts (eqb c d) (agrees 1 w (c ∷ cs)) h in
    ap₂ ◌∷◌ (eqb-true c d p.0) (agrees_is cs w (omega arith) (sym (agrees_behind 0 w cs c) ∙ p.1))

pub same_is : (cs w : List ℕ) → same cs w ≡ true → cs ≡ w
same_is cs w h = let p = and_parts (eqb (length cs) (length w)) (agrees 0 w cs) h in agrees_is cs w (eqb-true (length cs) (length w) p.0) p.1

-- each reserved word begins with a letter, and goes on with letters and digits
abbrev plain_word : List ℕ → Bool
plain_word x = begins letter x && all word x

abbrev plain_words : List (List ℕ) → Bool
plain_words [] = true
plain_words (w ∷ ws) = plain_word w && plain_words ws

one_of_plain : (ws : List (List ℕ)) (x : List ℕ) → plain_words ws ≡ true → one_of ws x ≡ true → plain_word x ≡ true
one_of_plain [] x h k = absurd (false≢true k)
one_of_plain (w ∷ ws) x h k =
    let p = and_parts (plain_word w) (plain_words ws) h in
    ⊎_elim (λ e. ap plain_word (same_is x w e) ∙ p.0) (one_of_plain ws x p.1) (or_cases (same x w) (one_of ws x) k)

word_ascii : (c : ℕ) → word c ≡ true → (ascii c ≡ true) × (c < 0x80)
word_ascii c h = (grind (arith, nat_tests), grind (arith, nat_tests))

-- so it is a word in every table
module _ {starts continues shown : ℕ → Bool} (law : Lawful starts continues shown) where
  word_begins : (x : List ℕ) → begins letter x ≡ true → all word x ≡ true → begins (first_char starts) x ≡ true
  word_begins [] b h = absurd (false≢true b)
  word_begins (c ∷ x) b h = or_right (eqb c 0x5F) (starts c) (law.ascii_starts c (word_ascii c (and_parts (word c) (all word x) h).0).1 ∙ b)

  word_goes : (x : List ℕ) → all word x ≡ true → all continues x ≡ true
  word_goes x h = all_weaker word continues (λ c w. law.ascii_continues c (word_ascii c w).1 ∙ w) x h

  pub word_back : (x : List ℕ) → reserved x ≡ true → same x (codes "Some") ≡ false → ReadsBack starts continues x (a_word x)
  word_back x v n =
      let p = and_parts (begins letter x) (all word x) (one_of_plain reserved_words x refl v) in
      spells_as (spells_ascii x (all_weaker word ascii (λ c w. (word_ascii c w).0) x p.1))
      (λ s r e k. (word_rule, is_word (record { split = e; begun = word_begins x p.0 p.1; only = word_goes x p.1; longest = no_continue law r k }) v n))

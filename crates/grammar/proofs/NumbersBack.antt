-- Numbers read back as the characters that were written: integers.
use Rattle.std.proofs.Common.{◌≡◌, ℕ, suc, ◌<◌, Bool, true, false, List, ◌++◌, ℤ, pos, negsuc, refl, arith}
use Rattle.std.specs.Char.{digit_char as digitChar}
use Rattle.std.proofs.lemmas.Bool.{or_left}
use Rattle.std.proofs.lemmas.Bool.Decides.{nat_tests}
use Rattle.chars.proofs.Apart.{not_in}
use Rattle.chars.specs.Blanks.{blanks}
use Rattle.chars.specs.Tables.{digit}
use Rattle.words.specs.Classes.{all}
use Rattle.words.specs.Numerals.{numeral}
use Rattle.literals.specs.Integers.{suffix_if, integer}
use Rattle.grammar.specs.Trees.{a_number}
use Rattle.grammar.specs.Tokens.{begins, number_first, number_char}
use Rattle.grammar.specs.Items.{number_rule, is_number}
use Rattle.grammar.specs.ReadBack.{ReadsBack, suffix_char}
use Rattle.grammar.proofs.Spelling.{ascii, spells_ascii, spells_as}
use Rattle.grammar.proofs.Classes.{all_weaker, all_append, begins_append, begins_all, no_longer}
use Rattle.grammar.proofs.Numerals.{numeral_in, numeral_some}

number_ascii : (c : ℕ) → number_char c ≡ true → ascii c ≡ true
number_ascii c h = grind (arith, nat_tests)

pub digit_number : (c : ℕ) → digit c ≡ true → number_char c ≡ true
digit_number c h = grind (arith, nat_tests)

digit_char : (d : ℕ) → d < 10 → digit (digitChar d) ≡ true
digit_char d h = grind (arith, nat_tests)

suffix_number : (c : ℕ) → suffix_char c ≡ true → number_char c ≡ true
suffix_number c h = grind (arith, nat_tests)

pub suffixed : (on : Bool) (suffix : List ℕ) → all suffix_char suffix ≡ true → all number_char (suffix_if on suffix) ≡ true
suffixed true suffix h = all_weaker suffix_char number_char suffix_number suffix h
suffixed false suffix h = refl

-- a number is its own characters
pub number_back : (starts continues : ℕ → Bool) (x : List ℕ) → begins number_first x ≡ true → all number_char x ≡ true → ReadsBack starts continues x (a_number x)
number_back starts continues x b h =
    spells_as (spells_ascii x (all_weaker number_char ascii number_ascii x h))
    (λ s r e k. (number_rule, is_number (record { split = e; begun = b; only = h; longest = no_longer number_char (λ c. not_in number_char blanks c refl) refl r k })))

numeral_first : (n : ℕ) → begins number_first (numeral 10 n) ≡ true
numeral_first n = begins_all number_first (numeral 10 n) (numeral_some 10 n (omega arith)) (numeral_in 10 n (omega arith) number_first (λ d l. or_left (digit (digitChar d)) _ (digit_char d l)))

numeral_chars : (n : ℕ) (on : Bool) (suffix : List ℕ) → all suffix_char suffix ≡ true → all number_char (numeral 10 n ++ suffix_if on suffix) ≡ true
numeral_chars n on suffix h = all_append number_char (numeral 10 n) (suffix_if on suffix) (numeral_in 10 n (omega arith) number_char (λ d l. digit_number (digitChar d) (digit_char d l))) (suffixed on suffix h)

pub integer_back : (starts continues : ℕ → Bool) (v : ℤ) (on : Bool) (suffix : List ℕ) → all suffix_char suffix ≡ true → ReadsBack starts continues (integer v on suffix) (a_number (integer v on suffix))
integer_back starts continues (pos n) on suffix h =
    number_back starts continues (integer (pos n) on suffix) (begins_append number_first (numeral 10 n) (suffix_if on suffix) (numeral_first n)) (numeral_chars n on suffix h)
integer_back starts continues (negsuc n) on suffix h = number_back starts continues (integer (negsuc n) on suffix) refl (numeral_chars (suc n) on suffix h)

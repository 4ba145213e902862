-- The table of digit pairs: its rule is one test, which is computed over the whole table.
use Rattle.std.proofs.Common.{◌≡◌, ℕ, zero, suc, ◌+◌, ◌*◌, ◌/◌, ◌%◌, ◌<◌, Bool, true, ◌&&◌, eqb, List, [], ◌∷◌, get_or, codes, refl}
use Rattle.std.specs.Char.{digit_char}
use Rattle.std.proofs.lemmas.Bool.{and_parts, eqb-true}
use Rattle.std.proofs.lemmas.Bool.Decides.{Decides-below_and}
use Rattle.literals.specs.Bytes.{digit_pair}

unfoldable pub pairs : List ℕ
pairs = codes "000102030405060708090a0b0c0d0e0f101112131415161718191a1b1c1d1e1f202122232425262728292a2b2c2d2e2f303132333435363738393a3b3c3d3e3f404142434445464748494a4b4c4d4e4f505152535455565758595a5b5c5d5e5f606162636465666768696a6b6c6d6e6f707172737475767778797a7b7c7d7e7f808182838485868788898a8b8c8d8e8f909192939495969798999a9b9c9d9e9fa0a1a2a3a4a5a6a7a8a9aaabacadaeafb0b1b2b3b4b5b6b7b8b9babbbcbdbebfc0c1c2c3c4c5c6c7c8c9cacbcccdcecfd0d1d2d3d4d5d6d7d8d9dadbdcdddedfe0e1e2e3e4e5e6e7e8e9eaebecedeeeff0f1f2f3f4f5f6f7f8f9fafbfcfdfeff"

-- the pair of b stands at 2 b and 2 b + 1
right : ℕ → Bool
right b = eqb (get_or pairs (2 * b) 0) (digit_char (b / 16)) && eqb (get_or pairs (2 * b + 1) 0) (digit_char (b % 16))

right_below : ℕ → Bool
right_below zero = true
right_below (suc n) = right n && right_below n

all_right : right_below 256 ≡ true
unfolding pairs right right_below
all_right = refl

from_below : (n b : ℕ) → right_below n ≡ true → b < n → right b ≡ true
unfolding right_below
from_below n b h l = (Decides-below_and right (λ k. right k ≡ true) right_below (λ k. ((λ e. e), (λ e. e))) refl (λ _. refl) n).0 h b l

pub pair_right : (b : ℕ) → b < 256 → get_or pairs (2 * b) 0 ∷ get_or pairs (2 * b + 1) 0 ∷ [] ≡ digit_pair b
unfolding right
pair_right b l =
    let p = and_parts (eqb (get_or pairs (2 * b) 0) (digit_char (b / 16))) (eqb (get_or pairs (2 * b + 1) 0) (digit_char (b % 16))) (from_below 256 b all_right l) in
    let high = eqb-true (get_or pairs (2 * b) 0) (digit_char (b / 16)) p.0 in
    let low = eqb-true (get_or pairs (2 * b + 1) 0) (digit_char (b % 16)) p.1 in
    cc

-- A text is a reserved word in its bytes just where it is one in its characters.
use Rattle.std.proofs.Common.{◌≡◌, ℕ, suc, ◌<◌, ◌≤◌, Bool, true, false, ◌&&◌, ◌||◌, eqb, ltb, ◌⊎◌, List, [], ◌∷◌, ◌++◌, length, get_or, sym, refl, ap, ◌∙◌, ap₂, inl, inr, arith}
use Rattle.std.proofs.lemmas.Bool.{and_parts, and_left, ltb-true, ne_eqb}
use Rattle.std.proofs.lemmas.Bool.Decides.{nat_tests}
use Rattle.chars.specs.Utf8.{scalar, scalars, encode, encodes, utf8, decoded}
use Rattle.chars.proofs.Decoding.{encodes_decoded}
use Rattle.chars.proofs.HighBytes.{High, encode_parts}
use Rattle.words.specs.Classes.{all}
use Rattle.words.specs.Names.{agrees, same, one_of, reserved, reserved_words}

agrees_behind : (i : ℕ) (w cs : List ℕ) (c : ℕ) → agrees (suc i) w (c ∷ cs) ≡ agrees i w cs
agrees_behind i [] cs c = refl
agrees_behind i (d ∷ w) cs c = ap (λ t. eqb (get_or cs i 0) d && t) (agrees_behind (suc i) w cs c)

eqb_suc : (m n : ℕ) → eqb (suc m) (suc n) ≡ eqb m n
eqb_suc m n = grind (arith, nat_tests)

exchange : (a b c : Bool) → (a && (b && c)) ≡ (b && (a && c))
exchange true b c = refl
exchange false true c = refl
exchange false false c = refl

same_cons : (c d : ℕ) (cs w : List ℕ) → same (c ∷ cs) (d ∷ w) ≡ (eqb c d && same cs w)
same_cons c d cs w =
    ap (λ t. t && (eqb c d && agrees 1 w (c ∷ cs))) (eqb_suc (length cs) (length w))
    ∙ ap (λ t. eqb (length cs) (length w) && (eqb c d && t)) (agrees_behind 0 w cs c)
    ∙ exchange (eqb (length cs) (length w)) (eqb c d) (agrees 0 w cs)

-- a word of ASCII is in the characters of a text as it is in its bytes
longer : (c : ℕ) (cs : List ℕ) → same (c ∷ cs) [] ≡ false
longer c cs = and_left (eqb (suc (length cs)) 0) true (ne_eqb (suc (length cs)) 0 (omega arith))

ascii : ℕ → Bool
ascii c = ltb c 0x80

same_encodes : (cs w : List ℕ) → scalars cs ≡ true → all ascii w ≡ true → same (encodes cs) w ≡ same cs w
unfolding ascii
same_encodes [] w h k = refl
same_encodes (c ∷ cs) [] h k = step (encode_parts c (and_parts (scalar c) (scalars cs) h).0)
  where
    step : (encode c ≡ c ∷ []) ⊎ ((0x80 ≤ c) × (b : ℕ) × (s : List ℕ) × (encode c ≡ b ∷ s) × High (b ∷ s)) → same (encode c ++ encodes cs) [] ≡ same (c ∷ cs) []
    step (inl e) = ap (λ z. same (z ++ encodes cs) []) e ∙ longer c (encodes cs) ∙ sym (longer c cs)
    step (inr (l, b, s, e, x)) = ap (λ z. same (z ++ encodes cs) []) e ∙ longer b (s ++ encodes cs) ∙ sym (longer c cs)
same_encodes (c ∷ cs) (d ∷ w) h k =
    step (same_encodes cs w (and_parts (scalar c) (scalars cs) h).1 (and_parts (ascii d) (all ascii w) k).1) (encode_parts c (and_parts (scalar c) (scalars cs) h).0)
  where
    low : d < 0x80
    low = ltb-true d 0x80 (and_parts (ascii d) (all ascii w) k).0

    step : same (encodes cs) w ≡ same cs w → (encode c ≡ c ∷ []) ⊎ ((0x80 ≤ c) × (b : ℕ) × (s : List ℕ) × (encode c ≡ b ∷ s) × High (b ∷ s)) → same (encode c ++ encodes cs) (d ∷ w) ≡ same (c ∷ cs) (d ∷ w)
    step more (inl e) =
        ap (λ z. same (z ++ encodes cs) (d ∷ w)) e ∙ same_cons c d (encodes cs) w ∙ ap (λ t. eqb c d && t) more ∙ sym (same_cons c d cs w)
    step more (inr (l, b, s, e, x)) =
        ap (λ z. same (z ++ encodes cs) (d ∷ w)) e
        ∙ same_cons b d (s ++ encodes cs) w ∙ and_left (eqb b d) _ (ne_eqb b d (λ q. omega (arith, low, x.0)))
        ∙ sym (same_cons c d cs w ∙ and_left (eqb c d) _ (ne_eqb c d (λ q. omega (arith, low))))

abbrev AllAscii : List (List ℕ) → Type 0
AllAscii [] = Unit {0}
AllAscii (w ∷ ws) = (all ascii w ≡ true) × AllAscii ws

one_of_encodes : (ws : List (List ℕ)) (cs : List ℕ) → scalars cs ≡ true → AllAscii ws → one_of ws (encodes cs) ≡ one_of ws cs
one_of_encodes [] cs h k = refl
one_of_encodes (w ∷ ws) cs h k = ap₂ (λ (a b : Bool). a || b) (same_encodes cs w h k.0) (one_of_encodes ws cs h k.1)

pub reserved_decoded : (s : List ℕ) → utf8 s ≡ true → reserved s ≡ reserved (decoded s)
unfolding ascii
reserved_decoded s u =
    let d = encodes_decoded s u in
    ap reserved (sym d.1) ∙ one_of_encodes reserved_words (decoded s) d.0 (refl, (refl, (refl, (refl, (refl, (refl, (refl, (refl, (refl, (refl, tt))))))))))

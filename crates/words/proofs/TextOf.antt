-- Texts of one class, a character at a time.
use Rattle.std.proofs.Common.{◌≡◌, ℕ, ◌<◌, Bool, true, false, ◌&&◌, List, [], ◌++◌, length, is_some, None, unwrap_or, sym, refl, ap, ◌∙◌}
use Rattle.std.proofs.lemmas.Bool.{and_left, and_right}
use Rattle.chars.specs.Utf8.{scalar, encode, utf8, decoded, Front}
use Rattle.chars.proofs.Decoding.{utf8_past, decoded_past, utf8_broken, decode_nil}
use Rattle.words.specs.Classes.{all, text_of}

module _ (p : ℕ → Bool) where
  text_of_past : (s r : List ℕ) (c : ℕ) → scalar c ≡ true → s ≡ encode c ++ r → text_of p s ≡ (p c && text_of p r)
  text_of_past s r c h e = step (utf8 s) refl
    where
      step : (t : Bool) → utf8 s ≡ t → text_of p s ≡ (p c && text_of p r)
      step true u =
          ap (λ t. t && all p (decoded s)) u
          ∙ ap (all p) (decoded_past s r c h e u)
          ∙ ap (λ t. p c && (t && all p (decoded r))) (sym u ∙ utf8_past s r c h e)
      step false u =
          and_left (utf8 s) (all p (decoded s)) u
          ∙ sym (and_right (p c) (text_of p r) (and_left (utf8 r) (all p (decoded r)) (sym (utf8_past s r c h e) ∙ u)))

  -- a character in the set leaves it to the rest, and one that is not decides
  pub text_of_in : (s r : List ℕ) (c : ℕ) → scalar c ≡ true → s ≡ encode c ++ r → true ≡ p c → text_of p s ≡ text_of p r
  text_of_in s r c h e i = text_of_past s r c h e ∙ ap (λ t. t && text_of p r) (sym i)

  pub text_of_out : (s r : List ℕ) (c : ℕ) → scalar c ≡ true → s ≡ encode c ++ r → false ≡ p c → text_of p s ≡ false
  text_of_out s r c h e i = text_of_past s r c h e ∙ ap (λ t. t && text_of p r) (sym i)

  pub text_of_none : (s : List ℕ) → s ≡ [] → text_of p s ≡ true
  text_of_none s e = ap (text_of p) e ∙ ap (λ o. is_some o && all p (unwrap_or o [])) decode_nil

  pub text_of_broken : (s : List ℕ) → 0 < length s → Front s None → text_of p s ≡ false
  text_of_broken s l f = and_left (utf8 s) (all p (decoded s)) (utf8_broken s l f)

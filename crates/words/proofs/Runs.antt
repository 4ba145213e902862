-- Escaped text, a run of plain characters and an escape at a time.
use Rattle.std.proofs.Common.{◌≡◌, ℕ, Bool, true, false, List, ◌∷◌, ◌++◌, sym, ap, ◌∙◌, append_assoc}
use Rattle.chars.specs.Utf8.{encode}
use Rattle.output.specs.Puts.{Adds, Puts}
use Rattle.output.proofs.Pieces.{puts_as, puts_then, puts_stop}
use Rattle.words.specs.Escapes.{escape, escapes}

-- some bytes of which the front stands for itself: the front with one character more
pub plain_more : (shown : ℕ → Bool) {s rest after whole rs ds : List ℕ} {c : ℕ} → rest ≡ encode c ++ after → rs ≡ c ∷ ds → encode c ≡ escape shown c
    → (x : List ℕ) × (s ≡ x ++ rest) × (whole ≡ x ++ escapes shown rs)
    → (x : List ℕ) × (s ≡ x ++ after) × (whole ≡ x ++ escapes shown ds)
plain_more shown {after = after} {ds = ds} {c = c} e q w (x, p, f) = (
  x ++ encode c,
  p ∙ ap (λ z. x ++ z) e ∙ sym (append_assoc x (encode c) after),
  f ∙ ap (λ z. x ++ escapes shown z) q ∙ ap (λ z. x ++ (z ++ escapes shown ds)) (sym w) ∙ sym (append_assoc x (encode c) (escapes shown ds)),
)

-- put to an output: the plain bytes of a text are out, and the next character c behind them has the escape w
module _ (shown : ℕ → Bool) {whole ds bs w : List ℕ} (plain : List ℕ) {c : ℕ} (parts : whole ≡ plain ++ escapes shown ds) (e : ds ≡ c ∷ bs) (is : w ≡ escape shown c) where
  escape_next : plain ++ (w ++ escapes shown bs) ≡ whole
  escape_next = ap (λ z. plain ++ (z ++ escapes shown bs)) is ∙ ap (λ z. plain ++ escapes shown z) (sym e) ∙ sym parts

  -- it did not fit
  pub escape_stops : {X : Type 0} {room : X → ℕ} {took : X → List ℕ → X → Type 0} {x y z : X} → Adds took → Puts room took x plain true y → Puts room took y w false z → Puts room took x whole false z
  escape_stops laws p q = puts_as escape_next (puts_then laws p (puts_stop _ q))

  -- it is out, and the rest follows
  pub escape_goes : {X : Type 0} {room : X → ℕ} {took : X → List ℕ → X → Type 0} {x y z end : X} {r : Bool} → Adds took → Puts room took x plain true y → Puts room took y w true z → Puts room took z (escapes shown bs) r end → Puts room took x whole r end
  escape_goes laws p q more = puts_as escape_next (puts_then laws p (puts_then laws q more))

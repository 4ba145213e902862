-- What it tells that an argument is not refused.
use Rattle.std.proofs.Common.{◌≡◌, ℕ, Bool, true, false, List, Some, None, Option, refl, arith}
use Rattle.chars.specs.Utf8.{utf8}
use Rattle.words.specs.Refusals.{refused_unless, first_refusal, text_refusal}
use Rattle.words.specs.declared.refusal.Refusal.{Refusal}

pub neither : (o p : Option Refusal) → first_refusal o p ≡ None → (o ≡ None) × (p ≡ None)
neither None p e = (refl, e)
neither (Some f) p e = let z : ◌≡◌ {A = ℕ} 0 1 = cc in absurd (omega arith)

pub holds : (t : Bool) (e : Refusal) → refused_unless t e ≡ None → t ≡ true
holds true e h = refl
holds false e h = let z : ◌≡◌ {A = ℕ} 0 1 = cc in absurd (omega arith)

pub text_accepted : (s : List ℕ) → text_refusal s ≡ None → utf8 s ≡ true
text_accepted s h = holds (utf8 s) _ (neither _ _ h).1

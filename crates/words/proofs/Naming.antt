-- Names, by their bytes.
use Rattle.std.proofs.Common.{◌≡◌, ℕ, ◌<◌, Bool, true, false, not, ◌&&◌, List, [], ◌∷◌, length, Some, None, Ok, Option, unwrap_or, sym, refl, ap, ◌∙◌, ap₂, arith}
use Rattle.std.proofs.lemmas.List.{nil_from_length}
use Rattle.chars.specs.Texts.{characters, text_bytes}
use Rattle.chars.specs.Utf8.{encodes, utf8, decoded}
use Rattle.chars.specs.declared.text.Text.{Text}
use Rattle.chars.proofs.Decoding.{encodes_decoded, decode_nil}
use Rattle.words.specs.Classes.{all, raw_char}
use Rattle.words.specs.Names.{reserved, name, first_char, bare, form, formed, identifier}
use Rattle.words.specs.Refusals.{refused_unless, first_refusal, text_refusal, name_refusal, unless}
use Rattle.words.specs.declared.name.Form.{Form}
use Rattle.words.specs.declared.refusal.Refusal.{Refusal}
use Rattle.words.proofs.Reserved.{reserved_decoded}

-- no bytes, no name
pub name_none : (continues : ℕ → Bool) (t : Text) → length (text_bytes t) ≡ 0 → name continues (characters t) ≡ false
name_none continues t e = ap (λ z. name continues (decoded z)) (nil_from_length (text_bytes t) e) ∙ ap (λ o. name continues (unwrap_or o [])) decode_nil

-- else raw characters make a name
pub name_some : (continues : ℕ → Bool) (t : Text) → 0 < length (text_bytes t) → all (raw_char continues) (characters t) ≡ name continues (characters t)
name_some continues t l = step (characters t) (encodes_decoded (text_bytes t) t.is_utf8).1
  where
    step : (cs : List ℕ) → encodes cs ≡ text_bytes t → all (raw_char continues) cs ≡ name continues cs
    step [] e = absurd (omega (arith, ap length e))
    step (c ∷ cs) e = refl

-- a name that is begun by a first character and goes on as it should is bare unless it is reserved
pub bare_word : (starts continues : ℕ → Bool) (t : Text) (c : ℕ) (cs : List ℕ) → characters t ≡ c ∷ cs → first_char starts c ≡ true → all continues cs ≡ true
    → not (reserved (text_bytes t)) ≡ bare starts continues (characters t)
bare_word starts continues t c cs e p q =
    ap not (reserved_decoded (text_bytes t) t.is_utf8 ∙ ap reserved e)
    ∙ sym (ap₂ (λ (a b : Bool). a && b && not (reserved (c ∷ cs))) p q)
    ∙ sym (ap (bare starts continues) e)

-- what an accepted name tells
accepted : {A : Type 0} (o : Option Refusal) (x y : A) → Ok x ≡ unless o y → (o ≡ None) × (x ≡ y)
accepted None x y e = (refl, (cc))
accepted (Some f) x y e = let z : ◌≡◌ {A = ℕ} 0 1 = cc in absurd (omega arith)

-- what tests that refuse nothing tell
neither : (o p : Option Refusal) → first_refusal o p ≡ None → (o ≡ None) × (p ≡ None)
neither None p e = (refl, e)
neither (Some f) p e = let z : ◌≡◌ {A = ℕ} 0 1 = cc in absurd (omega arith)

holds : (t : Bool) (e : Refusal) → refused_unless t e ≡ None → t ≡ true
holds true e h = refl
holds false e h = let z : ◌≡◌ {A = ℕ} 0 1 = cc in absurd (omega arith)

pub written_name : (starts continues : ℕ → Bool) (s : List ℕ) (f : Form) → Ok f ≡ unless (name_refusal continues s) (form starts continues (decoded s))
    → (name_refusal continues s ≡ None) × (formed f s ≡ identifier starts continues (decoded s))
written_name starts continues s f e =
    let a = accepted (name_refusal continues s) f (form starts continues (decoded s)) e in
    let u = holds (utf8 s) _ (neither _ _ (neither (text_refusal s) _ a.0).0).1 in
    (a.0, ap (λ g. formed g s) a.1 ∙ ap (formed (form starts continues (decoded s))) (sym (encodes_decoded s u).1))

-- Blanks one after another are blanks, and bytes that spell blanks, or a comma and blanks, one after another too.
use Rattle.std.proofs.Common.{◌≡◌, ℕ, zero, suc, Bool, true, cond, List, [], ◌++◌, codes, sym, refl, ap, ◌∙◌, append_assoc}
use Rattle.std.proofs.lemmas.Bool.{and_parts, cond_both}
use Rattle.chars.specs.Blanks.{blank}
use Rattle.chars.proofs.Decoding.{encodes_decoded}
use Rattle.chars.specs.Utf8.{utf8, decoded}
use Rattle.words.specs.Classes.{all, text_of}
use Rattle.grammar.specs.Tokens.{Blanks}
use Rattle.grammar.specs.Items.{Items, no_items, some_items}
use Rattle.grammar.specs.Items as items
use Rattle.grammar.specs.ReadBack.{Spells}
use Rattle.grammar.specs.Trees.{Trees}
use Rattle.grammar.proofs.Classes.{all_append}
use Rattle.grammar.proofs.Spelling.{spells_then, spells_ascii, spells_as}
use Rattle.model.specs.Layouts.{repeated}

-- these blanks, and then r
blanks_to : (g r : List ℕ) → all blank g ≡ true → Blanks (g ++ r) r
blanks_to g r h = record { skipped = g; split = refl; only = h }

pub no_blanks : (r : List ℕ) → Blanks r r
no_blanks r = blanks_to [] r refl

pub blanks_then : {s s' r : List ℕ} → Blanks s s' → Blanks s' r → Blanks s r
blanks_then {r = r} a b = record {
  skipped = a.skipped ++ b.skipped;
  split = a.split ∙ ap (λ z. a.skipped ++ z) b.split ∙ sym (append_assoc a.skipped b.skipped r);
  only = all_append blank a.skipped b.skipped a.only b.only;
}

-- blanks may stand behind an opening bracket or a comma
pub blank_items : {starts continues : ℕ → Bool} {b : items.Bracket} {s s' r : List ℕ} {ts : Trees} → Blanks s s' → Items starts continues b s' ts r → Items starts continues b s ts r
blank_items k (no_items l) = no_items (blanks_then k l)
blank_items k (some_items l i m) = some_items (blanks_then k l) i m

-- bytes that spell blanks
abbrev pub Blank : List ℕ → Type 0
Blank x = Spells Blanks x

pub blank_text : (x : List ℕ) → text_of blank x ≡ true → Blank x
blank_text x h =
    let p = and_parts (utf8 x) (all blank (decoded x)) h in
    let e = encodes_decoded x p.0 in
    record { characters = decoded x; spelled = sym e.1; valid = e.0; before = λ r. blanks_to (decoded x) r p.1 }

pub blank_none : Blank []
blank_none = spells_as (spells_ascii [] refl) (λ s r e. record { skipped = []; split = e; only = refl })

pub blank_both : {x y : List ℕ} → Blank x → Blank y → Blank (x ++ y)
blank_both p q = spells_then p q (λ s s' r. blanks_then)

pub blank_repeated : (n : ℕ) (x : List ℕ) → Blank x → Blank (repeated n x)
blank_repeated zero x h = blank_none
blank_repeated (suc n) x h = blank_both h (blank_repeated n x h)

pub blank_if : (b : Bool) (x : List ℕ) → Blank x → Blank (cond b x [])
blank_if b x h = cond_both b x [] Blank (λ _. h) (λ _. blank_none)

-- a comma, and then blanks
abbrev pub Comma : List ℕ → Type 0
Comma x = Spells (λ s r. (s' : List ℕ) × Blanks s (codes "," ++ s') × Blanks s' r) x

pub comma_then : (x : List ℕ) → Blank x → Comma (codes "," ++ x)
comma_then x h = spells_then (spells_ascii (codes ",") refl) h (λ s s' r e k. (s', record { skipped = []; split = e; only = refl }, k))

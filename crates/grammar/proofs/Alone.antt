-- A literal by itself is a whole text.
use Rattle.std.proofs.Common.{◌≡◌, ℕ, Bool, List, [], is_some, Some, unwrap_or, sym, refl, ap, ◌∙◌, subst, append-nil}
use Rattle.chars.specs.Utf8.{decode}
use Rattle.chars.proofs.Decoding.{decode_encodes}
use Rattle.grammar.specs.Trees.{Tree}
use Rattle.grammar.specs.Tokens.{Blanks}
use Rattle.grammar.specs.Items.{Item}
use Rattle.grammar.specs.Readings.{no_headers, Reading, Reads}
use Rattle.grammar.specs.ReadBack.{ReadsBack}

no_blanks : (s : List ℕ) → Blanks s s
no_blanks s = record { skipped = []; split = refl; only = refl }

pub whole_literal : (starts continues : ℕ → Bool) (literal : List ℕ) (t : Tree) → ReadsBack starts continues literal t → Reads starts continues literal t
whole_literal starts continues literal t p =
    let cs = p.characters in
    let d : decode literal ≡ Some cs = ap decode p.spelled ∙ decode_encodes cs p.valid in
    let i = p.before [] refl in
    record {
      valid = ap is_some d;
      reading = subst (λ s. Reading starts continues s t) (sym (ap (λ o. unwrap_or o []) d)) (record {
        rule = i.0;
        behind_headers = cs;
        from = cs;
        upto = [];
        headers = no_headers refl;
        before = no_blanks cs;
        item = subst (λ s. Item starts continues i.0 s t []) (append-nil cs) i.1;
        after = no_blanks [];
      });
    }

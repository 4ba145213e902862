-- What is shown of a name reads back as the name.
use Rattle.std.proofs.Common.{◌≡◌, ℕ, Bool, List, Some, None, Ok, Option, Result, sym, refl, ap, subst}
use Rattle.chars.specs.Utf8.{decoded}
use Rattle.grammar.specs.ReadBack.{ReadsBack, LiteralsReadBack}
use Rattle.grammar.specs.Readings.{ReadsOnly, NoTextHasTwoReadings}
use Rattle.grammar.specs.Trees.{Tree}
use Rattle.words.specs.Escapes.{escaped_str}
use Rattle.words.specs.Names.{identifier}
use Rattle.words.specs.RawText.{unescaped_or_raw_str}
use Rattle.words.specs.Refusals.{first_refusal, text_refusal, name_refusal, unless}
use Rattle.words.specs.Whole.{refused_or_short}
use Rattle.words.specs.declared.refusal.Refusal.{Refusal}
use Rattle.batch_names.specs.Forms.{line_unless, forms, LinesReadBack}

-- where nothing refuses, the first reason does not
not_first : (o p : Option Refusal) {u : Unit {0}} → ◌≡◌ {A = Result (Unit {0}) Refusal} (Ok u) (unless (first_refusal o p) tt) → o ≡ None
not_first None p h = refl
not_first (Some e) p h = cc

module _ (starts continues shown : ℕ → Bool) (back : LiteralsReadBack starts continues shown) (once : NoTextHasTwoReadings starts continues) where
  only : {x : List ℕ} {t : Tree} → ReadsBack starts continues x t → ReadsOnly starts continues x t
  only {x = x} {t = t} b = let r = back.alone x t b in record { reads = r; only = λ t' r'. once x t' t r' r }

  forms_back : (s : List ℕ) → text_refusal s ≡ None → LinesReadBack starts continues shown s (forms starts continues shown s)
  forms_back s h = record {
    escaped = escaped_str shown (decoded s);
    plain = unescaped_or_raw_str (decoded s);
    last = line_unless (name_refusal continues s) (identifier starts continues (decoded s));
    cut = refl;
    escaped_reads = only (back.escaped_texts s h);
    plain_reads = only (back.plain_texts s h);
    last_reads = λ n. (identifier starts continues (decoded s), ap (λ o. line_unless o (identifier starts continues (decoded s))) n, only (back.name_items s n));
  }

  pub written_back : (s : List ℕ) (n : ℕ) {u : Unit {0}} (lines : List ℕ) → ◌≡◌ {A = Result (Unit {0}) Refusal} (Ok u) (unless (refused_or_short (text_refusal s) (forms starts continues shown s) n) tt)
      → lines ≡ forms starts continues shown s → LinesReadBack starts continues shown s lines
  written_back s n lines h e = subst (LinesReadBack starts continues shown s) (sym e) (forms_back s (not_first (text_refusal s) _ h))

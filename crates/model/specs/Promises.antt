-- What holds of every run: when it can be finished, and what the finished text reads as.
-- `Reads` is the grammar of RON as a relation, with the table that wrote the text. Assumes nothing.
use Rattle.std.specs.Prelude.{◌≡◌, ◌↔◌, None}
use Rattle.grammar.specs.Readings.{Extension, Reads}
use Rattle.grammar.specs.Trees.{Tree}
use Rattle.model.specs.Requests.{finish}
use Rattle.model.specs.Places.{refusal}
use Rattle.model.specs.Making.{Makes, OneWholeValue}
use Rattle.model.specs.Runs.{Run, reached, document_text, accepted, style}

-- finish is accepted where the run leads to
abbrev pub Finishes : Run → Type 0
Finishes run = refusal (reached run) finish ≡ None

-- the document's text, read with the table that wrote it, reads as a tree
abbrev pub RunReads : Run → Tree → Type 0
RunReads run t = Reads run.table.starts run.table.continues (document_text run) t

-- finish is accepted exactly when the accepted calls are one whole value
abbrev pub WholeValuesAloneFinish : Type 0
WholeValuesAloneFinish = (run : Run) → Finishes run ↔ OneWholeValue (style run) (accepted run)

-- a text that can be finished reads as the tree of the accepted calls, and as no other
abbrev pub FinishedTextReadsAsItsCalls : Type 0
FinishedTextReadsAsItsCalls =
    (run : Run) → Finishes run
    → (t : Tree) × Makes (style run) (accepted run) t × RunReads run t × ((t' : Tree) → RunReads run t' → t' ≡ t)

-- two runs with the same extensions on, and names and suffixes alike
pub record Alike (run run' : Run) : Type 0 where
  pub extensions : (e : Extension) → (style run).on e ≡ (style run').on e
  pub names : (style run).names ≡ (style run').names
  pub suffixes : (style run).suffixes ≡ (style run').suffixes

-- two runs that can be finished, with equal accepted calls and alike, have the same readings, however layout, escaping, limits, tables and sinks differ
abbrev pub SameCallsSameReadings : Type 0
SameCallsSameReadings =
    (run run' : Run) → Finishes run → Finishes run' → accepted run ≡ accepted run' → Alike run run'
    → (t : Tree) → RunReads run t ↔ RunReads run' t

-- all three together
pub record EveryRunReadsAsItsCalls : Type 0 where
  pub whole : WholeValuesAloneFinish
  pub reads : FinishedTextReadsAsItsCalls
  pub same : SameCallsSameReadings

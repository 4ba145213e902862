-- Runs: a newly begun document meets requests one after another, and accepts or refuses each.
-- Requests and calls stand in lists with the newest first. Assumes nothing.
use Rattle.std.specs.Prelude.{ℕ, List, [], ◌∷◌, ◌++◌, length, drop}
use Rattle.std.specs.List.{AllByRecursion}
use Rattle.chars.specs.Tables.{Lawful}
use Rattle.model.specs.Refusals.{unless}
use Rattle.model.specs.Settings.{Settings, on, names, suffixed}
use Rattle.model.specs.Requests.{Request, Fits, Call, call_of}
use Rattle.model.specs.States.{Table, State}
use Rattle.model.specs.Beginnings.{begun}
use Rattle.model.specs.Places.{refusal}
use Rattle.model.specs.Steps.{next}
use Rattle.model.specs.Making.{Style}

-- any lawful table, any settings, any sink, any requests
pub record Run : Type 0 where
  pub table : Table
  pub lawful : Lawful table.starts table.continues table.shown
  pub settings : Settings
  -- the sink at the beginning: the text that it holds already, and how much more it takes
  pub held : List ℕ
  pub space : ℕ
  pub requests : List Request
  pub fit : AllByRecursion Fits requests

-- the state after requests
abbrev pub after : State → List Request → State
after s [] = s
after s (r ∷ rs) = next (after s rs) r

-- the calls that were accepted
abbrev pub accepted_from : State → List Request → List Call
accepted_from s [] = []
accepted_from s (r ∷ rs) = unless (refusal (after s rs) r) (call_of r ∷ accepted_from s rs) (λ e. accepted_from s rs)

-- where a run begins, where it leads to, and what of it was accepted
abbrev pub beginning : Run → State
beginning run = begun run.table run.settings run.space

abbrev pub reached : Run → State
reached run = after (beginning run) run.requests

abbrev pub accepted : Run → List Call
accepted run = accepted_from (beginning run) run.requests

-- what the sink holds then: what it held before, and behind it what the document appended
abbrev pub sink_text : Run → List ℕ
sink_text run = run.held ++ (reached run).text

-- the document's text is what stands in the sink behind what it held before
abbrev pub document_text : Run → List ℕ
document_text run = drop (length run.held) (sink_text run)

-- what its tree depends on besides the accepted calls
abbrev pub style_of : Settings → Style
style_of s = record { on = on s; names = names s; suffixes = suffixed s.config }

abbrev pub style : Run → Style
style run = style_of run.settings

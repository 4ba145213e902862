-- Every finished text reads as the tree of its accepted calls, and as no other.
use Rattle.std.proofs.Common.{◌≡◌, ℕ, Bool, true, false, List, [], ◌∷◌, ◌++◌, Some, None, Option, sym, refl, ap, ◌∙◌, subst, ap₂, append-nil}
use mathlib.Core.Path.{fun_ext}
use Rattle.std.specs.List.{AllByRecursion}
use Rattle.std.proofs.lemmas.Bool.{true≢false, false≢true}
use Rattle.chars.specs.Tables.{Lawful}
use Rattle.words.specs.declared.refusal.Refusal.{Refusal as WordRefusal}
use Rattle.grammar.specs.Trees.{Tree}
use Rattle.grammar.specs.Readings.{Reading, Reads}
use Rattle.grammar.specs.ReadBack.{Spells}
use Rattle.grammar.proofs.Unique.{unique}
use Rattle.grammar.proofs.Worked.{read}
use Rattle.model.specs.Refusals.{argument, unless}
use Rattle.model.specs.Settings.{Settings, on}
use Rattle.model.specs.Requests.{Ticket, Request, put, start, end, abandon, finish, Fits, Call, call_of}
use Rattle.model.specs.States.{Table, Frame, Layout, State}
use Rattle.model.specs.Beginnings.{beginning_refusal, header_of, new, begun}
use Rattle.model.specs.Spellings.{end_bytes}
use Rattle.model.specs.Places.{shows, lacks_value, refusal}
use Rattle.model.specs.Steps.{effect}
use Rattle.model.specs.Making.{Held, Made, close, made, Makes}
use Rattle.model.specs.Runs.{Run, after, accepted_from, reached, document_text, accepted, style_of, style}
use Rattle.model.specs.Promises.{Finishes, RunReads, Alike, FinishedTextReadsAsItsCalls, EveryRunReadsAsItsCalls}
use Rattle.model.specs.declared.refusal.Refusal.{Refusal}
use Rattle.model.proofs.Beginning.{laid_out, header_heads}
use Rattle.model.proofs.Blanks.{no_blanks}
use Rattle.model.proofs.Following.{Follows, Following, goes_beside, following, whole_values_alone_finish}
use Rattle.model.proofs.Layouts.{Laid}
use Rattle.model.proofs.Stepping.{admitted, ends_well, accepts_open, reached_keeps, own_text}
use Rattle.model.proofs.Testing.{some_is_not_none, passes, passes_if}
use Rattle.model.proofs.Texts.{Ends, first_slot}
use Rattle.model.proofs.Writing.{Written, value_written, opening_written, end_written}

-- an argument that does not refuse the call is not refused
not_refused : (o : Option WordRefusal) → argument o ≡ None → o ≡ None
not_refused None e = refl
not_refused (Some x) e = absurd (some_is_not_none e)

-- the text of what calls made, if they made something
abbrev MadeText : Table → Settings → Option Made → List ℕ → Type 0
MadeText table settings None b = Unit {0}
MadeText table settings (Some m) b = Written table settings m.frames m.top b

-- the text of an open document that accepted these calls
record Texted (table : Table) (settings : Settings) (cs : List Call) (text : List ℕ) : Type 0 where
  laid : Laid settings.config
  written : MadeText table settings (made (style_of settings) cs) text

abbrev TextedState : State → List Call → Type 0
TextedState p cs = Texted p.table p.settings cs p.text

-- an end that is accepted closes a frame
end_step : (table : Table) (laws : Lawful table.starts table.continues table.shown) (settings : Settings) (laid : Laid settings.config) (l : Layout)
    (fs : List Frame) (filled : Bool) (d : ℕ) (t : Ticket) (hs : List Held) (top : List Tree) (b : List ℕ) → shows fs (Some t) ≡ true → lacks_value fs ≡ false
    → Follows (on settings) fs filled d hs top → Written table settings hs top b → MadeText table settings (close (style_of settings) hs top) (b ++ end_bytes settings l fs)
end_step table laws settings laid l [] filled d t hs top b e k a w = absurd (false≢true e)
end_step table laws settings laid l (f ∷ fs) filled d t [] top b e k a w = absurd a.frames
end_step table laws settings laid l (f ∷ fs) filled d t (h ∷ hs) top b e k a w = end_written table laws settings laid l f fs filled d h hs top b k a w

-- an accepted request
accepted_step : (p : State) (cs : List Call) (r : Request) → Lawful p.table.starts p.table.continues p.table.shown → Fits r → refusal p r ≡ None → (m : Made) → made (style_of p.settings) cs ≡ Some m
    → Follows (on p.settings) p.frames p.filled p.implicit_some_depth m.frames m.top → Laid p.settings.config → Written p.table p.settings m.frames m.top p.text
    → TextedState (effect p r) (call_of r ∷ cs)
accepted_step p cs (put t v) laws fit e m q a laid w =
    let h = passes _ _ e in
    record {
      laid = laid;
      written = rw q (value_written p.table laws p.settings laid p.layout p.frames p.filled p.implicit_some_depth m.frames m.top p.text v (admitted p t h.0).place a fit (not_refused _ (passes _ _ h.1).0) w);
    }
accepted_step p cs (start t o) laws fit e m q a laid w =
    let h = passes _ _ e in
    record {
      laid = laid;
      written = rw q (opening_written p.table laws p.settings laid p.layout p.frames p.filled p.implicit_some_depth m.frames m.top p.text o (admitted p t h.0).place a (not_refused _ (passes _ _ h.1).0) w);
    }
accepted_step p cs (end t) laws fit e m q a laid w =
    let h = ends_well p t e in
    record {
      laid = laid;
      written = rw q (end_step p.table laws p.settings laid p.layout p.frames p.filled p.implicit_some_depth t m.frames m.top p.text h.0 h.1 a w);
    }
accepted_step p cs abandon laws fit e m q a laid w = record { laid = laid; written = rw q w }
accepted_step p cs finish laws fit e m q a laid w = record { laid = laid; written = rw q w }

-- a request, accepted or not
request_step : (p : State) (cs : List Call) (r : Request) (o : Option Refusal) → refusal p r ≡ o → Lawful p.table.starts p.table.continues p.table.shown → Fits r
    → Following p p.settings cs → (p.closed ≡ false → TextedState p cs) → (unless o (effect p r) (λ e. p)).closed ≡ false
    → TextedState (unless o (effect p r) (λ e. p)) (unless o (call_of r ∷ cs) (λ e. cs))
request_step p cs r (Some x) e laws fit f ih c = ih c
request_step p cs r None e laws fit f ih c =
    let k = accepts_open p r e in
    let m = goes_beside p p.settings cs f k in
    accepted_step p cs r laws fit e m.0 m.1 m.2 (ih k).laid (rw m.1 at (ih k).written)

-- a document that begins has its header for a text
begun_text : (table : Table) (settings : Settings) (space : ℕ) (o : Option Refusal) → beginning_refusal settings space ≡ o → (x y : ℕ)
    → (unless o (new table settings false (header_of settings) x) (λ e. new table settings true [] y)).closed ≡ false
    → TextedState (unless o (new table settings false (header_of settings) x) (λ e. new table settings true [] y)) []
begun_text table settings space (Some r) e x y c = absurd (true≢false c)
begun_text table settings space None e x y c =
    let laid = laid_out settings.config (passes _ _ e).0 in
    record { laid = laid; written = first_slot table settings (header_heads settings laid) }

-- every text on the way of a run
texts : (table : Table) (laws : Lawful table.starts table.continues table.shown) (settings : Settings) (space : ℕ) (rs : List Request) → AllByRecursion Fits rs
    → (after (begun table settings space) rs).closed ≡ false → TextedState (after (begun table settings space) rs) (accepted_from (begun table settings space) rs)
texts table laws settings space [] fit c = begun_text table settings space (beginning_refusal settings space) refl _ _ c
texts table laws settings space (r ∷ rs) fit c =
    let run : Run = record { table = table; lawful = laws; settings = settings; held = []; space = space; requests = rs; fit = fit.1 } in
    let kept = reached_keeps run in
    request_step (reached run) (accepted run) r (refusal (reached run) r) refl (subst (λ t. Lawful t.starts t.continues t.shown) (sym kept.0) laws) fit.0
    (subst (λ z. Following (reached run) z (accepted run)) (sym kept.1) (following run)) (texts table laws settings space rs fit.1) c

-- a text that ends with an item at the top reads as that item
reads_as : (table : Table) (settings : Settings) (t : Tree) (b : List ℕ) → Spells (Ends table settings [] t) b → Reads table.starts table.continues b t
reads_as table settings t b p =
    let whole = subst (λ s. Reading table.starts table.continues s t) (append-nil p.characters) (p.before [] t (no_blanks [], refl)) in
    subst (λ z. Reads table.starts table.continues z t) (sym p.spelled) (read p.characters p.valid whole)

-- so a finished text reads as what the calls made
finished_reads : (run : Run) → Finishes run → (t : Tree) → Makes (style run) (accepted run) t → RunReads run t
finished_reads run f t e =
    let kept = reached_keeps run in
    let here = texts run.table run.lawful run.settings run.space run.requests run.fit (passes_if _ _ (passes _ _ f).0) in
    let texted : Texted run.table run.settings (accepted run) (reached run).text = subst (λ z. Texted z run.settings (accepted run) (reached run).text) kept.0 (subst (λ z. Texted (reached run).table z (accepted run) (reached run).text) kept.1 here) in
    subst (λ x. Reads run.table.starts run.table.continues x t) (sym (own_text run)) (reads_as run.table run.settings t (reached run).text (rw e at texted.written))

finished_text_reads_as_its_calls : FinishedTextReadsAsItsCalls
finished_text_reads_as_its_calls run f =
    let whole = (whole_values_alone_finish run).0 f in
    let reads = finished_reads run f whole.1 whole.2 in
    (whole.1, whole.2, reads, λ t' other. unique run.lawful (document_text run) t' whole.1 other reads)

-- alike in extensions, names and suffixes, runs have one style
one_style : (run run' : Run) → Alike run run' → style run ≡ style run'
one_style run run' a = λ i. record { on = fun_ext {f = (style run).on} {g = (style run').on} a.extensions i; names = a.names i; suffixes = a.suffixes i }

-- a reading of one run is the tree of its calls, and so a reading of the other
same_reading : (run run' : Run) → Finishes run → Finishes run' → accepted run ≡ accepted run' → Alike run run' → (t : Tree) → RunReads run t → RunReads run' t
same_reading run run' f f' e a t h =
    let own = finished_text_reads_as_its_calls run f in
    let is : t ≡ own.0 = own.3 t h in
    finished_reads run' f' t (ap₂ made (sym (one_style run run' a)) (sym e) ∙ own.1 ∙ ap (λ z. Some (record { frames = []; top = z ∷ [] })) (sym is))

turned : (run run' : Run) → Alike run run' → Alike run' run
turned run run' a = record { extensions = λ e. sym (a.extensions e); names = sym a.names; suffixes = sym a.suffixes }

pub every_run_reads_as_its_calls : EveryRunReadsAsItsCalls
every_run_reads_as_its_calls = record {
  whole = whole_values_alone_finish;
  reads = finished_text_reads_as_its_calls;
  same = λ run run' f f' e a t. (same_reading run run' f f' e a t, same_reading run' run f' f (sym e) (turned run run' a) t);
}

-- What the layout puts before an item or a closing bracket spells blanks, or a comma and blanks.
use Rattle.std.proofs.Common.{◌≡◌, ℕ, ◌-◌, Bool, true, false, cond, not, ◌&&◌, eqb, List, [], ◌∷◌, ◌++◌, Some, None, Option, refl, ap₂}
use Rattle.std.proofs.lemmas.Bool.{cond_both, false≢true}
use Rattle.words.specs.Classes.{all}
use Rattle.grammar.specs.Trees.{∅}
use Rattle.grammar.specs.Items.{Bracket, square, round, closing, Items, no_items, More, no_more}
use Rattle.grammar.specs.Items as items
use Rattle.grammar.specs.Readings.{Extension}
use Rattle.grammar.specs.ReadBack.{Spells}
use Rattle.grammar.proofs.Spelling.{ascii, spells_then, spells_ascii}
use Rattle.model.specs.Settings.{PrettyConfig}
use Rattle.model.specs.States.{Layout, Frame}
use Rattle.model.specs.Heads.{silent}
use Rattle.model.specs.Layouts.{comma, repeated, new_line, indentor, separator, after_comma, indented, before, lined, empty, before_closing, behind_opening}
use Rattle.model.specs.declared.kind.Kind.{Kind}
use Rattle.model.specs.declared.kind.Kind.TheVariants as kinds
use Rattle.model.proofs.Blanks.{Blank, Comma, blank_none, blank_both, blank_if, blank_repeated, comma_then}

-- the three strings of a configuration spell blanks
pub record Laid (config : Option PrettyConfig) : Type 0 where
  pub lines : Blank (new_line config)
  pub indents : Blank (indentor config)
  pub separates : Blank (separator config)

-- a silent frame is not wide
silent_narrow : (config : Option PrettyConfig) (ext : Extension → Bool) (k : Kind) (indent : ℕ) → silent ext k ≡ true → lined config k indent ≡ false
silent_narrow None ext k indent h = refl
silent_narrow (Some c) ext kinds.Some indent h = refl
silent_narrow (Some c) ext kinds.NewtypeStruct indent h = refl
silent_narrow (Some c) ext kinds.NewtypeVariant indent h = absurd (false≢true h)
silent_narrow (Some c) ext kinds.Seq indent h = absurd (false≢true h)
silent_narrow (Some c) ext kinds.Tuple indent h = absurd (false≢true h)
silent_narrow (Some c) ext kinds.TupleStruct indent h = absurd (false≢true h)
silent_narrow (Some c) ext kinds.TupleVariant indent h = absurd (false≢true h)

-- before the one item of a silent frame stands nothing
pub before_silent : (config : Option PrettyConfig) (ext : Extension → Bool) (l : Layout) (f : Frame) (fs : List Frame) → silent ext f.kind ≡ true → eqb f.elements 0 ≡ true → before config l (f ∷ fs) ≡ []
before_silent config ext l f fs h e =
    ap₂ (λ lines first. cond first [] (comma ∷ after_comma config lines) ++ indented config lines l.indent) (silent_narrow config ext f.kind l.indent h) e

closing_ascii : (b : Bracket) → all ascii (closing b ∷ []) ≡ true
closing_ascii square = refl
closing_ascii round = refl

-- blanks, or a comma and blanks, and then a closing bracket
module _ {starts continues : ℕ → Bool} (b : Bracket) where
  close_none : {x : List ℕ} → Blank x → Spells (λ s r. Items starts continues b s ∅ r) (x ++ closing b ∷ [])
  close_none h = spells_then h (spells_ascii (closing b ∷ []) (closing_ascii b)) (λ s s' r k e. no_items (rw e at k))

  close_plain : {x : List ℕ} → Blank x → Spells (λ s r. More starts continues b s ∅ r) (x ++ closing b ∷ [])
  close_plain h = spells_then h (spells_ascii (closing b ∷ []) (closing_ascii b)) (λ s s' r k e. no_more (rw e at k))

  close_comma : {x : List ℕ} → Comma x → Spells (λ s r. More starts continues b s ∅ r) (x ++ closing b ∷ [])
  close_comma h = spells_then h (spells_ascii (closing b ∷ []) (closing_ascii b)) (λ s s' r k e. items.comma k.1 (no_items (rw e at k.2)))

module _ (config : Option PrettyConfig) (laid : Laid config) where
  pub behind_opening_blank : (k : Kind) (l : Layout) → Blank (behind_opening config k l)
  behind_opening_blank k l = blank_if _ _ laid.lines

  indented_blank : (lines : Bool) (indent : ℕ) → Blank (indented config lines indent)
  indented_blank lines indent = blank_if lines _ (blank_repeated indent _ laid.indents)

  -- before the first item, and before each other
  pub before_first : (l : Layout) (f : Frame) (fs : List Frame) → eqb f.elements 0 ≡ true → Blank (before config l (f ∷ fs))
  before_first l f fs e = rw e (indented_blank _ l.indent)

  pub before_next : (l : Layout) (f : Frame) (fs : List Frame) → eqb f.elements 0 ≡ false → Comma (before config l (f ∷ fs))
  before_next l f fs e =
      rw e (comma_then _ (blank_both (cond_both (lined config f.kind l.indent) _ _ Blank (λ _. laid.lines) (λ _. laid.separates)) (indented_blank _ l.indent)))

  last_blank : (l : Layout) (f : Frame) → Blank (cond (lined config f.kind l.indent && not (empty l)) (repeated (l.indent - 1) (indentor config)) [])
  last_blank l f = blank_if _ _ (blank_repeated (l.indent - 1) _ laid.indents)

  -- before a closing bracket without an item before it, and with one
  module _ {starts continues : ℕ → Bool} (b : Bracket) (l : Layout) (f : Frame) where
    pub closing_none : eqb f.elements 0 ≡ true → Spells (λ s r. Items starts continues b s ∅ r) (before_closing config l f ++ closing b ∷ [])
    closing_none e = close_none b (rw e (blank_both (step (lined config f.kind l.indent)) (last_blank l f)))
      where
        step : (lines : Bool) → Blank (cond (lines && false) (comma ∷ new_line config) [])
        step true = blank_none
        step false = blank_none

    pub closing_behind : eqb f.elements 0 ≡ false → Spells (λ s r. More starts continues b s ∅ r) (before_closing config l f ++ closing b ∷ [])
    closing_behind e = rw e (step (lined config f.kind l.indent) (last_blank l f))
      where
        step : (lines : Bool) {x : List ℕ} → Blank x → Spells (λ s r. More starts continues b s ∅ r) ((cond (lines && true) (comma ∷ new_line config) [] ++ x) ++ closing b ∷ [])
        step true h = close_comma b (comma_then _ (blank_both laid.lines h))
        step false h = close_plain b h

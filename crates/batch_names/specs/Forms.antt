-- The forms of a batch name that the program prints, a line each: its escaped literal, its literal without escapes, and its name.
-- Assumes nothing.
use Rattle.std.specs.Prelude.{◌≡◌, ℕ, Bool, List, [], ◌∷◌, ◌++◌, Some, None, Option}
use Rattle.chars.specs.Utf8.{decoded}
use Rattle.grammar.specs.Readings.{ReadsOnly}
use Rattle.grammar.specs.Trees.{a_name, a_text}
use Rattle.words.specs.Escapes.{escaped_str}
use Rattle.words.specs.Names.{identifier}
use Rattle.words.specs.RawText.{unescaped_or_raw_str}
use Rattle.words.specs.Refusals.{name_refusal}
use Rattle.words.specs.declared.refusal.Refusal.{Refusal}
use Rattle.inputs.specs.Lines.{LF}

-- a line of its own, or none for what is refused
abbrev pub line_unless : Option Refusal → List ℕ → List ℕ
line_unless None x = x ++ LF ∷ []
line_unless (Some e) x = []

module _ (starts continues shown : ℕ → Bool) where
  abbrev pub forms : List ℕ → List ℕ
  forms s =
      escaped_str shown (decoded s)
      ++ (LF ∷ (unescaped_or_raw_str (decoded s) ++ (LF ∷ line_unless (name_refusal continues s) (identifier starts continues (decoded s)))))

  -- the lines that are shown of a name have exactly one reading each: twice the text of the name, and where it is a name this name
  pub record LinesReadBack (s lines : List ℕ) : Type 0 where
    pub escaped : List ℕ
    pub plain : List ℕ
    pub last : List ℕ
    pub cut : lines ≡ escaped ++ (LF ∷ (plain ++ (LF ∷ last)))
    pub escaped_reads : ReadsOnly starts continues escaped (a_text (decoded s))
    pub plain_reads : ReadsOnly starts continues plain (a_text (decoded s))
    pub last_reads : name_refusal continues s ≡ None → (x : List ℕ) × (last ≡ x ++ LF ∷ []) × ReadsOnly starts continues x (a_name (decoded s))

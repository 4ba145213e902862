-- What a document begins with: its layout strings spell blanks, and its header spells headers and blanks.
use Rattle.std.proofs.Common.{◌≡◌, ℕ, true, List, [], ◌++◌, Some, None, codes, Option, sym, refl, ap, ◌∙◌, subst}
use Rattle.std.proofs.lemmas.Bool.{cond_both}
use Rattle.words.specs.Classes.{all}
use Rattle.grammar.specs.Tokens.{Blanks, Tokens}
use Rattle.grammar.specs.Readings.{Extension, unwrap_newtypes, implicit_some, explicit_struct_names, extension_name, header, Headers, no_headers, one_header}
use Rattle.grammar.specs.ReadBack.{Spells}
use Rattle.grammar.proofs.Spelling.{ascii, spells_as, spells_then, spells_ascii}
use Rattle.model.specs.Settings.{Extensions, PrettyConfig, Settings}
use Rattle.model.specs.Beginnings.{string_refusal, layout_refusal, enabling, header_of}
use Rattle.model.specs.Beginnings as beginnings
use Rattle.model.specs.declared.refusal.Refusal.{Refusal}
use Rattle.model.proofs.Blanks.{Blank, no_blanks, blanks_then, blank_text, blank_none}
use Rattle.model.proofs.Layouts.{Laid}
use Rattle.model.proofs.Testing.{passes, passes_unless}

string_blank : (e : Refusal) (s : List ℕ) → string_refusal e s ≡ None → Blank s
string_blank e s h = blank_text s (passes_unless _ _ (passes _ _ h).1)

-- a layout that is not refused
pub laid_out : (config : Option PrettyConfig) → layout_refusal config ≡ None → Laid config
laid_out None h = record { lines = blank_none; indents = blank_none; separates = blank_none }
laid_out (Some c) h =
    let a = passes _ _ h in
    let b = passes _ _ a.1 in
    record { lines = string_blank _ _ a.0; indents = string_blank _ _ b.0; separates = string_blank _ _ b.1 }

-- headers, and then blanks
abbrev Heads : List ℕ → List ℕ → Type 0
Heads s r = (u : List ℕ) × Headers s u × Blanks u r

blank_heads : {s s' r : List ℕ} → Blanks s s' → Heads s' r → Heads s r
blank_heads {s} {r = r} b (u, no_headers e, k) = (s, no_headers refl, blanks_then b (subst (λ z. Blanks z r) (sym e) k))
blank_heads b (u, one_header e (w, l, more) h, k) = (u, one_header e (w, blanks_then b l, more) h, k)

heads_then : {s u r : List ℕ} → Headers s u → Heads u r → Heads s r
heads_then {r = r} (no_headers e) h = subst (λ z. Heads z r) (sym e) h
heads_then (one_header e k more) h = let rest = heads_then more h in (rest.0, one_header e k rest.1, rest.2)

header_tokens : (e : Extension) (u : List ℕ) → Tokens (header e) (codes "#![enable(" ++ (extension_name e ++ (codes ")]" ++ u))) u
header_tokens e u = (_, no_blanks _, (_, no_blanks _, (_, no_blanks _, (_, no_blanks _, (_, no_blanks _, (_, no_blanks _, (_, no_blanks _, (_, no_blanks _, refl))))))))

name_ascii : (e : Extension) → all ascii (extension_name e) ≡ true
name_ascii unwrap_newtypes = refl
name_ascii implicit_some = refl
name_ascii explicit_struct_names = refl

-- one header and blanks, or none
heads_none : Spells Heads []
heads_none = spells_as blank_none (λ s r k. (s, no_headers refl, k))

heads_one : (e : Extension) (x : List ℕ) → Blank x → Spells Heads (codes "#![enable(" ++ (extension_name e ++ (codes ")]" ++ x)))
heads_one e x h =
    spells_then (spells_ascii (codes "#![enable(") refl)
    (spells_then (spells_ascii (extension_name e) (name_ascii e))
    (spells_then {T = λ s r. (u : List ℕ) × (s ≡ codes ")]" ++ u) × Blanks u r} (spells_ascii (codes ")]") refl) h (λ s s' r p k. (s', p, k)))
    (λ s s' r p k. at_name s s' r p k))
    (λ s s' r p k. (k.0, rw (p, k.1) (one_header e (header_tokens e k.0) (no_headers refl)), k.2))
  where
    at_name : (s s' r : List ℕ) → s ≡ extension_name e ++ s' → ((u : List ℕ) × (s' ≡ codes ")]" ++ u) × Blanks u r) → (u : List ℕ) × (s ≡ extension_name e ++ (codes ")]" ++ u)) × Blanks u r
    at_name s s' r p k = (k.0, p ∙ ap (λ z. extension_name e ++ z) k.1, k.2)

heads_both : {x y : List ℕ} → Spells Heads x → Spells Heads y → Spells Heads (x ++ y)
heads_both p q = spells_then p q (λ s s' r h k. heads_then h.1 (blank_heads h.2 k))

enabling_heads : (d : Extensions) (c : PrettyConfig) (e : Extension) → Laid (Some c) → Spells Heads (enabling d c e)
enabling_heads d c e h = cond_both _ _ _ (λ z. Spells Heads z) (λ _. heads_one e c.new_line h.lines) (λ _. heads_none)

pub header_heads : (s : Settings) → Laid s.config → Spells Heads (header_of s)
header_heads s h = step s.config h
  where
    step : (config : Option PrettyConfig) → Laid config → Spells Heads (beginnings.header s.default_extensions config)
    step None k = heads_none
    step (Some c) k = heads_both (enabling_heads s.default_extensions c unwrap_newtypes k) (heads_both (enabling_heads s.default_extensions c implicit_some k) (enabling_heads s.default_extensions c explicit_struct_names k))

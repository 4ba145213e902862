-- Headers are cut from a text in one way only.
-- Assumes nothing.
use Rattle.std.proofs.Common.{◌≡◌, ℕ, Bool, true, false, cond, not, ◌&&◌, List, [], ◌∷◌, ◌++◌, codes, sym, refl, ap, ◌∙◌, subst}
use mathlib.Core.List.{append_cancel_left}
use Rattle.std.proofs.lemmas.Bool.{both_ways, and_parts, not-true}
use Rattle.chars.specs.Blanks.{blank}
use Rattle.words.specs.RawText.{hash}
use Rattle.grammar.specs.Tokens.{begins, Tokens}
use Rattle.grammar.specs.Readings.{Extension, unwrap_newtypes, implicit_some, explicit_struct_names, extension_name, header, Headers, no_headers, one_header}
use Rattle.grammar.proofs.Runs.{skip, skips, skip_once}
use Rattle.grammar.proofs.Strings.{is}

-- a token is not empty and does not begin with a blank
abbrev firm : List ℕ → Bool
firm w = begins (λ c. not (blank c)) w

firm_first : (w u : List ℕ) → firm w ≡ true → begins blank (w ++ u) ≡ false
firm_first [] u h = absurd (both_ways false refl h)
firm_first (c ∷ w) u h = not-true (blank c) h

abbrev all_firm : List (List ℕ) → Bool
all_firm [] = true
all_firm (w ∷ ws) = firm w && all_firm ws

-- tokens that two texts begin with alike are passed alike
pub past : {C : Type 0} (ws vs vs' : List (List ℕ)) (s s' r r' : List ℕ) → all_firm ws ≡ true → Tokens (ws ++ vs) s r → Tokens (ws ++ vs') s' r' → s ≡ s'
    → ((u u' : List ℕ) → Tokens vs u r → Tokens vs' u' r' → u ≡ u' → C) → C
past [] vs vs' s s' r r' f k k' q go = go s s' k k' q
past (w ∷ ws) vs vs' s s' r r' f k k' q go =
    let firms = and_parts (firm w) (all_firm ws) f in
    let here = skip_once k.1 k'.1 (firm_first w k.0 firms.0) (firm_first w k'.0 firms.0) q in
    past ws vs vs' k.0 k'.0 r r' firms.1 k.2 k'.2 (append_cancel_left w k.0 k'.0 here) go

-- #![enable(
abbrev pub before_name : List (List ℕ)
before_name = codes "#" ∷ codes "!" ∷ codes "[" ∷ codes "enable" ∷ codes "(" ∷ []

-- )]
abbrev pub behind_name : List (List ℕ)
behind_name = codes ")" ∷ codes "]" ∷ []

name_firm : (e : Extension) → firm (extension_name e) ≡ true
name_firm unwrap_newtypes = refl
name_firm implicit_some = refl
name_firm explicit_struct_names = refl

-- what follows the bracket of a header begins with the name of its extension
pub name_first : {C : Type 0} (e : Extension) (w : List ℕ) (vs : List (List ℕ)) (s s' r r' : List ℕ) → firm w ≡ true → Tokens (header e) s r → Tokens (before_name ++ w ∷ vs) s' r' → s ≡ s'
    → ((u u' : List ℕ) → extension_name e ++ u ≡ w ++ u' → C) → C
name_first e w vs s s' r r' f k k' q go =
    past before_name (extension_name e ∷ behind_name) (w ∷ vs) s s' r r' refl k k' q
    (λ u u' a a' p. go a.0 a'.0 (skip_once a.1 a'.1 (firm_first (extension_name e) a.0 (name_firm e)) (firm_first w a'.0 f) p))

-- the first letter of an extension's name tells it
abbrev which : List ℕ → Extension
which s = cond (begins (is 0x75) s) unwrap_newtypes (cond (begins (is 0x69) s) implicit_some explicit_struct_names)

which_is : (e : Extension) (u : List ℕ) → which (extension_name e ++ u) ≡ e
which_is unwrap_newtypes u = refl
which_is implicit_some u = refl
which_is explicit_struct_names u = refl

header_once : (e e' : Extension) (s s' r r' : List ℕ) → Tokens (header e) s r → Tokens (header e') s' r' → s ≡ s' → r ≡ r'
header_once e e' s s' r r' k k' q =
    let same : e ≡ e' = name_first e (extension_name e') behind_name s s' r r' (name_firm e') k k' q (λ u u' p. sym (which_is e u) ∙ ap which p ∙ which_is e' u') in
    past (header e) [] [] s s' r r' (rw (name_firm e)) k (subst (λ z. Tokens (header z) s' r') (sym same) k') q (λ u u' a a' p. sym a ∙ p ∙ a')

-- a header begins with a hash, so headers end where none stands
header_hash : (e : Extension) {s r : List ℕ} → Tokens (header e) s r → begins (is hash) (skip s) ≡ true
header_hash e k = rw (skips k.1 refl)

pub headers_once : {s r s' r' : List ℕ} → Headers s r → Headers s' r' → begins (is hash) (skip r) ≡ false → begins (is hash) (skip r') ≡ false → s ≡ s' → r ≡ r'
headers_once (no_headers e) (no_headers e') n n' q = sym e ∙ q ∙ e'
headers_once (no_headers {s} e) (one_header x' k' h') n n' q = absurd (both_ways _ n (ap (λ z. begins (is hash) (skip z)) (sym e ∙ q) ∙ header_hash x' k'))
headers_once (one_header x k h) (no_headers e') n n' q = absurd (both_ways _ n' (ap (λ z. begins (is hash) (skip z)) (sym e' ∙ sym q) ∙ header_hash x k))
headers_once (one_header x {s = s} {s' = u} k h) (one_header x' {s = s'} {s' = u'} k' h') n n' q = headers_once h h' n n' (header_once x x' s s' u u' k k' q)

pub headers_none : {s r : List ℕ} → Headers s r → begins (is hash) (skip s) ≡ false → s ≡ r
headers_none (no_headers e) n = e
headers_none (one_header x k h) n = absurd (both_ways _ n (header_hash x k))

-- Text without escapes: quoted as it is, or raw between hashes where a quote or a backslash would end or change it.
-- Assumes nothing.
use Rattle.std.specs.Prelude.{ℕ, suc, max, Bool, cond, ◌||◌, List, [], ◌∷◌, ◌++◌, replicate, ◌==◌}
use Rattle.std.specs.List.{list_any}
use Rattle.chars.specs.Utf8.{encodes}
use Rattle.words.specs.Escapes.{quote, backslash}

abbrev pub hash : ℕ
hash = 0x23

-- how many hashes the list begins with
abbrev pub leading_hashes : List ℕ → ℕ
leading_hashes [] = 0
leading_hashes (c ∷ cs) = cond (c == hash) (suc (leading_hashes cs)) 0

-- the longest run of hashes anywhere
abbrev pub longest_hashes : List ℕ → ℕ
longest_hashes [] = 0
longest_hashes (c ∷ cs) = max (leading_hashes (c ∷ cs)) (longest_hashes cs)

-- a double quote or a backslash stands in the list
abbrev pub holds_quote : List ℕ → Bool
holds_quote = list_any (λ c. c == quote || c == backslash)

-- bytes in double quotes
abbrev pub quoted : List ℕ → List ℕ
quoted x = quote ∷ (x ++ quote ∷ [])

-- bytes in double quotes between n + 1 hashes on each side
abbrev pub fenced : ℕ → List ℕ → List ℕ
fenced n x = replicate (suc n) hash ++ (quoted x ++ replicate (suc n) hash)

-- raw behind `r`, with one hash more than any run of them in the text, where it holds a quote or a backslash; else quoted
abbrev pub unescaped_or_raw_str : List ℕ → List ℕ
unescaped_or_raw_str cs = cond (holds_quote cs) (0x72 ∷ fenced (longest_hashes cs) (encodes cs)) (quoted (encodes cs))

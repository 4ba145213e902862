-- Hashes and quotes in the bytes of a text are those in its characters.
use Rattle.std.proofs.Common.{◌≡◌, ℕ, suc, ◌+◌, ◌-◌, ◌<◌, ◌≤◌, max, true, false, cond, ◌||◌, eqb, List, [], ◌∷◌, ◌++◌, length, get_or, drop, replicate, sym, refl, ap, ◌∙◌, ⊎_elim, arith}
use Rattle.std.proofs.lemmas.List.{drop_more, drop_all}
use Rattle.std.proofs.lemmas.Bool.{ne_eqb, eq-eqb, and_parts}
use Rattle.chars.specs.Texts.{characters, text_bytes}
use Rattle.chars.specs.declared.text.Text.{Text}
use Rattle.chars.specs.Utf8.{scalar, scalars, encodes, utf8, decoded}
use Rattle.chars.proofs.Decoding.{encodes_decoded}
use Rattle.chars.proofs.HighBytes.{High, encode_parts}
use Rattle.words.specs.Escapes.{quote, backslash}
use Rattle.words.specs.RawText.{hash, leading_hashes, longest_hashes, holds_quote, quoted, fenced, unescaped_or_raw_str}

-- a byte that is no hash, and one that is
leading_other : (c : ℕ) (s : List ℕ) → (c ≡ hash → ⊥) → leading_hashes (c ∷ s) ≡ 0
leading_other c s n = rw (ne_eqb c hash n)

longest_other : (c : ℕ) (s : List ℕ) → (c ≡ hash → ⊥) → longest_hashes (c ∷ s) ≡ longest_hashes s
longest_other c s n = let e = leading_other c s n in omega arith

leading_hash : (c : ℕ) (s : List ℕ) → c ≡ hash → leading_hashes (c ∷ s) ≡ suc (leading_hashes s)
leading_hash c s e = rw (eq-eqb c hash e)

leading_longest : (s : List ℕ) → leading_hashes s ≤ longest_hashes s
leading_longest [] = omega arith
leading_longest (c ∷ s) = omega arith

-- high bytes in front change nothing
longest_high : (x s : List ℕ) → High x → longest_hashes (x ++ s) ≡ longest_hashes s
longest_high [] s h = refl
longest_high (b ∷ x) s h = longest_other b (x ++ s) (λ e. omega (arith, h.0)) ∙ longest_high x s h.1

holds_other : (c : ℕ) (s : List ℕ) → (c ≡ quote → ⊥) → (c ≡ backslash → ⊥) → holds_quote (c ∷ s) ≡ holds_quote s
holds_other c s n m = rw (ne_eqb c quote n, ne_eqb c backslash m)

holds_high : (x s : List ℕ) → High x → holds_quote (x ++ s) ≡ holds_quote s
holds_high [] s h = refl
holds_high (b ∷ x) s h = holds_other b (x ++ s) (λ e. omega (arith, h.0)) (λ e. omega (arith, h.0)) ∙ holds_high x s h.1

holds_encodes : (cs : List ℕ) → scalars cs ≡ true → holds_quote (encodes cs) ≡ holds_quote cs
holds_encodes [] h = refl
holds_encodes (c ∷ cs) h =
    let p = and_parts (scalar c) (scalars cs) h in
    let more = holds_encodes cs p.1 in
    ⊎_elim (λ e. ap (λ z. holds_quote (z ++ encodes cs)) e ∙ ap (λ t. (eqb c quote || eqb c backslash) || t) more)
    (λ (l, b, s, e, k). ap (λ z. holds_quote (z ++ encodes cs)) e ∙ holds_high (b ∷ s) (encodes cs) k ∙ more ∙ sym (holds_other c cs (λ q. omega arith) (λ q. omega arith)))
    (encode_parts c p.0)

leading_encodes : (cs : List ℕ) → scalars cs ≡ true → leading_hashes (encodes cs) ≡ leading_hashes cs
leading_encodes [] h = refl
leading_encodes (c ∷ cs) h =
    let p = and_parts (scalar c) (scalars cs) h in
    ⊎_elim (λ e. ap (λ z. leading_hashes (z ++ encodes cs)) e ∙ ap (λ n. cond (eqb c hash) (suc n) 0) (leading_encodes cs p.1))
    (λ (l, b, s, e, k). ap (λ z. leading_hashes (z ++ encodes cs)) e ∙ leading_other b (s ++ encodes cs) (λ q. omega (arith, k.0)) ∙ sym (leading_other c cs (λ q. omega arith)))
    (encode_parts c p.0)

longest_encodes : (cs : List ℕ) → scalars cs ≡ true → longest_hashes (encodes cs) ≡ longest_hashes cs
longest_encodes [] h = refl
longest_encodes (c ∷ cs) h =
    let p = and_parts (scalar c) (scalars cs) h in
    let more = longest_encodes cs p.1 in
    ⊎_elim (λ e. ap (λ z. longest_hashes (z ++ encodes cs)) e ∙ ap (λ n. max (cond (eqb c hash) (suc n) 0) (longest_hashes (encodes cs))) (leading_encodes cs p.1) ∙ ap (λ n. max (leading_hashes (c ∷ cs)) n) more)
    (λ (l, b, s, e, k). ap (λ z. longest_hashes (z ++ encodes cs)) e ∙ longest_high (b ∷ s) (encodes cs) k ∙ more ∙ sym (longest_other c cs (λ q. omega arith)))
    (encode_parts c p.0)

-- so the form of a text is chosen, and fenced, by its bytes
form_is : (s : List ℕ) → utf8 s ≡ true → cond (holds_quote s) (0x72 ∷ fenced (longest_hashes s) s) (quoted s) ≡ unescaped_or_raw_str (decoded s)
form_is s u =
    let d = encodes_decoded s u in
    let cs = decoded s in
    ap (λ z. cond (holds_quote z) (0x72 ∷ fenced (longest_hashes z) z) (quoted z)) (sym d.1)
    ∙ ap (λ t. cond t (0x72 ∷ fenced (longest_hashes (encodes cs)) (encodes cs)) (quoted (encodes cs))) (holds_encodes cs d.0)
    ∙ ap (λ n. cond (holds_quote cs) (0x72 ∷ fenced n (encodes cs)) (quoted (encodes cs))) (longest_encodes cs d.0)

pub raw_is : (t : Text) (s : List ℕ) → s ≡ text_bytes t → true ≡ holds_quote s → 0x72 ∷ fenced (longest_hashes s) s ≡ unescaped_or_raw_str (characters t)
raw_is t s e h = ap (λ b. cond b (0x72 ∷ fenced (longest_hashes s) s) (quoted s)) h ∙ form_is s (ap utf8 e ∙ t.is_utf8) ∙ ap (λ z. unescaped_or_raw_str (decoded z)) e

pub quoted_is : (t : Text) (s : List ℕ) → s ≡ text_bytes t → false ≡ holds_quote s → quoted s ≡ unescaped_or_raw_str (characters t)
quoted_is t s e h = ap (λ b. cond b (0x72 ∷ fenced (longest_hashes s) s) (quoted s)) h ∙ form_is s (ap utf8 e ∙ t.is_utf8) ∙ ap (λ z. unescaped_or_raw_str (decoded z)) e

-- counting: the longest run of a text whose first i bytes are counted, where `longest` is the longest run so far
-- and `run` the one that goes on at i
abbrev pub Counted : List ℕ → ℕ → ℕ → ℕ → Type 0
Counted s i run longest = max longest (max (run + leading_hashes (drop i s)) (longest_hashes (drop i s))) ≡ longest_hashes s

module _ (s : List ℕ) where
  pub counted_none : Counted s 0 0 0
  counted_none = omega (arith, leading_longest s)

  pub counted_hash : (i run longest : ℕ) → i < length s → get_or s i 0 ≡ hash → Counted s i run longest → Counted s (i + 1) (run + 1) (max longest (run + 1))
  counted_hash i run longest l q h =
      let c = get_or s i 0 in
      let more = drop (i + 1) s in
      let here = drop_more s i 0 l in
      let one = ap leading_hashes here ∙ leading_hash c more q in
      let two : longest_hashes (drop i s) ≡ max (leading_hashes (c ∷ more)) (longest_hashes more) = ap longest_hashes here in
      omega (arith, leading_hash c more q)

  pub counted_other : (i run longest : ℕ) → i < length s → run ≤ longest → (get_or s i 0 ≡ hash → ⊥) → Counted s i run longest → Counted s (i + 1) 0 (max longest 0)
  counted_other i run longest l k n h =
      let c = get_or s i 0 in
      let more = drop (i + 1) s in
      let here = drop_more s i 0 l in
      let one : leading_hashes (drop i s) ≡ 0 = ap leading_hashes here ∙ leading_other c more n in
      let two : longest_hashes (drop i s) ≡ longest_hashes more = ap longest_hashes here ∙ longest_other c more n in
      omega (arith, leading_longest more)

  pub counted_all : (i run longest : ℕ) → length s ≤ i → run ≤ longest → Counted s i run longest → longest ≡ longest_hashes s
  counted_all i run longest l k h =
      let none = drop_all i s l in
      omega (arith, ap leading_hashes none, ap longest_hashes none)

-- the hashes that are left
pub hashes_next : (n i : ℕ) → i < n → hash ∷ replicate (n - (i + 1)) hash ≡ replicate (n - i) hash
hashes_next n i l = let e : suc (n - (i + 1)) ≡ n - i = omega arith in ap (λ k. replicate k hash) e

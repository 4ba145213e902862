-- A name reads back, bare and behind `r#`.
use Rattle.std.proofs.Common.{◌≡◌, ℕ, Bool, true, false, not, ◌&&◌, ◌||◌, eqb, List, [], ◌∷◌, ◌++◌, None, codes, refl, ap, ◌∙◌, ⊎_elim, lit<}
use Rattle.std.proofs.lemmas.Bool.{and_parts, and_from, not-true, or_cases, eqb-true, false≢true}
use Rattle.chars.proofs.Apart.{not_in}
use Rattle.chars.specs.Blanks.{blanks}
use Rattle.chars.specs.Tables.{Lawful}
use Rattle.chars.specs.Utf8.{scalars, decoded}
use Rattle.chars.proofs.Decoding.{encodes_decoded}
use Rattle.words.specs.Classes.{all, raw_char}
use Rattle.words.specs.Names.{reserved, name, first_char, bare, identifier}
use Rattle.words.specs.Refusals.{text_refusal, name_refusal}
use Rattle.grammar.specs.Trees.{a_name}
use Rattle.grammar.specs.Tokens.{begins, plain, raw, Name, plain_name, raw_name}
use Rattle.grammar.specs.Items.{name_rule, is_name}
use Rattle.grammar.specs.ReadBack.{ends_token, ReadsBack, ReadsBackAsName}
use Rattle.grammar.proofs.Spelling.{spells_text, spells_ascii, spells_as, spells_then}
use Rattle.grammar.proofs.Classes.{no_longer}
use Rattle.grammar.proofs.Accepted.{neither, holds, text_accepted}

module _ {starts continues shown : ℕ → Bool} (law : Lawful starts continues shown) where
  -- neither continue characters nor raw ones go on behind a name
  pub no_continue : (r : List ℕ) → ends_token r ≡ true → begins continues r ≡ false
  no_continue = no_longer continues law.no_blank_continues (rw (law.ascii_continues 0x2C (lit< tt), law.ascii_continues 0x5D (lit< tt), law.ascii_continues 0x29 (lit< tt), law.ascii_continues 0x28 (lit< tt)))

  no_raw : (r : List ℕ) → ends_token r ≡ true → begins (raw_char continues) r ≡ false
  no_raw =
      no_longer (raw_char continues) (λ c h. rw (law.no_blank_continues c h) (not_in (λ d. eqb d 0x2E || eqb d 0x2B || eqb d 0x2D) blanks c refl h))
      (rw (law.ascii_continues 0x2C (lit< tt), law.ascii_continues 0x5D (lit< tt), law.ascii_continues 0x29 (lit< tt), law.ascii_continues 0x28 (lit< tt)))

  -- what a name begins with it may go on with
  first_continues : (c : ℕ) → first_char starts c ≡ true → continues c ≡ true
  first_continues c h = ⊎_elim (λ e. ap continues (eqb-true c 0x5F e) ∙ law.ascii_continues 0x5F (lit< tt)) (law.start_continues c) (or_cases (eqb c 0x5F) (starts c) h)

  bare_back : (cs r : List ℕ) → bare starts continues cs ≡ true → ends_token r ≡ true → Name starts continues plain (cs ++ r) cs r
  bare_back [] r h k = absurd (false≢true h)
  bare_back (c ∷ cs) r h k =
      let p = and_parts (first_char starts c && all continues cs) (not (reserved (c ∷ cs))) h in
      let q = and_parts (first_char starts c) (all continues cs) p.0 in
      plain_name (record { split = refl; begun = q.0; only = and_from (continues c) (all continues cs) (first_continues c q.0) q.1; longest = no_continue r k }) (not-true (reserved (c ∷ cs)) p.1)

  raw_back : (cs r : List ℕ) → name continues cs ≡ true → ends_token r ≡ true → Name starts continues raw (codes "r#" ++ (cs ++ r)) cs r
  raw_back [] r h k = absurd (false≢true h)
  raw_back (c ∷ cs) r h k =
      raw_name refl (record { split = refl; begun = (and_parts (raw_char continues c) (all (raw_char continues) cs) h).0; only = h; longest = no_raw r k })

  identifier_back : (cs : List ℕ) → scalars cs ≡ true → name continues cs ≡ true → ReadsBackAsName starts continues (identifier starts continues cs) cs
  identifier_back cs v h = step (bare starts continues cs) refl
    where
      step : (b : Bool) → bare starts continues cs ≡ b → ReadsBackAsName starts continues (identifier starts continues cs) cs
      step true e = rw e (spells_as (spells_text cs v) (λ s r q k. (plain, rw q (bare_back cs r e k))))
      step false e =
          rw e (spells_then (spells_ascii (codes "r#") refl) (spells_text cs v) (λ s s' r p q k. (raw, rw (p, q) (raw_back cs r h k))))

  pub name_back : (s : List ℕ) → name_refusal continues s ≡ None → ReadsBackAsName starts continues (identifier starts continues (decoded s)) (decoded s)
  name_back s h =
      let p = neither (text_refusal s) _ h in
      identifier_back (decoded s) (encodes_decoded s (text_accepted s p.0)).0 (holds (name continues (decoded s)) _ p.1)

  pub name_item_back : (s : List ℕ) → name_refusal continues s ≡ None → ReadsBack starts continues (identifier starts continues (decoded s)) (a_name (decoded s))
  name_item_back s h = spells_as (name_back s h) (λ u r f k. let n = f k in (name_rule n.0, is_name n.1))

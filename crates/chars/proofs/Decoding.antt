-- Decoding takes the bytes of scalar values and nothing else.
use Rattle.std.proofs.Common.{◌≡◌, ℕ, zero, suc, ◌+◌, ◌-◌, ◌/◌, ◌<◌, ◌≤◌, Bool, true, false, cond, List, [], ◌∷◌, ◌++◌, length, get_or, take, drop, is_some, Some, None, Option, unwrap_or, sym, refl, ap, ◌∙◌, subst, ⊎_elim, append_assoc, append-nil, arith, length-append, take-append-drop}
use Rattle.std.proofs.lemmas.List.{take_rest, take_at, drop_at}
use Rattle.std.specs.Option.{option_map}
use Rattle.std.proofs.lemmas.Bool.{both_ways, false≢true, cases_lt, and_from, and_parts, cond-true}
use Rattle.std.proofs.lemmas.Bool.Decides.{nat_tests}
use Rattle.chars.specs.Utf8.{scalar, scalars, encode, encodes, low_six, one_byte, two_bytes, three_bytes, four_bytes, of_two, of_three, of_four, decode, decode_two, decode_three, decode_four, utf8, decoded, Front, MalformedAt}
use Rattle.chars.proofs.Sequences.{one_scalar, two_scalar, three_scalar, four_scalar, encode_one, encode_two, encode_three, encode_four, one_encodes, two_encodes, three_encodes, four_encodes, spells_two, spells_three, spells_four}

-- no sequence of one to four bytes stands at the front
abbrev Stuck : List ℕ → Type 0
Stuck s =
    (0 < length s → one_byte (get_or s 0 0) ≡ false)
    × (1 < length s → two_bytes (get_or s 0 0) (get_or s 1 0) ≡ false)
    × (2 < length s → three_bytes (get_or s 0 0) (get_or s 1 0) (get_or s 2 0) ≡ false)
    × (3 < length s → four_bytes (get_or s 0 0) (get_or s 1 0) (get_or s 2 0) (get_or s 3 0) ≡ false)

-- one test of decoding after another
decode_after_one : (a : ℕ) (s : List ℕ) → one_byte a ≡ false → decode (a ∷ s) ≡ decode_two a s
unfolding decode
decode_after_one a s h = rw (h, decode)

decode_after_two : (a b : ℕ) (s : List ℕ) → two_bytes a b ≡ false → decode_two a (b ∷ s) ≡ decode_three a b s
unfolding decode
decode_after_two a b s h = rw (h, decode_two)

decode_after_three : (a b c : ℕ) (s : List ℕ) → three_bytes a b c ≡ false → decode_three a b (c ∷ s) ≡ decode_four a b c s
unfolding decode
decode_after_three a b c s h = rw (h, decode_three)

decode_after_four : (a b c d : ℕ) (s : List ℕ) → four_bytes a b c d ≡ false → decode_four a b c (d ∷ s) ≡ None
unfolding decode
decode_after_four a b c d s h = rw (h, decode_four)

stuck_decode : (s : List ℕ) → 0 < length s → Stuck s → decode s ≡ None
unfolding decode
stuck_decode [] l h = absurd (omega arith)
stuck_decode (a ∷ []) l h = decode_after_one a [] (h.0 (omega arith))
stuck_decode (a ∷ b ∷ []) l h = decode_after_one a (b ∷ []) (h.0 (omega arith)) ∙ decode_after_two a b [] (h.1 (omega arith))
stuck_decode (a ∷ b ∷ c ∷ []) l h =
    decode_after_one a (b ∷ c ∷ []) (h.0 (omega arith))
    ∙ decode_after_two a b (c ∷ []) (h.1 (omega arith))
    ∙ decode_after_three a b c [] (h.2 (omega arith))
stuck_decode (a ∷ b ∷ c ∷ d ∷ s) l h =
    decode_after_one a (b ∷ c ∷ d ∷ s) (h.0 (omega arith))
    ∙ decode_after_two a b (c ∷ d ∷ s) (h.1 (omega arith))
    ∙ decode_after_three a b c (d ∷ s) (h.2 (omega arith))
    ∙ decode_after_four a b c d s (h.3 (omega arith))

-- the four ranges of a scalar value's number, each with its sequence
pub data Spelled (c : ℕ) : Type 0 where
  in_one : one_byte c ≡ true → encode c ≡ c ∷ [] → Spelled c
  in_two : (a b : ℕ) → one_byte a ≡ false → two_bytes a b ≡ true → encode c ≡ a ∷ b ∷ [] → of_two a b ≡ c → Spelled c
  in_three : (a b d : ℕ) → one_byte a ≡ false → two_bytes a b ≡ false → three_bytes a b d ≡ true → encode c ≡ a ∷ b ∷ d ∷ [] → of_three a b d ≡ c → Spelled c
  in_four : (a b d e : ℕ) → one_byte a ≡ false → two_bytes a b ≡ false → three_bytes a b d ≡ false → four_bytes a b d e ≡ true → encode c ≡ a ∷ b ∷ d ∷ e ∷ [] → of_four a b d e ≡ c → Spelled c

-- six bits at a time
four_parts : (n : ℕ) → of_four (0xF0 + n / 262144) (low_six (n / 4096)) (low_six (n / 64)) (low_six n) ≡ n
four_parts n =
    let upper : n / 4096 ≡ (n / 64) / 64 = omega arith in
    let top : n / 262144 ≡ (n / 4096) / 64 = omega arith in
    omega arith

pub spelled : (c : ℕ) → scalar c ≡ true → Spelled c
spelled c h =
    ⊎_elim (λ l. in_one (grind (arith, nat_tests)) (encode_one c (omega arith)))
    (λ l. ⊎_elim (λ m. in_two (0xC0 + c / 64) (low_six c) (grind (arith, nat_tests)) (spells_two c l (omega arith)) (encode_two c l (omega arith)) (omega arith))
    (λ m. ⊎_elim (λ n. in_three (0xE0 + c / 4096) (low_six (c / 64)) (low_six c) (grind (arith, nat_tests)) (grind (arith, nat_tests)) (spells_three c m (omega arith) h) (encode_three c m (omega arith)) (omega arith))
    (λ n. in_four (0xF0 + c / 262144) (low_six (c / 4096)) (low_six (c / 64)) (low_six c) (grind (arith, nat_tests)) (grind (arith, nat_tests)) (grind (arith, nat_tests)) (spells_four c n h) (encode_four c n) (four_parts c))
    (cases_lt c 0x10000)) (cases_lt c 0x800)) (cases_lt c 0x80)

-- a scalar value's bytes in front give that scalar value
pub decode_past : (c : ℕ) (r : List ℕ) → scalar c ≡ true → decode (encode c ++ r) ≡ option_map (λ cs. c ∷ cs) (decode r)
unfolding decode
decode_past c r h = step (spelled c h)
  where
    add : ℕ → Option (List ℕ)
    add n = option_map (λ cs. n ∷ cs) (decode r)

    here : (s : List ℕ) → encode c ≡ s → decode (encode c ++ r) ≡ decode (s ++ r)
    here s e = ap (λ z. decode (z ++ r)) e

    step : Spelled c → decode (encode c ++ r) ≡ option_map (λ cs. c ∷ cs) (decode r)
    step (in_one t e) = here _ e ∙ rw (t, decode)
    step (in_two a b n t e v) = here _ e ∙ decode_after_one a (b ∷ r) n ∙ rw (t, decode_two) (ap add v)
    step (in_three a b d n m t e v) = here _ e ∙ decode_after_one a (b ∷ d ∷ r) n ∙ decode_after_two a b (d ∷ r) m ∙ rw (t, decode_three) (ap add v)
    step (in_four a b d f n m k t e v) = here _ e ∙ decode_after_one a (b ∷ d ∷ f ∷ r) n ∙ decode_after_two a b (d ∷ f ∷ r) m ∙ decode_after_three a b d (f ∷ r) k ∙ rw (t, decode_four) (ap add v)

-- no scalar value's bytes are in front where no sequence is
pub stuck_front : (s : List ℕ) → Stuck s → Front s None
stuck_front s h c r k e = step (spelled c k)
  where
    at : (t : List ℕ) → encode c ≡ t → Stuck (t ++ r)
    at t q = subst Stuck (e ∙ ap (λ z. z ++ r) q) h

    step : Spelled c → ⊥
    step (in_one t q) = both_ways _ ((at _ q).0 (omega arith)) t
    step (in_two a b n t q v) = both_ways _ ((at _ q).1 (omega arith)) t
    step (in_three a b d n m t q v) = both_ways _ ((at _ q).2 (omega arith)) t
    step (in_four a b d f n m x t q v) = both_ways _ ((at _ q).3 (omega arith)) t

-- a sequence in front is a scalar value in front
pub front_one : (s : List ℕ) → 0 < length s → one_byte (get_or s 0 0) ≡ true → Front s (Some (get_or s 0 0, 1))
front_one [] l h = absurd (omega arith)
front_one (a ∷ s) l h = (one_scalar a h, sym (one_encodes a h), omega arith)

pub front_two : (s : List ℕ) → 1 < length s → two_bytes (get_or s 0 0) (get_or s 1 0) ≡ true → Front s (Some (of_two (get_or s 0 0) (get_or s 1 0), 2))
front_two [] l h = absurd (omega arith)
front_two (a ∷ []) l h = absurd (omega arith)
front_two (a ∷ b ∷ s) l h = (two_scalar a b h, sym (two_encodes a b h), omega arith)

pub front_three : (s : List ℕ) → 2 < length s → three_bytes (get_or s 0 0) (get_or s 1 0) (get_or s 2 0) ≡ true → Front s (Some (of_three (get_or s 0 0) (get_or s 1 0) (get_or s 2 0), 3))
front_three [] l h = absurd (omega arith)
front_three (a ∷ []) l h = absurd (omega arith)
front_three (a ∷ b ∷ []) l h = absurd (omega arith)
front_three (a ∷ b ∷ c ∷ s) l h = (three_scalar a b c h, sym (three_encodes a b c h), omega arith)

pub front_four : (s : List ℕ) → 3 < length s → four_bytes (get_or s 0 0) (get_or s 1 0) (get_or s 2 0) (get_or s 3 0) ≡ true → Front s (Some (of_four (get_or s 0 0) (get_or s 1 0) (get_or s 2 0) (get_or s 3 0), 4))
front_four [] l h = absurd (omega arith)
front_four (a ∷ []) l h = absurd (omega arith)
front_four (a ∷ b ∷ []) l h = absurd (omega arith)
front_four (a ∷ b ∷ c ∷ []) l h = absurd (omega arith)
front_four (a ∷ b ∷ c ∷ d ∷ s) l h = (four_scalar a b c d h, sym (four_encodes a b c d h), omega arith)

-- what a scalar value in front is made into
pub front_made : (s : List ℕ) (n m width : ℕ) (r : Option (ℕ × ℕ)) → r ≡ cond (scalar n) (Some (n, width)) None → n ≡ m → Front s (Some (m, width)) → Front s r
front_made s n m width r e q f =
    subst (Front s) (sym (e ∙ ap (λ k. cond (scalar k) (Some (k, width)) None) q ∙ cond-true (scalar m) _ _ f.0)) f

-- what stands in front of some bytes
data Looked (s : List ℕ) : Type 0 where
  ended : s ≡ [] → Looked s
  begun : (c : ℕ) (r : List ℕ) → scalar c ≡ true → s ≡ encode c ++ r → length r < length s → Looked s
  broken : decode s ≡ None → Looked s

look : (s : List ℕ) → Looked s
look [] = ended refl
look (a ∷ s) = one (one_byte a) refl
  where
    four : (b c d : ℕ) (r : List ℕ) (t : Bool) → one_byte a ≡ false → two_bytes a b ≡ false → three_bytes a b c ≡ false → four_bytes a b c d ≡ t → Looked (a ∷ b ∷ c ∷ d ∷ r)
    four b c d r true n m k h = begun _ r (four_scalar a b c d h) (ap (λ z. z ++ r) (sym (four_encodes a b c d h))) (omega arith)
    four b c d r false n m k h = broken (stuck_decode (a ∷ b ∷ c ∷ d ∷ r) (omega arith) (λ _. n, λ _. m, λ _. k, λ _. h))

    three : (b c : ℕ) (r : List ℕ) (t : Bool) → one_byte a ≡ false → two_bytes a b ≡ false → three_bytes a b c ≡ t → Looked (a ∷ b ∷ c ∷ r)
    three b c r true n m h = begun _ r (three_scalar a b c h) (ap (λ z. z ++ r) (sym (three_encodes a b c h))) (omega arith)
    three b c [] false n m h = broken (stuck_decode (a ∷ b ∷ c ∷ []) (omega arith) (λ _. n, λ _. m, λ _. h, λ l. absurd (omega arith)))
    three b c (d ∷ r) false n m h = four b c d r (four_bytes a b c d) n m h refl

    two : (b : ℕ) (r : List ℕ) (t : Bool) → one_byte a ≡ false → two_bytes a b ≡ t → Looked (a ∷ b ∷ r)
    two b r true n h = begun _ r (two_scalar a b h) (ap (λ z. z ++ r) (sym (two_encodes a b h))) (omega arith)
    two b [] false n h = broken (stuck_decode (a ∷ b ∷ []) (omega arith) (λ _. n, λ _. h, λ l. absurd (omega arith), λ l. absurd (omega arith)))
    two b (c ∷ r) false n h = three b c r (three_bytes a b c) n h refl

    after : (r : List ℕ) → one_byte a ≡ false → Looked (a ∷ r)
    after [] h = broken (stuck_decode (a ∷ []) (omega arith) (λ _. h, λ l. absurd (omega arith), λ l. absurd (omega arith), λ l. absurd (omega arith)))
    after (b ∷ r) h = two b r (two_bytes a b) h refl

    one : (t : Bool) → one_byte a ≡ t → Looked (a ∷ s)
    one true h = begun a s (one_scalar a h) (ap (λ z. z ++ s) (sym (one_encodes a h))) (omega arith)
    one false h = after s h

-- what was added to
added : (c : ℕ) (o : Option (List ℕ)) (cs : List ℕ) → option_map (λ ds. c ∷ ds) o ≡ Some cs → (ds : List ℕ) × (o ≡ Some ds) × (cs ≡ c ∷ ds)
added c None cs e = let z : ◌≡◌ {A = ℕ} 0 1 = cc in absurd (omega arith)
added c (Some ds) cs e = (ds, refl, (cc))

-- what decodes is scalar values, and their bytes
Exact : List ℕ → List ℕ → Type 0
Exact s cs = (scalars cs ≡ true) × (encodes cs ≡ s)

decoded_step : (s cs : List ℕ) → ((r ds : List ℕ) → length r < length s → decode r ≡ Some ds → Exact r ds) → decode s ≡ Some cs → Looked s → Exact s cs
unfolding decode Exact
decoded_step s cs ih e (ended p) =
    let none : cs ≡ [] = cc (ap decode p) in
    (ap scalars none, ap encodes none ∙ sym p)
decoded_step s cs ih e (begun c r h p l) =
    let parts = added c (decode r) cs (sym (decode_past c r h) ∙ ap decode (sym p) ∙ e) in
    let rest = ih r parts.0 l parts.1 in (
      ap scalars parts.2 ∙ and_from (scalar c) (scalars parts.0) h rest.0,
      ap encodes parts.2 ∙ ap (λ z. encode c ++ z) rest.1 ∙ sym p,
    )
decoded_step s cs ih e (broken p) = let z : ◌≡◌ {A = ℕ} 0 1 = cc in absurd (omega arith)

decoded_within : (n : ℕ) (s cs : List ℕ) → length s ≤ n → decode s ≡ Some cs → Exact s cs
decoded_within zero s cs l e = decoded_step s cs (λ r ds k q. absurd (omega arith)) e (look s)
decoded_within (suc n) s cs l e = decoded_step s cs (λ r ds k q. decoded_within n r ds (omega arith) q) e (look s)

pub decode_exact : (s cs : List ℕ) → decode s ≡ Some cs → (scalars cs ≡ true) × (encodes cs ≡ s)
unfolding Exact
decode_exact s cs e = decoded_within (length s) s cs (omega arith) e

-- the bytes of scalar values decode to these
pub decode_encodes : (cs : List ℕ) → scalars cs ≡ true → decode (encodes cs) ≡ Some cs
unfolding decode
decode_encodes [] h = refl
decode_encodes (c ∷ cs) h =
    let parts = and_parts (scalar c) (scalars cs) h in
    decode_past c (encodes cs) parts.0 ∙ ap (option_map (λ ds. c ∷ ds)) (decode_encodes cs parts.1)

-- bytes spell at most one list of scalar values
pub encodes_once : (cs ds : List ℕ) → scalars cs ≡ true → scalars ds ≡ true → encodes cs ≡ encodes ds → cs ≡ ds
encodes_once cs ds h k e =
    let p = decode_encodes cs h in
    let q = decode_encodes ds k in
    let r = ap decode e in
    cc

-- what is left behind the bytes in front, as `&s[width..]` has it
pub past_front : (s x : List ℕ) (width : ℕ) → take width s ≡ x → s ≡ x ++ take (length s - width) (drop width s)
past_front s x width e = sym (take-append-drop width s) ∙ ap (λ z. z ++ drop width s) e ∙ ap (λ z. x ++ z) (sym (take_rest s width))

encode_long : (c : ℕ) → scalar c ≡ true → 0 < length (encode c)
encode_long c h = step (spelled c h)
  where
    step : Spelled c → 0 < length (encode c)
    step (in_one t e) = omega (arith, ap length e)
    step (in_two a b n t e v) = omega (arith, ap length e)
    step (in_three a b d n m t e v) = omega (arith, ap length e)
    step (in_four a b d f n m k t e v) = omega (arith, ap length e)

-- where no scalar value begins, nothing decodes
front_none_decode : (s : List ℕ) → 0 < length s → Front s None → decode s ≡ None
front_none_decode s l f = step (look s)
  where
    step : Looked s → decode s ≡ None
    step (ended p) = absurd (omega (arith, ap length p))
    step (begun c r h p k) = absurd (f c r h p)
    step (broken p) = p

decode_none_behind : (cs r : List ℕ) → scalars cs ≡ true → decode r ≡ None → decode (encodes cs ++ r) ≡ None
decode_none_behind [] r h e = e
decode_none_behind (c ∷ cs) r h e =
    let parts = and_parts (scalar c) (scalars cs) h in
    ap decode (append_assoc (encode c) (encodes cs) r) ∙ decode_past c (encodes cs ++ r) parts.0 ∙ ap (option_map (λ ds. c ∷ ds)) (decode_none_behind cs r parts.1 e)

encodes_push : (cs : List ℕ) (c : ℕ) → encodes (cs ++ c ∷ []) ≡ encodes cs ++ encode c
encodes_push [] c = append-nil (encode c)
encodes_push (d ∷ cs) c = ap (λ z. encode d ++ z) (encodes_push cs c) ∙ sym (append_assoc (encode d) (encodes cs) (encode c))

scalars_push : (cs : List ℕ) (c : ℕ) → scalars cs ≡ true → scalar c ≡ true → scalars (cs ++ c ∷ []) ≡ true
scalars_push [] c h k = and_from (scalar c) true k refl
scalars_push (d ∷ cs) c h k =
    let parts = and_parts (scalar d) (scalars cs) h in
    and_from (scalar d) (scalars (cs ++ c ∷ [])) parts.0 (scalars_push cs c parts.1 k)

-- some bytes, of which those before the rest are the bytes of scalar values
pub record Read (s rest : List ℕ) : Type 0 where
  pub read : List ℕ
  pub are_scalars : scalars read ≡ true
  pub whole : s ≡ encodes read ++ rest

pub read_more : (s rest left : List ℕ) (c : ℕ) → scalar c ≡ true → rest ≡ encode c ++ left → Read s rest → Read s left
read_more s rest left c k e r =
    let cs = r.read in
    record {
      read = cs ++ c ∷ [];
      are_scalars = scalars_push cs c r.are_scalars k;
      whole = r.whole ∙ ap (λ z. encodes cs ++ z) e ∙ sym (append_assoc (encodes cs) (encode c) left) ∙ ap (λ z. z ++ left) (sym (encodes_push cs c));
    }

pub read_all : (s rest : List ℕ) → rest ≡ [] → Read s rest → utf8 s ≡ true
read_all s rest e r = let cs = r.read in let h = r.are_scalars in let p = r.whole in ap is_some (ap decode (p ∙ ap (λ z. encodes cs ++ z) e ∙ append-nil (encodes cs)) ∙ decode_encodes cs h)

pub read_broken : (s rest : List ℕ) (at : ℕ) → at ≡ length s - length rest → 0 < length rest → Front rest None → Read s rest → MalformedAt s (Some at)
read_broken s rest at q l f r =
    let cs = r.read in
    let h = r.are_scalars in
    let p = r.whole in
    let long : length s ≡ length (encodes cs) + length rest = ap length p ∙ length-append (encodes cs) rest in
    let here : length (encodes cs) ≡ at = omega arith in
    let done : take at s ≡ encodes cs = ap (take at) p ∙ take_at (encodes cs) rest at here in
    let left : drop at s ≡ rest = ap (drop at) p ∙ drop_at (encodes cs) rest at here in (
      ap is_some (ap decode p ∙ decode_none_behind cs rest h (front_none_decode rest l f)),
      omega arith,
      ap is_some (ap decode done ∙ decode_encodes cs h),
      subst (λ z. Front z None) (sym left) f,
    )

pub shorter : (s r : List ℕ) (c : ℕ) → scalar c ≡ true → s ≡ encode c ++ r → length r < length s
shorter s r c h e = omega (arith, encode_long c h, ap length e ∙ length-append (encode c) r)

-- the same, of bytes that are UTF-8
is_some_mapped : {A B : Type 0} (f : A → B) (o : Option A) → is_some (option_map f o) ≡ is_some o
is_some_mapped f None = refl
is_some_mapped f (Some x) = refl

pub utf8_past : (s r : List ℕ) (c : ℕ) → scalar c ≡ true → s ≡ encode c ++ r → utf8 s ≡ utf8 r
utf8_past s r c h e = ap utf8 e ∙ ap is_some (decode_past c r h) ∙ is_some_mapped (λ cs. c ∷ cs) (decode r)

pub decoded_past : (s r : List ℕ) (c : ℕ) → scalar c ≡ true → s ≡ encode c ++ r → utf8 s ≡ true → decoded s ≡ c ∷ decoded r
decoded_past s r c h e u = ap decoded e ∙ ap (λ o. unwrap_or o []) (decode_past c r h) ∙ step (decode r) (sym (utf8_past s r c h e) ∙ u)
  where
    step : (o : Option (List ℕ)) → is_some o ≡ true → unwrap_or (option_map (λ cs. c ∷ cs) o) [] ≡ c ∷ unwrap_or o []
    step None k = absurd (false≢true k)
    step (Some cs) k = refl

pub utf8_broken : (s : List ℕ) → 0 < length s → Front s None → utf8 s ≡ false
utf8_broken s l f = ap is_some (front_none_decode s l f)

pub encodes_decoded : (s : List ℕ) → utf8 s ≡ true → (scalars (decoded s) ≡ true) × (encodes (decoded s) ≡ s)
encodes_decoded s u = step (decode s) refl u
  where
    step : (o : Option (List ℕ)) → decode s ≡ o → is_some o ≡ true → (scalars (unwrap_or (decode s) []) ≡ true) × (encodes (unwrap_or (decode s) []) ≡ s)
    step None e k = absurd (false≢true k)
    step (Some cs) e k = let x = decode_exact s cs e in (ap (λ o. scalars (unwrap_or o [])) e ∙ x.0, ap (λ o. encodes (unwrap_or o [])) e ∙ x.1)

pub decode_nil : decode [] ≡ Some []
unfolding decode
decode_nil = refl

-- where no scalar value is in front, bytes that are UTF-8 have come to their end
pub empty_text : (s : List ℕ) → utf8 s ≡ true → Front s None → (s ≡ []) × (decoded s ≡ [])
empty_text [] u f = (refl, ap (λ o. unwrap_or o []) decode_nil)
empty_text (a ∷ s) u f = absurd (both_ways _ (utf8_broken (a ∷ s) (omega arith) f) u)

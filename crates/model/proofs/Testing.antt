-- Tests one after another: what is known where none refuses, and where one does.
-- Assumes nothing.
use Rattle.std.proofs.Common.{◌≡◌, ℕ, ◌<◌, ◌≤◌, Bool, true, false, not, eqb, leb, ◌↔◌, List, length, is_some, Some, None, Option, unwrap_or, sym, refl, ap, arith}
use Rattle.std.proofs.lemmas.Bool.{true≢false, eqb-false}
use Rattle.literals.specs.Bytes.{bytes_refusal}
use Rattle.chars.specs.Utf8.{utf8, decoded}
use Rattle.words.specs.Names.{name}
use Rattle.literals.specs.Floats.{float_text}
use Rattle.words.specs.Refusals.{longest_argument, refused_unless as word_unless, first_refusal, text_refusal, name_refusal}
use Rattle.words.specs.declared.refusal.Refusal.{Refusal as WordRefusal}
use Rattle.words.specs.declared.refusal.Refusal.TheVariants as word
use Rattle.model.specs.Refusals.{number, of_word, argument, first, refused_if, refused_unless, unless}
use Rattle.model.specs.Requests.{Value, none, a_bool, an_integer, a_float, a_char, a_str, bytes, unit, unit_struct, unit_variant, Opening, some, newtype_struct, newtype_variant, seq, tuple, tuple_struct, tuple_variant}
use Rattle.model.specs.States.{Table}
use Rattle.model.specs.Places.{value_refusal, opening_refusal}
use Rattle.model.specs.Laws.{Comes}
use Rattle.model.specs.declared.refusal.Refusal.{Refusal}

pub some_is_not_none : {A : Type 0} {x : A} → Some x ≡ None → ⊥
some_is_not_none e = true≢false (ap is_some e)

pub some_is : {A : Type 0} {x y : A} → Some x ≡ Some y → x ≡ y
some_is {A} {x} {y} e = ap (λ o. unwrap_or o x) e

-- nothing refuses: neither of two tests does
pub passes : (a b : Option Refusal) → first a b ≡ None → (a ≡ None) × (b ≡ None)
passes None b e = (refl, e)
passes (Some x) b e = absurd (some_is_not_none e)

pub passes_if : (b : Bool) (e : Refusal) → refused_if b e ≡ None → b ≡ false
passes_if false e h = refl
passes_if true e h = absurd (some_is_not_none h)

pub passes_unless : (b : Bool) (e : Refusal) → refused_unless b e ≡ None → b ≡ true
passes_unless true e h = refl
passes_unless false e h = absurd (some_is_not_none h)

-- what holds of both ways holds of whichever is taken
pub either_way : {A : Type 0} (P : A → Type 0) (o : Option Refusal) (x : A) (f : Refusal → A) → P x → ((e : Refusal) → P (f e)) → P (unless o x f)
either_way P None x f h k = h
either_way P (Some e) x f h k = k e

-- a test that gives another refusal, if any
abbrev pub Never : Refusal → Option Refusal → Type 0
Never e o = o ≡ Some e → ⊥

pub never_first : (e : Refusal) (a b : Option Refusal) → Never e a → Never e b → Never e (first a b)
never_first e None b h k = k
never_first e (Some x) b h k = h

pub never_if : (e : Refusal) (b : Bool) (x : Refusal) → eqb (number x) (number e) ≡ false → Never e (refused_if b x)
never_if e true x h q = eqb-false (number x) (number e) h (ap number (some_is q))
never_if e false x h q = some_is_not_none (sym q)

pub never_unless : (e : Refusal) (b : Bool) (x : Refusal) → eqb (number x) (number e) ≡ false → Never e (refused_unless b x)
never_unless e true x h q = some_is_not_none (sym q)
never_unless e false x h q = eqb-false (number x) (number e) h (ap number (some_is q))

-- the arguments are refused by numbers up to 10
record Small (o : Option WordRefusal) : Type 0 where
  at_most_10 : (e : Refusal) → argument o ≡ Some e → number e ≤ 10

small_none : Small None
small_none = record { at_most_10 = λ e q. absurd (some_is_not_none (sym q)) }

small_unless : (b : Bool) (w : WordRefusal) → number (of_word w) ≤ 10 → Small (word_unless b w)
small_unless true w h = small_none
small_unless false w h = record { at_most_10 = λ e q. omega (arith, h, ap number (some_is q)) }

small_first : (a b : Option WordRefusal) → Small a → Small b → Small (first_refusal a b)
small_first None b h k = k
small_first (Some w) b h k = h

small_bytes : (s : List ℕ) → Small (bytes_refusal s)
small_bytes s = small_unless _ word.TooLong (omega arith)

small_text : (s : List ℕ) → Small (text_refusal s)
small_text s = small_first _ _ (small_unless (leb (length s) longest_argument) word.TooLong (omega arith)) (small_unless (utf8 s) word.NotUtf8 (omega arith))

small_name : (continues : ℕ → Bool) (s : List ℕ) → Small (name_refusal continues s)
small_name continues s = small_first _ _ (small_text s) (small_unless (name continues (decoded s)) word.InvalidIdentifier (omega arith))

small_value : (t : Table) (v : Value) → Small (value_refusal t v)
small_value t none = small_none
small_value t (a_bool b) = small_none
small_value t (an_integer type x) = small_none
small_value t (a_float width x) = small_first _ _ (small_bytes x) (small_unless (float_text x) word.NotFloat (omega arith))
small_value t (a_char c) = small_unless _ word.NotScalar (omega arith)
small_value t (a_str x) = small_text x
small_value t (bytes x) = small_bytes x
small_value t unit = small_none
small_value t (unit_struct n) = small_name t.continues n
small_value t (unit_variant n m) = small_first _ _ (small_name t.continues n) (small_name t.continues m)

small_opening : (t : Table) (o : Opening) → Small (opening_refusal t o)
small_opening t some = small_none
small_opening t (newtype_struct n) = small_name t.continues n
small_opening t (newtype_variant n m) = small_first _ _ (small_name t.continues n) (small_name t.continues m)
small_opening t (seq len) = small_none
small_opening t (tuple len) = small_none
small_opening t (tuple_struct n len) = small_name t.continues n
small_opening t (tuple_variant n m len) = small_first _ _ (small_name t.continues n) (small_name t.continues m)

pub never_value : (e : Refusal) (t : Table) (v : Value) → 10 < number e → Never e (argument (value_refusal t v))
never_value e t v h q = omega (arith, (small_value t v).at_most_10 e q)

pub never_opening : (e : Refusal) (t : Table) (o : Opening) → 10 < number e → Never e (argument (opening_refusal t o))
never_opening e t o h q = omega (arith, (small_opening t o).at_most_10 e q)

-- the last test's refusal comes where the others pass
pub comes_last : (e : Refusal) (a b : Option Refusal) → Never e a → Comes (first a b) e a (b ≡ Some e)
comes_last e None b h = (λ q. (refl, q), λ q. q.1)
comes_last e (Some x) b h = (λ q. absurd (h q), λ q. absurd (some_is_not_none q.0))

-- what is behind a test does not change where it refuses
comes_first : (e : Refusal) (b c : Option Refusal) → Never e c → (first b c ≡ Some e) ↔ (b ≡ Some e)
comes_first e None c h = (λ q. absurd (h q), λ q. absurd (some_is_not_none (sym q)))
comes_first e (Some x) c h = (λ q. q, λ q. q)

-- what comes exactly so comes exactly when something else holds, if that is the same once the tests before pass
pub comes_as : (e : Refusal) (o a : Option Refusal) (P Q : Type 0) → Comes o e a P → (a ≡ None → P ↔ Q) → Comes o e a Q
comes_as e o a P Q c h = (λ q. let r = c.0 q in (r.0, (h r.0).0 r.1), λ q. c.1 (q.0, (h q.0).1 q.1))

pub if_holds : (e : Refusal) (b : Bool) → (refused_if b e ≡ Some e) ↔ (b ≡ true)
if_holds e true = (λ q. refl, λ q. refl)
if_holds e false = (λ q. absurd (some_is_not_none (sym q)), λ q. absurd (true≢false (sym q)))

unless_fails : (e : Refusal) (b : Bool) → (refused_unless b e ≡ Some e) ↔ (not b ≡ true)
unless_fails e true = (λ q. absurd (some_is_not_none (sym q)), λ q. absurd (true≢false (sym q)))
unless_fails e false = (λ q. refl, λ q. refl)

-- one test before others, and among others
pub comes_at_once : (e : Refusal) (b : Bool) (c : Option Refusal) → Never e c → (first (refused_if b e) c ≡ Some e) ↔ (b ≡ true)
comes_at_once e b c k = let f = comes_first e (refused_if b e) c k in let g = if_holds e b in (λ q. g.0 (f.0 q), λ q. f.1 (g.1 q))

pub comes_if : (e : Refusal) (a c : Option Refusal) (b : Bool) → Never e a → Never e c → Comes (first a (first (refused_if b e) c)) e a (b ≡ true)
comes_if e a c b h k = comes_as e _ a _ (b ≡ true) (comes_last e a _ h) (λ _. comes_at_once e b c k)

pub comes_unless : (e : Refusal) (a c : Option Refusal) (b : Bool) → Never e a → Never e c → Comes (first a (first (refused_unless b e) c)) e a (not b ≡ true)
comes_unless e a c b h k =
    comes_as e _ a _ (not b ≡ true) (comes_last e a _ h)
    (λ _. let f = comes_first e (refused_unless b e) c k in let g = unless_fails e b in (λ q. g.0 (f.0 q), λ q. f.1 (g.1 q)))

-- the last test
pub comes_unless_last : (e : Refusal) (a : Option Refusal) (b : Bool) → Never e a → Comes (first a (refused_unless b e)) e a (not b ≡ true)
comes_unless_last e a b h = comes_as e _ a _ (not b ≡ true) (comes_last e a _ h) (λ _. unless_fails e b)

-- tests that are bracketed otherwise
pub first_assoc : (a b c : Option Refusal) → first (first a b) c ≡ first a (first b c)
first_assoc None b c = refl
first_assoc (Some x) b c = refl

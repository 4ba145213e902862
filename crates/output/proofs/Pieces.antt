-- How bytes that were put piece by piece were put as a whole, and what follows from `Puts`.
use Rattle.std.proofs.Common.{◌≡◌, ℕ, ◌+◌, Bool, true, false, leb, List, [], ◌++◌, length, is_ok, is_err, Ok, Err, Result, sym, refl, arith}
use Rattle.std.proofs.lemmas.Bool.{le-leb, lt-leb}
use Rattle.std.proofs.lemmas.Grind.{common_steps}
use Rattle.output.specs.Puts.{Adds, Puts}

module _ {X : Type 0} {room : X → ℕ} {took : X → List ℕ → X → Type 0} where
  -- nothing put
  pub puts_none : {a : X} → Adds took → Puts room took a [] true a
  puts_none laws = record {
    front = [];
    back = [];
    parts = refl;
    taken = laws.none _;
    left = omega arith;
    whole = λ e. refl;
    short = λ e. cc;
  }

  -- the same bytes, written in another way
  pub puts_as : {a b : X} {x y : List ℕ} {r : Bool} → x ≡ y → Puts room took a x r b → Puts room took a y r b
  puts_as e p = rw (← e) p

  all_front : {a b : X} {x : List ℕ} (p : Puts room took a x true b) → x ≡ p.front
  all_front p = grind (arith, common_steps, p.whole refl)

  -- one piece after another
  pub puts_then : {a b c : X} {x y : List ℕ} {r : Bool} → Adds took → Puts room took a x true b → Puts room took b y r c → Puts room took a (x ++ y) r c
  puts_then laws p q = record {
    front = p.front ++ q.front;
    back = q.back;
    parts = grind (arith, common_steps, all_front p);
    taken = laws.more _ _ _ p.front q.front p.taken q.taken;
    left = grind (arith, common_steps);
    whole = q.whole;
    short = q.short;
  }

  -- after a piece that did not fit, what was to follow it is not put
  pub puts_stop : {a b : X} {x : List ℕ} (y : List ℕ) → Puts room took a x false b → Puts room took a (x ++ y) false b
  puts_stop y p = record {
    front = p.front;
    back = p.back ++ y;
    parts = grind (arith, common_steps);
    taken = p.taken;
    left = p.left;
    whole = λ e. cc;
    short = λ e. grind (arith, common_steps, p.short refl);
  }

  -- at the exit of a `?`: s is the error that is returned, in place of the one that the call gave
  pub puts_exit : {a b : X} {x : List ℕ} {T E : Type 0} (s : Result T E) → is_err s ≡ true → Puts room took a x false b → Puts room took a x (is_ok s) b
  puts_exit (Ok v) e p = cc
  puts_exit (Err v) e p = p

  -- both at once: a piece did not fit, and that is returned
  pub puts_ends : {a b : X} {x : List ℕ} (y : List ℕ) {T E : Type 0} (s : Result T E) → is_err s ≡ true → Puts room took a x false b → Puts room took a (x ++ y) (is_ok s) b
  puts_ends y s e p = puts_exit s e (puts_stop y p)

  -- where the answer is true, all the bytes are taken
  pub puts_whole : {a b : X} {x : List ℕ} → Puts room took a x true b → took a x b
  puts_whole p = rw (all_front p) p.taken

  -- and each of them uses up one of the room
  pub puts_left : {a b : X} {x : List ℕ} → Puts room took a x true b → length x + room b ≡ room a
  puts_left p = rw (all_front p) p.left

  -- the answer is whether the bytes fit the room
  pub puts_value : {a b : X} {x : List ℕ} {r : Bool} → Puts room took a x r b → r ≡ leb (length x) (room a)
  puts_value {r = true} p = sym (le-leb _ _ (omega (arith, puts_left p)))
  puts_value {r = false} p = sym (lt-leb _ _ (grind (arith, common_steps, p.short refl)))

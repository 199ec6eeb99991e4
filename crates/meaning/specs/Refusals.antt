-- "Refusal numbers": a row of the table is a cause, its number with the test that gives it.
-- Assumes nothing.
use Rattle.std.specs.Prelude.{ℕ, Bool, true, false, cond, not, ◌||◌, List, [], ◌∷◌, ◌≡◌, leb, ltb, eqb}
use Rattle.std.proofs.Math.Option.{Option, none, some}
use Rattle.cells.specs.Lists.{All}
use Rattle.cells.specs.Store.{wrong_size}
use Rattle.places.specs.Ticks.{last_tick}
use Rattle.meaning.specs.Entries.{named}
use Rattle.meaning.specs.Plain.{Plain}

pub record Cause : Type 0 where
  pub number : ℕ
  pub applies : Bool

-- "The first that applies, in the order listed here, is given."
unfoldable pub first_of : {A : Type 0} → List Cause → (ℕ → A) → A → A
first_of [] refuse accept = accept
first_of (c ∷ cs) refuse accept = cond c.applies (refuse c.number) (first_of cs refuse accept)

-- No cause of a list applies.
abbrev pub Free : List Cause → Type 0
Free cs = All (λ (c : Cause). c.applies ≡ false) cs

unfoldable pub is_empty : {A : Type 0} → List A → Bool
is_empty [] = true
is_empty (x ∷ xs) = false

unfoldable pub is_none : {A : Type 0} → Option A → Bool
is_none none = true
is_none (some x) = false

-- 1: "set-up: N is 0 or above 4,096"
unfoldable pub bad_size : ℕ → Cause
bad_size n = record { number = 1; applies = wrong_size n }

-- 2: "queue set-up: arity not 2 to 8"
unfoldable pub bad_arity : ℕ → Cause
bad_arity d = record { number = 2; applies = ltb d 2 || ltb 8 d }

-- 3: "arm, move: deadline at or below the clock"
unfoldable pub not_after : ℕ → Plain → Cause
not_after e s = record { number = 3; applies = leb e s.clock }

-- 4: "advance: target below the clock"
unfoldable pub behind : ℕ → Plain → Cause
behind t s = record { number = 4; applies = ltb t s.clock }

-- 5: "wheel set-up, arm, move, advance: start, deadline or target above the last tick"
unfoldable pub beyond : ℕ → ℕ → ℕ → Cause
beyond b n t = record { number = 5; applies = ltb (last_tick b n) t }

-- 6: "arm, put: no free cell"
unfoldable pub full : Plain → Cause
full s = record { number = 6; applies = is_empty s.free }

-- 7: "move, cancel, rekey, remove: the handle names nothing"
unfoldable pub stale : ℕ → ℕ → Plain → Cause
stale c k s = record { number = 7; applies = is_none (named c k s.entries) }

-- 8: "arm, put, move, rekey: the counter is 18,446,744,073,709,551,615"
unfoldable pub spent : Plain → Cause
spent s = record { number = 8; applies = eqb s.counter 18446744073709551615 }

-- 9: "checked calls: head and memory don't pass the audit"
unfoldable pub unsound : Bool → Cause
unsound passes = record { number = 9; applies = not passes }

-- 10: "first, take: the queue is empty"
unfoldable pub empty : Plain → Cause
empty s = record { number = 10; applies = is_empty s.entries }

-- The ready queue's set-up by cases: a wrong size, a wrong arity, or none of the two.
-- Assumes nothing.
use Prim.Native.Nat.{ℕ, ◌/◌, ◌≤◌, ◌<◌}
use native.Mathlib.Omega.{arith}
use mathlib.Core.Bool.{true, false}
use mathlib.Core.List.{List}
use mathlib.Core.Path.{◌≡◌}
use lib.ListN.{length}
use borrow.Author.Tests.{lt-ltb, le-ltb}
use Rattle.cells.specs.Store.{wrong_size, fresh_words}
use Rattle.std.specs.Prelude.{Ok, Err}
use Rattle.cells.specs.Causes.{refusal_of}
use Rattle.cells.specs.declared.refusal.Refusal.TheVariants as causes
use Rattle.meaning.specs.Refusals.{first_of, bad_size, bad_arity}
use Rattle.queue.specs.SetUps.{set_up_causes, fresh_head, set_up_answer, set_up_words}

-- An arity that is too small.
pub arity-under : (d : ℕ) → d < 2 → (bad_arity d).applies ≡ true
unfolding bad_arity
arity-under d l = rw (lt-ltb d 2 l)

-- One that is too large.
pub arity-over : (d : ℕ) → 8 < d → (bad_arity d).applies ≡ true
unfolding bad_arity
arity-over d l = rw (le-ltb d 2 (omega arith), lt-ltb 8 d l)

-- One that will do.
pub arity-right : (d : ℕ) → 2 ≤ d → d ≤ 8 → (bad_arity d).applies ≡ false
unfolding bad_arity
arity-right d some most = rw (le-ltb d 2 some, le-ltb 8 d most)

module _ (w : List ℕ) (d : ℕ) where
  -- A wrong size is refused with 1, whatever the arity.
  pub refused-size : wrong_size (length w / 8) ≡ true → (Err causes.BadSize ≡ set_up_answer w d) × (w ≡ set_up_words w d)
  unfolding set_up_answer set_up_words set_up_causes first_of bad_size refusal_of
  refused-size e = (rw e, rw e)

  module _ (right : wrong_size (length w / 8) ≡ false) where
    -- A wrong arity is refused with 2 where the size is right.
    pub refused-arity : (bad_arity d).applies ≡ true → (Err causes.BadArity ≡ set_up_answer w d) × (w ≡ set_up_words w d)
    unfolding set_up_answer set_up_words set_up_causes first_of bad_size bad_arity refusal_of
    refused-arity e = (rw (right, e), rw (right, e))

    -- Where both are right the queue is set up.
    pub accepted-both : (bad_arity d).applies ≡ false → (set_up_answer w d ≡ Ok (fresh_head w d)) × (set_up_words w d ≡ fresh_words w)
    unfolding set_up_answer set_up_words set_up_causes first_of bad_size
    accepted-both e = (rw (right, e), rw (right, e))

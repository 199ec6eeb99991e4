-- A set-up's list keeps to the rules, and so does every list that calls leave.
-- Assumes nothing.
use Prim.Native.Nat.{ℕ, ◌≤◌}
use native.Mathlib.Omega.{arith}
use mathlib.Core.List.{List, [], ◌∷◌}
use lib.Dec.{lit≤}
use Rattle.cells.specs.Lists.{times}
use Rattle.meaning.specs.Entries.{named}
use Rattle.meaning.specs.Plain.{Plain, fresh, Change, stays, files, refiles, frees, hands, apply}
use Rattle.meaning.specs.Calls.{Call, outcome, result}
use Rattle.meaning.specs.Runs.{after}
use Rattle.meaning.proofs.Stack.{times-up_from}
use Rattle.meaning.specs.Kept.{Kept}
use Rattle.meaning.proofs.Allowed.{Allowed, allowed, found}
use Rattle.meaning.proofs.Kept.{kept-files, kept-refiles, kept-frees, kept-hands}

-- A set-up's list.
pub kept_fresh : (cells t : ℕ) → 1 ≤ cells → cells ≤ 4096 → Kept (fresh cells t)
unfolding fresh times
kept_fresh cells t least most =
    record {
      ordered = tt;
      cells = λ c. omega (arith, times-up_from c cells);
      numbered = tt;
      tickets = λ k. omega arith;
      orders = λ k. omega arith;
      counted = omega arith;
      counts = lit≤ tt;
      sized = least;
      fits = most;
    }

-- Calls leave the list as it is, or change it in a way that the list allows.
pub kept-apply : (s : Plain) → Kept s → (ch : Change) → Allowed ch s → Kept (apply ch s)
unfolding apply
kept-apply s kept stays a = kept
kept-apply s kept (files key load) a = kept-files s kept key load a.0 a.1
kept-apply s kept (refiles c k key) a =
    let (e, q) = found (named c k s.entries) a.0 in
    kept-refiles s kept c k e q key a.1
kept-apply s kept (frees c k) a =
    let (e, q) = found (named c k s.entries) a in
    kept-frees s kept c k e q
kept-apply s kept (hands m t) a = kept-hands s kept m t

module _ (b n : ℕ) where
  pub kept-call : (call : Call) (s : Plain) → Kept s → Kept (result b n call s).next
  unfolding result
  kept-call call s kept = kept-apply s kept (outcome b n call s).change (allowed b n s call)

  pub kept_run : (calls : List Call) (s : Plain) → Kept s → Kept (after b n calls s)
  unfolding after
  kept_run [] s kept = kept
  kept_run (call ∷ calls) s kept = kept_run calls (result b n call s).next (kept-call call s kept)

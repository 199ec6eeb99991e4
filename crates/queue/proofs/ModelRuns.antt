-- Demand 2 of the queue's model: from a set-up on, every answer is the plain list's.
-- Assumes nothing.
use Prim.Native.Nat.{ℕ, ◌≤◌}
use mathlib.Core.List.{List, [], ◌∷◌}
use mathlib.Core.Path.{◌≡◌, refl, ap₂}
use Rattle.cells.specs.Lists.{All}
use Rattle.meaning.specs.Plain.{Plain, fresh}
use Rattle.meaning.specs.Calls.{Call, Answer, result}
use Rattle.meaning.specs.Runs.{answers}
use Rattle.meaning.specs.Kept.{Kept}
use Rattle.meaning.proofs.Reached.{kept_fresh, kept-call}
use Rattle.queue.specs.Model.{Model, step, fresh_model, step_answers}
use Rattle.queue.specs.Means.{Means, OfQueue}
use Rattle.heap.proofs.HeapKeeps.{empty-in-order}
use Rattle.queue.proofs.Meets.{meets}

-- A set-up's model means a set-up's list.
pub means-fresh : (d cells : ℕ) → 2 ≤ d → d ≤ 8 → Means (fresh_model d cells) (fresh cells 0)
unfolding fresh_model fresh
means-fresh d cells some most =
    record {
      some = some;
      most = most;
      ordered = empty-in-order d;
      entries = λ f k. refl;
      counter = refl;
      cells = refl;
      free = refl;
    }

-- Over any calls of the queue the model answers as the plain list.
pub model-answers : (calls : List Call) (m : Model) (s : Plain) → All OfQueue calls → Kept s → Means m s
    → step_answers calls m ≡ answers 64 6 calls s
unfolding step_answers answers
model-answers [] m s q kept r = refl
model-answers (call ∷ calls) m s q kept r =
    let one = meets call m s q.0 kept r in
    ap₂ (λ (a : Answer) (as' : List Answer). a ∷ as') one.0
    (model-answers calls (step call m).next (result 64 6 call s).next q.1 (kept-call 64 6 call s kept) one.1)

-- "From a set-up on, every answer is that of a plain list".
pub model-from-fresh : (d cells : ℕ) (calls : List Call) → 2 ≤ d → d ≤ 8 → 1 ≤ cells → cells ≤ 4096 → All OfQueue calls
    → step_answers calls (fresh_model d cells) ≡ answers 64 6 calls (fresh cells 0)
model-from-fresh d cells calls some most least limit q =
    model-answers calls (fresh_model d cells) (fresh cells 0) q (kept_fresh cells 0 least limit) (means-fresh d cells some most)

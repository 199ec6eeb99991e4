-- What a call of the ready queue promises, in place, quick or checked.
-- Assumes nothing.
use Rattle.std.specs.Prelude.{ℕ, ◌*◌, ◌/◌, List, ◌≡◌, length, drop}
use Rattle.meaning.specs.Calls.{Call}
use Rattle.queue.specs.Model.{Model, step, step_moves}
use Rattle.queue.specs.Shows.{Shows}
use Rattle.queue.specs.Answers.{Told, refusal}
use Rattle.queue.specs.declared.head.Head.{Head}

-- What a call makes of a model: the answer is the model's, the moves are the definition's, and head and words afterwards show the next model.
pub record Done (call : Call) (m : Model) (t : Told) (h : Head) (w : List ℕ) : Type 0 where
  pub answer : t.answer ≡ (step call m).answer
  pub moves : t.moves ≡ step_moves call m
  pub next : Shows h w (step call m).next

-- From head h and words w a call tells t and leaves head h' and words w'. "The last L mod 8 words are never touched."
pub record Promise (call : Call) (h : Head) (w : List ℕ) (t : Told) (h' : Head) (w' : List ℕ) : Type 0 where
  pub size : length w' ≡ length w
  pub tail : drop (length w / 8 * 8) w' ≡ drop (length w / 8 * 8) w
  pub shown : (m : Model) → Shows h w m → Done call m t h' w'

-- "checked calls: head and memory don't pass the audit" gives 9, and "hands back the head unchanged and every lent word unchanged".
pub record Checked (call : Call) (h : Head) (w : List ℕ) (t : Told) (h' : Head) (w' : List ℕ) : Type 0 where
  pub promise : Promise call h w t h' w'
  pub broken : ((m : Model) → Shows h w m → ⊥) → (t ≡ refusal 9) × (h' ≡ h) × (w' ≡ w)

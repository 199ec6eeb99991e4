-- What the shared audit tells.
-- Assumes nothing.
use Rattle.std.specs.Prelude.{ℕ, ◌≤◌, Bool, true, List, ◌↔◌, ◌≡◌, is_some, IfSome}
use Rattle.std.specs.declared.option.Option.{Option}
use Rattle.cells.specs.Rules.{Differ, Sound}
use Rattle.cells.specs.Stack.{frees}
use Rattle.cells.specs.declared.store.Store.{Store}

-- "The audit says yes exactly if all of these hold", and then it tells how many cells are free.
pub record Judged (w : List ℕ) (s : Store) (used unused : ℕ) (r : Option ℕ) : Type 0 where
  pub exact : (is_some r ≡ true) ↔ Sound w s used unused
  pub count : IfSome r (λ free. free ≡ frees w s.cells)

-- "tickets differ from each other, and so do order numbers": a yes means it, and up to 4,096 cells a no means that they do not.
pub record TellsApart (w : List ℕ) (s : Store) (r : Bool) : Type 0 where
  pub differ : r ≡ true → Differ w s.cells 0 × Differ w s.cells 1
  pub found : s.cells ≤ 4096 → Differ w s.cells 0 → Differ w s.cells 1 → r ≡ true

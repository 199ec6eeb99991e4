-- What every accepted advance does, be it *done* or *more*: the first m entries are handed out, at a clock c between them and the others.
-- Assumes nothing.
use Rattle.std.specs.Prelude.{ℕ, ◌≤◌, Bool, true, ◌≡◌, length, take, drop}
use Rattle.cells.specs.Lists.{All}
use Rattle.meaning.specs.Entries.{Entry}
use Rattle.meaning.specs.Plain.{Plain}
use Rattle.meaning.specs.Calls.{Advance, outcome, hand_out, due_by}

pub record Handed (b n t r : ℕ) (s : Plain) : Type 0 where
  pub m : ℕ
  pub c : ℕ
  pub done : Bool
  pub same : outcome b n (Advance t r) s ≡ hand_out b n done m c s
  pub fits : m ≤ length s.entries
  pub early : All (λ (e : Entry). e.key ≤ c) (take m s.entries)
  pub late : All (λ (e : Entry). c ≤ e.key) (drop m s.entries)
  pub forward : s.clock ≤ c
  pub up_to : c ≤ t
  pub finished : done ≡ true → (m ≡ due_by t s.entries) × (c ≡ t)

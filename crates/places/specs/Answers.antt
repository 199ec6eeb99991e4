-- What the functions answer where the definitions say nothing.
-- Assumes nothing.
use Rattle.std.specs.Prelude.{ℕ, cond, ◌&&◌, ltb}
use Rattle.places.specs.Ticks.{wake_tick}

-- The wake tick of a slot of the wheel, and 0 where there is no such slot.
unfoldable pub wake_answer : ℕ → ℕ → ℕ → ℕ
wake_answer t p s = cond (ltb p 6 && ltb s 64) (wake_tick 64 t p s) 0

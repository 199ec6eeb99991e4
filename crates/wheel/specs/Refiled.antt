-- The test of a deadline, what a move does to the lists, and what an advance answers at its end, on any words whatever.
-- Assumes nothing.
use Rattle.std.specs.Prelude.{ℕ, cond, leb, ltb, Option, Some, None, Result, Ok, Err}
use Rattle.cells.specs.declared.refusal.Refusal.{Refusal}
use Rattle.cells.specs.declared.refusal.Refusal.TheVariants as refusal
use Rattle.cells.specs.Words.{word, put_word}
use Rattle.places.specs.Ticks.{last_tick}
use Rattle.slots.specs.Rings.{Lists}
use Rattle.slots.specs.Stand.{join_at, leave_at}
use Rattle.dial.specs.Turns.{list_of, with_words}
use Rattle.dial.specs.declared.state.HowEnded.{HowEnded}
use Rattle.dial.specs.declared.state.HowEnded.TheVariants as how
use Rattle.dial.specs.declared.state.Turn.{Turn}
use Rattle.dial.specs.declared.state.TurnsEnded.{TurnsEnded}
use Rattle.wheel.specs.declared.head.Advanced.{Advanced}
use Rattle.wheel.specs.declared.head.Advanced.TheVariants as advanced

-- "arm, move: deadline at or below the clock", and before that "deadline .. above the last tick".
unfoldable pub timely : ℕ → ℕ → Result Unit Refusal
timely t e = cond (ltb (last_tick 64 6) e) (Err refusal.Beyond) (cond (leb e t) (Err refusal.NotAfter) (Ok tt))

-- "A move .. keeps cell, ticket and load, and takes a fresh order number": out of its list, and at the tail of its new one.
unfoldable pub refiled_lists : Lists → ℕ → ℕ → ℕ → ℕ → Lists
refiled_lists l t c order e =
    let l₁ = leave_at l (list_of t (word l.words c 2)) c in
    join_at (with_words l₁ (put_word (put_word l₁.words c 1 order) c 2 e)) (list_of t e) c

-- "The answer also gives the number fired, the clock and the moves"; turns that ran out are broken memory's.
unfoldable pub ended_with : Option HowEnded → Turn → Result Advanced Refusal
ended_with (Some how.Done) t = Ok (advanced.Done t.fired t.dial.clock t.moves)
ended_with (Some how.More) t = Ok (advanced.More t.fired t.dial.clock t.moves)
ended_with None t = Err refusal.Unsound

unfoldable pub ended_answer : TurnsEnded → Result Advanced Refusal
ended_answer e = ended_with e.ending e.turn

-- "For the queue besides": the rules of document 01's audit that are the ready queue's own, each by itself.
-- Assumes nothing.
use Rattle.std.specs.Prelude.{ℕ, ◌≤◌, ◌<◌, true, false, List, ◌≡◌}
use Rattle.cells.specs.Words.{word}
use Rattle.cells.specs.Rules.{in_use, Sound}
use Rattle.meaning.specs.Heap.{parent}
use Rattle.heap.specs.Seats.{ranked, seat_at}
use Rattle.queue.specs.declared.head.Head.{Head}

-- The fields that a queue leaves unused, as masks: words 4 and 7 of a cell in use; of a free one all but its link and the position table's.
abbrev pub used_mask : ℕ
used_mask = 144

abbrev pub free_mask : ℕ
free_mask = 175

-- A filled position: "each entry stands at one heap position", "each entry knows its position", "none is before its parent".
pub record SeatRule (w : List ℕ) (h : Head) (p : ℕ) : Type 0 where
  pub inside : word w p 6 < h.store.cells
  pub used : in_use w (word w p 6) ≡ true
  pub known : word w (word w p 6) 5 ≡ p
  pub behind :
      0 < p → ranked (seat_at w p).key (seat_at w p).order (seat_at w (parent h.arity p)).key (seat_at w (parent h.arity p)).order ≡ false

-- "The audit says yes exactly if all of these hold".
pub record QueueSound (w : List ℕ) (h : Head) : Type 0 where
  -- What every engine shares.
  pub shared : Sound w h.store used_mask free_mask
  -- The counter is a 64-bit number.
  pub counts : h.store.counter ≤ 18446744073709551615
  -- "arity 2 to 8"
  pub some : 2 ≤ h.arity
  pub most : h.arity ≤ 8
  -- "positions 0 to n-1 are filled": there are no more positions than cells
  pub fits : h.count ≤ h.store.cells
  pub seats : (p : ℕ) → p < h.count → SeatRule w h p
  -- "each entry stands at one heap position"
  pub placed : (c : ℕ) → c < h.store.cells → in_use w c ≡ true → word w c 5 < h.count
  pub found : (c : ℕ) → c < h.store.cells → in_use w c ≡ true → word w (word w c 5) 6 ≡ c
  -- "from position n up it is zero"
  pub beyond : (p : ℕ) → h.count ≤ p → p < h.store.cells → word w p 6 ≡ 0

-- The plain list, and the five ways in which a call may change it. Every engine's calls are told by these.
-- Assumes nothing.
use Rattle.std.specs.Prelude.{ℕ, zero, suc, take, drop}
use mathlib.Core.List.{List, [], ◌∷◌, tail}
use Rattle.std.proofs.Math.Option.{get_or}
use Rattle.meaning.specs.Entries.{Entry, insert, named, without, nobody}

-- "a list of entries .., the clock, the counter, N and the free stack"
pub record Plain : Type 0 where
  pub entries : List Entry
  pub clock : ℕ
  pub counter : ℕ
  pub cells : ℕ
  pub free : List ℕ

-- The numbers from a up, n of them.
unfoldable pub up_from : ℕ → ℕ → List ℕ
up_from a zero = []
up_from a (suc n) = a ∷ up_from (suc a) n

-- "A counter starts at 1." "After set-up cell 0 is on top, then 1, and so on."
unfoldable pub fresh : ℕ → ℕ → Plain
fresh n t = record { entries = []; clock = t; counter = 1; cells = n; free = up_from 0 n }

-- The top of the free stack.
unfoldable pub top : List ℕ → ℕ
top [] = 0
top (c ∷ cs) = c

-- "a freed cell goes on top, in the order in which entries are handed out"
unfoldable pub onto : List Entry → List ℕ → List ℕ
onto [] free = free
onto (e ∷ es) free = onto es (e.cell ∷ free)

-- "An accepted arm or put takes the counter's value as both its ticket and its order number and raises the counter by 1", "takes the top".
unfoldable pub filed : ℕ → ℕ → Plain → Entry
filed key load s = record { key = key; order = s.counter; cell = top s.free; ticket = s.counter; load = load }

-- "A move or rekey keeps cell, ticket and load, and takes a fresh order number in the same way, even when the deadline or key is unchanged."
unfoldable pub refiled : ℕ → Plain → Entry → Entry
refiled key s e = record { key = key; order = s.counter; cell = e.cell; ticket = e.ticket; load = e.load }

-- What a call does to the list: nothing; a new entry; another key for an entry; an entry given back by its handle; the first m handed out, with a new clock.
pub data Change : Type 0 where
  stays : Change
  files : (key load : ℕ) → Change
  refiles : (cell ticket key : ℕ) → Change
  frees : (cell ticket : ℕ) → Change
  hands : (m clock : ℕ) → Change

unfoldable pub apply : Change → Plain → Plain
apply stays s = s
apply (files key load) s =
    record {
      entries = insert (filed key load s) s.entries;
      clock = s.clock;
      counter = suc s.counter;
      cells = s.cells;
      free = tail s.free;
    }
apply (refiles c k key) s =
    record {
      entries = insert (refiled key s (get_or (named c k s.entries) nobody)) (without c k s.entries);
      clock = s.clock;
      counter = suc s.counter;
      cells = s.cells;
      free = s.free;
    }
apply (frees c k) s =
    record { entries = without c k s.entries; clock = s.clock; counter = s.counter; cells = s.cells; free = c ∷ s.free }
apply (hands m t) s =
    record
    { entries = drop m s.entries; clock = t; counter = s.counter; cells = s.cells; free = onto (take m s.entries) s.free }

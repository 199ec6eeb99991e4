-- What becomes of the entry that a handle names.
-- Assumes nothing.
use Rattle.std.specs.Prelude.{ℕ, Bool, cond, ◌&&◌, eqb, take}
use Rattle.std.proofs.Math.Option.{Option, none, map}
use Rattle.meaning.specs.Entries.{Entry, named}
use Rattle.meaning.specs.Plain.{Plain, Change, stays, files, refiles, frees, hands, refiled}
use Rattle.meaning.specs.Refusals.{is_none}

-- Two handles are the same: cell and ticket.
unfoldable pub same_handle : ℕ → ℕ → ℕ → ℕ → Bool
same_handle c k c' k' = eqb c c' && eqb k k'

-- What a change makes of the handle's entry: another key by this handle, nothing where it ends, else what it was.
unfoldable pub becomes : ℕ → ℕ → Change → Plain → Option Entry → Option Entry
becomes c k stays s o = o
becomes c k (files key load) s o = o
becomes c k (refiles c' k' key) s o = cond (same_handle c k c' k') (map (refiled key s) o) o
becomes c k (frees c' k') s o = cond (same_handle c k c' k') none o
becomes c k (hands m t) s o = cond (is_none (named c k (take m s.entries))) o none

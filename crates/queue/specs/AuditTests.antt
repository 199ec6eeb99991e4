-- The tests by which the queue's audit decides its rules; that they do is proved in `proofs/Audits.antt`.
-- Assumes nothing.
use Rattle.std.specs.Prelude.{ℕ, ◌+◌, Bool, cond, not, ◌&&◌, ◌||◌, List, leb, ltb, eqb}
use Rattle.cells.specs.Words.{word}
use Rattle.cells.specs.Stack.{is_free, frees}
use Rattle.audits.specs.AuditTests.{shared_test, all_below}
use Rattle.meaning.specs.Heap.{parent}
use Rattle.heap.specs.Seats.{ranked, seat_at}
use Rattle.queue.specs.Rules.{used_mask, free_mask}
use Rattle.queue.specs.declared.audit.Family.{Family}
use Rattle.queue.specs.declared.head.Head.{Head}

-- "arity 2 to 8", no more positions than cells, and a counter of 64 bits, which any head in memory has
unfoldable pub head_test : Head → Bool
head_test h =
    leb h.store.counter 18446744073709551615 && (leb 2 h.arity && (leb h.arity 8 && leb h.count h.store.cells))

-- "none is before its parent": of position p in a heap with arity d
unfoldable pub behind_test : List ℕ → ℕ → ℕ → Bool
behind_test w d p =
    eqb p 0 || not (ranked (seat_at w p).key (seat_at w p).order (seat_at w (parent d p)).key (seat_at w (parent d p)).order)

-- A filled position p holds a cell in use of the first n, which knows that position.
unfoldable pub seat_test : List ℕ → ℕ → ℕ → ℕ → Bool
seat_test w d n p =
    ltb (word w p 6) n
    && (not (is_free w (word w p 6)) && (eqb (word w (word w p 6) 5) p && behind_test w d p))

-- A filled position p holds a cell in use of the first n, which knows that position and is not before a parent of this key and order
-- number.
unfoldable pub held_test : List ℕ → ℕ → ℕ → ℕ → ℕ → Bool
held_test w n p key order =
    ltb (word w p 6) n
    && (not (is_free w (word w p 6))
    && (eqb (word w (word w p 6) 5) p && not (ranked (word w (word w p 6) 2) (word w (word w p 6) 1) key order)))

-- The family of the position in turn.
unfoldable pub family_of : List ℕ → ℕ → Family → Family
family_of w d f =
    cond (eqb f.left 0)
    (record { next = f.next + 1; left = d; key = (seat_at w f.next).key; order = (seat_at w f.next).order })
    f

-- "positions 0 to n-1 are filled": as many as cells are in use
unfoldable pub count_test : List ℕ → Head → Bool
count_test w h = eqb (h.count + frees w h.store.cells) h.store.cells

-- "from position n up it is zero"
unfoldable pub beyond_test : List ℕ → ℕ → ℕ → Bool
beyond_test w count p = ltb p count || eqb (word w p 6) 0

-- All that the audit tests.
unfoldable pub audit_test : List ℕ → Head → Bool
audit_test w h =
    head_test h
    && (shared_test w h.store used_mask free_mask
    && (count_test w h
    && (all_below h.count (seat_test w h.arity h.store.cells) && all_below h.store.cells (beyond_test w h.count))))

-- The seat of an entry in a heap, and the root: the earliest of the same entries in their order.
-- Assumes nothing.
use Prim.Native.Nat.{ℕ, zero, suc, ◌≤◌, ◌<◌}
use native.Mathlib.Omega.{arith}
use mathlib.Core.Bool.{Bool, true, false, cond}
use mathlib.Core.List.{List, [], ◌∷◌, map}
use mathlib.Core.Option.{some, none-ne-some, some-injective}
use mathlib.Core.Path.{◌≡◌, sym, ◌∙◌}
use lib.ListN.{length}
use Rattle.cells.specs.Lists.{times}
use Rattle.cells.proofs.Cases.{test, clash}
use Rattle.meaning.specs.Entries.{Entry, before, names, named, earliest, Ordered}
use Rattle.meaning.specs.Heap.{at}
use Rattle.meaning.specs.Arranged.{SameEntries}
use Rattle.meaning.proofs.Handles.{ticket_of, named-all}
use Rattle.meaning.proofs.Same.{same_length, same-named, named-head}
use Rattle.heap.specs.HeapOrder.{InOrder}
use Rattle.heap.proofs.Root.{root-first}
use Rattle.queue.specs.Model.{seat_of}

-- The seat of a handle that names an entry is filled, and the entry stands there.
pub seat-holds : (c k : ℕ) (e : Entry) (h : List Entry) → named c k h ≡ some e → (seat_of c k h < length h) × (at h (seat_of c k h) ≡ e)
unfolding named seat_of at
seat-holds c k e [] q = absurd (none-ne-some e q)
seat-holds c k e (x ∷ xs) q = go (names c k x) q (seat-holds c k e xs)
  where
    go : (t : Bool) → cond t (some x) (named c k xs) ≡ some e
        → (named c k xs ≡ some e → (seat_of c k xs < length xs) × (at xs (seat_of c k xs) ≡ e))
        → (cond t zero (suc (seat_of c k xs)) < length (x ∷ xs)) × (at (x ∷ xs) (cond t zero (suc (seat_of c k xs))) ≡ e)
    go true r f = (omega arith, some-injective x e r)
    go false r f = let two = f r in (omega arith, two.1)

-- The root of a heap in order is the earliest of the same entries in their order.
pub root-earliest : (d : ℕ) (h es : List Entry) → SameEntries h es → ((k : ℕ) → times k (map ticket_of es) ≤ 1) → InOrder d h → Ordered es
    → 0 < length es → at h 0 ≡ earliest es
unfolding earliest at named
root-earliest d h [] s u o ord l = absurd (omega arith)
root-earliest d [] (x ∷ xs) s u o ord l = absurd (omega (arith, same_length [] (x ∷ xs) s))
root-earliest d (r ∷ rs) (x ∷ xs) s u o ord l =
    test (names r.cell r.ticket x)
    (λ t. some-injective r x (sym root ∙ first t))
    (λ t. clash (named-all r.cell r.ticket (λ (y : Entry). before x y ≡ true) r xs (sym (rest t) ∙ root) ord.0) late)
  where
    root : named r.cell r.ticket (x ∷ xs) ≡ some r
    root = sym (same-named (r ∷ rs) (x ∷ xs) s r.cell r.ticket (u r.ticket)) ∙ named-head r rs

    first : names r.cell r.ticket x ≡ true → named r.cell r.ticket (x ∷ xs) ≡ some x
    first t = rw t

    rest : names r.cell r.ticket x ≡ false → named r.cell r.ticket (x ∷ xs) ≡ named r.cell r.ticket xs
    rest t = rw t

    late : before x r ≡ false
    late =
        let seat = seat-holds x.cell x.ticket x (r ∷ rs)
        (same-named (r ∷ rs) (x ∷ xs) s x.cell x.ticket (u x.ticket) ∙ named-head x xs) in
        rw seat.1 at (root-first d (r ∷ rs) o (seat_of x.cell x.ticket (r ∷ rs)) seat.0)

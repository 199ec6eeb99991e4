-- What is due is handed out, step by step: from what the calls of each function answer.
-- Assumes nothing.
use Prim.Native.Nat.{ℕ, zero, suc, ◌+◌, ◌-◌, ◌*◌, ◌/◌, ◌<◌}
use native.Mathlib.Numerals.{add-one}
use native.Mathlib.Omega.{arith}
use mathlib.Core.Bool.{Bool, true, false, cond}
use mathlib.Core.List.{List, [], ◌∷◌, append-nil}
use mathlib.Core.Path.{◌≡◌, refl, sym, ap}
use lib.Dec.{eqb}
use lib.ListN.{length, take, drop, length-drop, drop_of_length-le}
use lib.Seq.{take_all, drop-drop}
use borrow.Author.Tests.{eq-eqb, ne_eqb}
use borrow.Rule.Slice.PartMut.{put_mid, mid_of}
use Rattle.cells.specs.Stack.{no_cell}
use Rattle.cells.specs.Words.{word}
use Rattle.cells.specs.Store.{release_store}
use Rattle.dial.specs.Turns.{State, recorded, fire, hand_out, room}
use Rattle.dial.specs.Lent.{handed_out}

-- The output behind n records is lent and given back as B, with a record at its start.
pub recorded-is : (w out B : List ℕ) (n c k e x : ℕ) → B ≡ c ∷ k ∷ e ∷ x ∷ drop 4 (mid_of (n * 4) (length out - n * 4) out)
    → k ≡ word w c 0
    → e ≡ word w c 2
    → x ≡ word w c 3
    → put_mid (n * 4) (length out - n * 4) out B ≡ recorded out n c (word w c 0) (word w c 2) (word w c 3)
unfolding recorded
recorded-is w out B n c k e x h f g i =
    let whole : take (length out - n * 4) (drop (n * 4) out) ≡ drop (n * 4) out =
    take_all (length out - n * 4) (drop (n * 4) out) (simp length-drop (omega arith)) in
    let none : drop (length out - n * 4) (drop (n * 4) out) ≡ [] =
    drop_of_length-le (drop (n * 4) out) {i = length out - n * 4} (simp length-drop (omega arith)) in
    rw (h, whole, none, append-nil (drop 4 (drop (n * 4) out)), drop-drop 4 (n * 4) out, f, g, i)

-- What is fired is one record more.
pub one-fired : (z : State) {y : State} → y ≡ fire z → y.fired ≡ z.fired + 1
unfolding fire
one-fired z e = rw (e, add-one z.fired)

-- Handing out ends where nothing is due.
pub hand-stop : (k : ℕ) (z : State) → z.lists.due.first ≡ no_cell → hand_out k z ≡ z
unfolding hand_out
hand-stop zero z e = refl
hand-stop (suc k) z e = rw (eq-eqb z.lists.due.first no_cell e)

-- And where no room is left.
pub hand-none : (k : ℕ) (z : State) → k ≡ 0 → hand_out k z ≡ z
unfolding hand_out
hand-none k z e = rw e

-- With room for r in all, it is all that is handed out.
pub handed-is : (z : State) (r : ℕ) {y : State} → r ≡ length z.out / 4 → hand_out (r - z.fired) z ≡ y → y ≡ handed_out z
unfolding handed_out room
handed-is z r e h = rw (← e) (sym h)

-- One record more, with room for r in all.
pub hand_on : (r : ℕ) (z y : State) → z.fired < r → (z.lists.due.first ≡ no_cell → ⊥) → y ≡ fire z
    → hand_out (r - z.fired) z ≡ hand_out (r - y.fired) y
unfolding hand_out
hand_on r z y some e a =
    let more : r - z.fired ≡ suc (r - y.fired) = omega (arith, one-fired z a) in
    rw (more, ne_eqb z.lists.due.first no_cell e) (ap (hand_out (r - y.fired)) (sym a))

-- No cascade happens meanwhile, and no cell is lost.
pub hand-keeps : (k : ℕ) (z : State) → ((hand_out k z).moves ≡ z.moves) × ((hand_out k z).store.cells ≡ z.store.cells)
unfolding hand_out fire release_store
hand-keeps zero z = (refl, refl)
hand-keeps (suc k) z = go (eqb z.lists.due.first no_cell) (hand-keeps k (fire z))
  where
    go : (t : Bool) → ((hand_out k (fire z)).moves ≡ z.moves) × ((hand_out k (fire z)).store.cells ≡ z.store.cells)
        → ((cond t z (hand_out k (fire z))).moves ≡ z.moves) × ((cond t z (hand_out k (fire z))).store.cells ≡ z.store.cells)
    go true r = (refl, refl)
    go false r = r

-- So for all that is handed out.
pub handed-keeps : (z : State) {y : State} → y ≡ handed_out z → (y.moves ≡ z.moves) × (y.store.cells ≡ z.store.cells)
unfolding handed_out
handed-keeps z e = rw e (hand-keeps (room z - z.fired) z)

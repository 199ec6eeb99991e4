-- What head and words that show a model hold at each cell.
-- Assumes nothing.
use Prim.Native.Nat.{ℕ, ◌+◌, ◌≤◌, ◌<◌}
use native.Mathlib.Omega.{arith}
use mathlib.Core.Bool.{Bool, true, cond, ◌&&◌}
use mathlib.Core.List.{List}
use mathlib.Core.Path.{◌≡◌}
use lib.Dec.{leb, ltb}
use lib.ListN.{length, length-map}
use borrow.Author.Tests.{leb-true, le-leb, ltb-true, lt-ltb}
use Rattle.cells.specs.Lists.{All, times}
use Rattle.cells.proofs.Cases.{and-true}
use Rattle.cells.proofs.Lists.{all_map}
use Rattle.cells.proofs.Sums.{few}
use Rattle.meaning.specs.Entries.{Entry}
use Rattle.meaning.specs.Heap.{at}
use Rattle.meaning.specs.Kept.{Numbered}
use Rattle.meaning.proofs.ByPosition.{all-at, all_same}
use Rattle.meaning.proofs.Stored.{Stored}
use Rattle.heap.specs.Stands.{cells_of}
use Rattle.queue.specs.Model.{Model}
use Rattle.queue.specs.Shows.{Carried, Valid, Shows}
use Rattle.queue.specs.Rules.{used_mask, free_mask}
use Rattle.queue.specs.declared.head.Head.{Head}
use Rattle.queue.proofs.Masks.{used-only, free-not-link, free-not-table}
use Rattle.queue.proofs.Meets.{means-tickets}

-- An entry's numbers as a test.
numbered_to : ℕ → Entry → Bool
numbered_to n e = leb 1 e.ticket && (leb e.ticket e.order && ltb e.order n)

-- The rule passes the test.
numbered-to : (n : ℕ) (e : Entry) → Numbered n e → numbered_to n e ≡ true
unfolding numbered_to
numbered-to n e r =
    rw (le-leb 1 e.ticket r.some, le-leb e.ticket e.order r.rising, lt-ltb e.order n r.taken)

-- Where it passes the rule holds.
to-numbered : (n : ℕ) (e : Entry) → numbered_to n e ≡ true → Numbered n e
unfolding numbered_to
to-numbered n e t =
    let one = and-true (leb 1 e.ticket) (leb e.ticket e.order && ltb e.order n) t in
    let two = and-true (leb e.ticket e.order) (ltb e.order n) one.1 in
    record { some = leb-true _ _ one.0; rising = leb-true _ _ two.0; taken = ltb-true _ _ two.1 }

-- A model that means a list that keeps to the rules keeps to them itself.
module _ (m : Model) (v : Valid m) where
  -- Free cells and cells in use are together 0 to N - 1, once each.
  pub model-cells : (c : ℕ) → times c (cells_of m.heap) + times c m.free ≡ cond (ltb c m.cells) 1 0
  model-cells c =
      rw (v.means.entries (λ (e : Entry). e.cell) c, v.means.free, v.means.cells) (v.kept.cells c)

  -- "each entry has 1 <= ticket <= order number < counter"
  model-numbered : All (Numbered m.counter) m.heap
  model-numbered =
      let test : Entry → Bool = numbered_to m.counter in
      all_map (λ e t. to-numbered m.counter e t) m.heap
      (all_same test m.heap v.list.entries v.means.entries
      (all_map (λ e r. numbered-to m.counter e (rw v.means.counter r)) v.list.entries v.kept.numbered))

  -- There are no more entries than cells.
  pub model-fits : length m.heap ≤ m.cells
  model-fits =
      omega (
        arith,
        few m.cells (cells_of m.heap) (λ c. omega (arith, model-cells c)),
        length-map m.heap (λ (e : Entry). e.cell),
      )

module _ (h : Head) (w : List ℕ) (m : Model) (s : Shows h w m) where
  -- The entry at a position is carried by its cell.
  pub carried-at : (p : ℕ) → p < length m.heap → Carried w (at m.heap p)
  carried-at = all-at (Carried w) m.heap s.entries

  -- Its entries and free cells stand in the words.
  pub shown-stored : Stored w m.cells m.counter used_mask free_mask m.heap m.free
  shown-stored =
      let v = s.valid in
      record {
        cells = model-cells m v;
        numbered = model-numbered m v;
        tickets = means-tickets m v.list v.kept v.means;
        orders = λ k. omega (arith, v.means.entries (λ (e : Entry). e.order) k, v.kept.orders k);
        ticket = all_map (λ e c. c.ticket) m.heap s.entries;
        order = all_map (λ e c. c.order) m.heap s.entries;
        unused = all_map (λ e c f k t. used-only f k t (λ q. rw q c.unlinked) (λ q. rw q c.unused)) m.heap s.entries;
        blank = λ c f k i t. s.blank c f k (free-not-link f t) (free-not-table f t);
        vacant = λ c k. s.blank c 0 k (λ e. omega arith) (λ e. omega arith);
      }

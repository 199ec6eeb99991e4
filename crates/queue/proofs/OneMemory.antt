-- A model is shown by one head and one memory only.
-- Assumes nothing.
use Prim.Native.Nat.{ℕ, ◌*◌, ◌/◌, ◌≤◌, ◌<◌}
use native.Mathlib.Omega.{arith}
use mathlib.Core.List.{List}
use mathlib.Core.Path.{◌≡◌, sym, ◌∙◌}
use lib.ListN.{length, drop}
use Rattle.cells.specs.Lists.{times}
use Rattle.cells.specs.Words.{word}
use Rattle.cells.specs.Stack.{link}
use Rattle.cells.proofs.Cases.{same?, at_most?}
use Rattle.cells.proofs.Chains.{chain-tops, chain-alike}
use Rattle.cells.proofs.Lists.{all-times}
use Rattle.cells.proofs.Places.{words-ext, each-field}
use Rattle.meaning.specs.Heap.{at}
use Rattle.meaning.proofs.Stored.{cell-either}
use Rattle.queue.specs.Model.{Model}
use Rattle.queue.specs.Shows.{Shows}
use Rattle.queue.specs.declared.head.Head.{Head}
use Rattle.queue.proofs.ShownFacts.{carried-at, shown-stored}

-- A head of its numbers.
abbrev head_of : (arity count cells free counter : ℕ) → Head
head_of arity count cells free counter =
    record { arity = arity; count = count; store = record { cells = cells; free = free; counter = counter } }

-- Two heads with the same numbers are one.
head-same : (h h' : Head) → h.arity ≡ h'.arity → h.count ≡ h'.count → h.store.cells ≡ h'.store.cells → h.store.free ≡ h'.store.free
    → h.store.counter ≡ h'.store.counter → h ≡ h'
head-same h h' a b c d e =
    let whole : head_of h.arity h.count h.store.cells h.store.free h.store.counter
    ≡ head_of h'.arity h'.count h'.store.cells h'.store.free h'.store.counter = cc in
    whole

module _ (h h' : Head) (w w' : List ℕ) (m : Model) (s : Shows h w m) (s' : Shows h' w' m) where
  -- The head is one.
  one-head : h ≡ h'
  one-head =
      head-same h h'
      (s.arity ∙ sym s'.arity)
      (s.count ∙ sym s'.count)
      (s.cells ∙ sym s'.cells)
      (chain-tops (link w) (link w') h.store.free h'.store.free m.free s.free s'.free)
      (s.counter ∙ sym s'.counter)

  -- The position table is one.
  same-table : (p : ℕ) → word w p 6 ≡ word w' p 6
  same-table p =
      at_most? (length m.heap) p
      (λ l. s.beyond p l ∙ sym (s'.beyond p l))
      (λ l. s.seats.table p l ∙ sym (s'.seats.table p l))

  -- So are the words of an entry's cell.
  same-entry : (p : ℕ) → p < length m.heap → (f : ℕ) → f < 8 → word w (at m.heap p).cell f ≡ word w' (at m.heap p).cell f
  same-entry p l f k =
      let a = carried-at h w m s p l in
      let b = carried-at h' w' m s' p l in
      let c : ℕ = (at m.heap p).cell in
      each-field (λ (g : ℕ). word w c g ≡ word w' c g)
      (a.ticket ∙ sym b.ticket)
      (a.order ∙ sym b.order)
      (a.key ∙ sym b.key)
      (a.load ∙ sym b.load)
      (a.unlinked ∙ sym b.unlinked)
      (s.seats.place p l ∙ sym (s'.seats.place p l))
      (same-table c)
      (a.unused ∙ sym b.unused)
      f k

  -- So are those of a free cell.
  same-free : (c : ℕ) → 1 ≤ times c m.free → (f : ℕ) → word w c f ≡ word w' c f
  same-free c k f =
      same? f 4
      (λ e. rw e
      (all-times (λ (c : ℕ). link w c ≡ link w' c) m.free
      (chain-alike (link w) (link w') h.store.free h'.store.free m.free s.free s'.free) c k))
      (λ n. same? f 6
      (λ e. rw e (same-table c))
      (λ t. s.blank c f k n t ∙ sym (s'.blank c f k n t)))

  -- So is every word of every cell.
  same_word : (c f : ℕ) → c < length w / 8 → f < 8 → word w c f ≡ word w' c f
  same_word c f l k =
      cell-either m.cells m.heap m.free (shown-stored h w m s).cells c (omega (arith, s.size))
      (λ p i e o z. rw e at (same-entry p i f k))
      (λ z o. same-free c (omega arith) f)

-- A model is shown by one head only, and by one memory of each length, but for the words past the cells.
pub one-memory : (h h' : Head) (w w' : List ℕ) (m : Model) → Shows h w m → Shows h' w' m → length w ≡ length w'
    → drop (length w / 8 * 8) w ≡ drop (length w / 8 * 8) w'
    → (h ≡ h') × (w ≡ w')
one-memory h h' w w' m s s' long past = (one-head h h' w w' m s s', words-ext w w' long (same_word h h' w w' m s s') past)

-- Head and words that show a model keep to every rule of the audit.
-- Assumes nothing.
use Prim.Native.Nat.{ℕ, ◌<◌}
use native.Mathlib.Omega.{arith}
use mathlib.Core.Bool.{true}
use mathlib.Core.List.{List}
use mathlib.Core.Path.{◌≡◌, sym, ap, ◌∙◌}
use lib.ListN.{length}
use Rattle.cells.specs.Words.{word}
use Rattle.cells.specs.Rules.{in_use, Sound}
use Rattle.meaning.specs.Entries.{Entry, before}
use Rattle.meaning.specs.Heap.{at, parent}
use Rattle.meaning.proofs.Stored.{entry-below, stored-used, used-at, stored-sound}
use Rattle.heap.specs.Seats.{ranked, seat_at}
use Rattle.heap.proofs.Positions.{parent-below}
use Rattle.queue.specs.Model.{Model}
use Rattle.queue.specs.Shows.{Shows}
use Rattle.queue.specs.Rules.{used_mask, free_mask, SeatRule, QueueSound}
use Rattle.queue.specs.declared.head.Head.{Head}
use Rattle.queue.proofs.ShownFacts.{model-fits, carried-at, shown-stored}

-- The order of two positions is that of the entries whose keys and order numbers stand there.
pub rank-before : (w : List ℕ) (p q : ℕ) (x y : Entry) → (seat_at w p).key ≡ x.key → (seat_at w p).order ≡ x.order
    → (seat_at w q).key ≡ y.key → (seat_at w q).order ≡ y.order
    → ranked (seat_at w p).key (seat_at w p).order (seat_at w q).key (seat_at w q).order ≡ before x y
unfolding ranked before
rank-before w p q x y a b c d = rw (a, b, c, d)

module _ (h : Head) (w : List ℕ) (m : Model) (s : Shows h w m) where
  -- What every engine shares.
  shared-rules : Sound w h.store used_mask free_mask
  shared-rules =
      stored-sound w h.store used_mask free_mask m.heap m.free
      (rw (s.cells, s.counter) (shown-stored h w m s))
      s.free
      (s.cells ∙ s.size)
      (omega (arith, s.cells, s.valid.means.cells, s.valid.kept.sized))
      (omega (arith, s.cells, s.valid.means.cells, s.valid.kept.fits))
      (omega (arith, s.counter, s.valid.means.counter, s.valid.kept.counted))

  -- The key that stands at a position.
  seat-key : (p : ℕ) → p < length m.heap → (seat_at w p).key ≡ (at m.heap p).key
  unfolding seat_at
  seat-key p l = rw (s.seats.table p l) (carried-at h w m s p l).key

  -- The order number that stands at a position.
  seat-order : (p : ℕ) → p < length m.heap → (seat_at w p).order ≡ (at m.heap p).order
  unfolding seat_at
  seat-order p l = rw (s.seats.table p l) (carried-at h w m s p l).order

  -- The rules of a filled position.
  seat-rule : (p : ℕ) → p < length m.heap → SeatRule w h p
  seat-rule p l =
      let here = s.seats.table p l in
      record {
        inside = rw (here, s.cells) (entry-below m.cells m.heap m.free (shown-stored h w m s).cells p l);
        used = rw here (stored-used w m.cells m.counter used_mask free_mask m.heap m.free (shown-stored h w m s) p l);
        known = rw here (s.seats.place p l);
        behind = λ z.
            let q : ℕ = parent h.arity p in
            let k : q < length m.heap = omega (arith, parent-below h.arity p z) in
            rank-before w p q (at m.heap p) (at m.heap q) (seat-key p l) (seat-order p l) (seat-key q k) (seat-order q k)
            ∙ rw s.arity (s.valid.means.ordered.behind p z l);
      }

  -- The position that a cell in use knows holds that cell.
  place-rule : {P : Type 0} (c : ℕ) → c < h.store.cells → in_use w c ≡ true → (word w c 5 < h.count → word w (word w c 5) 6 ≡ c → P) → P
  place-rule c l u f =
      used-at w m.cells m.counter used_mask free_mask m.heap m.free (shown-stored h w m s) c (omega (arith, s.cells)) u
      (λ p k e.
      let here : word w c 5 ≡ p = ap (λ (x : ℕ). word w x 5) (sym e) ∙ s.seats.place p k in
      f (omega (arith, s.count)) (rw here (s.seats.table p k ∙ e)))

-- What shows a model is sound.
pub shown-sound : (h : Head) (w : List ℕ) (m : Model) → Shows h w m → QueueSound w h
shown-sound h w m s = record {
  shared = shared-rules h w m s;
  counts = omega (arith, s.counter, s.valid.means.counter, s.valid.kept.counts);
  some = omega (arith, s.arity, s.valid.means.some);
  most = omega (arith, s.arity, s.valid.means.most);
  fits = omega (arith, s.count, s.cells, model-fits m s.valid);
  seats = λ p l. seat-rule h w m s p (omega (arith, s.count));
  placed = λ c l u. place-rule h w m s c l u (λ a b. a);
  found = λ c l u. place-rule h w m s c l u (λ a b. b);
  beyond = λ p l k. s.beyond p (omega (arith, s.count));
}

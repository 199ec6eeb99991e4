-- The handle test on the words is the model's: a handle that passes names the entry whose position its cell knows, and any other names none.
-- Assumes nothing.
use Prim.Native.Nat.{ℕ, ◌≤◌, ◌<◌}
use native.Mathlib.Omega.{arith}
use mathlib.Core.Bool.{true, false}
use mathlib.Core.List.{List, map}
use mathlib.Core.Path.{◌≡◌, ap, ◌∙◌}
use lib.ListN.{length}
use Rattle.cells.specs.Words.{word}
use Rattle.cells.specs.Store.{holds_ticket}
use Rattle.cells.proofs.Lists.{all_map, all_read}
use Rattle.cells.proofs.Sums.{all-standing}
use Rattle.meaning.specs.Entries.{Entry, named}
use Rattle.meaning.specs.Refusals.{is_none}
use Rattle.meaning.specs.Heap.{at}
use Rattle.meaning.proofs.Handles.{ticket_of, names-own, named-names}
use Rattle.meaning.proofs.HandleTest.{Bearing, test-held, test-lost}
use Rattle.meaning.proofs.Allowed.{found}
use Rattle.queue.specs.Model.{Model, seat_of}
use Rattle.queue.specs.Shows.{Shows}
use Rattle.queue.specs.declared.head.Head.{Head}
use Rattle.queue.proofs.Facts.{facts}
use Rattle.queue.proofs.Seats.{seat-holds}

-- The handle (c, k) names an entry, which stands at the position that cell c knows.
pub record Held (w : List ℕ) (m : Model) (c k : ℕ) : Type 0 where
  pub seat : seat_of c k m.heap < length m.heap
  pub cell : (at m.heap (seat_of c k m.heap)).cell ≡ c
  pub ticket : (at m.heap (seat_of c k m.heap)).ticket ≡ k
  pub known : word w c 5 ≡ seat_of c k m.heap
  pub live : is_none (named c k m.heap) ≡ false

module _ (h : Head) (w : List ℕ) (m : Model) (s : Shows h w m) (c k : ℕ) where
  -- The words tell of each cell whose it is.
  bearing : Bearing w h.store.cells m.heap m.free
  bearing =
      let f = facts h w m s in
      record {
        split = λ c. rw s.cells (f.split c);
        inside = all_map (λ e l. omega (arith, s.cells, s.size)) m.heap f.apart.inside;
        tickets = all_map (λ e r. r.ticket) m.heap s.entries;
        issued = all_read (λ (k : ℕ). 1 ≤ k) ticket_of m.heap (all-standing _ (map ticket_of m.heap) (λ k l. (f.issued k l).0));
        blank = λ c l. s.blank c 0 l (omega arith) (omega arith);
      }

  -- The entry that a handle names stands where its cell tells.
  live-held : is_none (named c k m.heap) ≡ false → Held w m c k
  live-held live =
      let (e, q) = found (named c k m.heap) live in
      let seat = seat-holds c k e m.heap q in
      let own = names-own c k e (named-names c k e m.heap q) in
      let cell : (at m.heap (seat_of c k m.heap)).cell ≡ c = ap (λ (x : Entry). x.cell) seat.1 ∙ own.0 in
      record {
        seat = seat.0;
        cell = cell;
        ticket = ap (λ (x : Entry). x.ticket) seat.1 ∙ own.1;
        known = rw cell at (s.seats.place (seat_of c k m.heap) seat.0);
        live = live;
      }

  -- A handle that passes the test on the words names an entry.
  pub held : holds_ticket w h.store c k ≡ true → Held w m c k
  held t = live-held (test-held w h.store m.heap m.free bearing c k t)

  -- A handle that fails it names none.
  pub lost : holds_ticket w h.store c k ≡ false → is_none (named c k m.heap) ≡ true
  lost f = test-lost w h.store m.heap m.free bearing c k f

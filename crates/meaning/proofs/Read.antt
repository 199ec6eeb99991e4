-- Entries that are read off lent words in which the audit's shared rules hold, whatever the engine: they and the free stack are a plain list that keeps to its rules.
-- Assumes nothing.
use Prim.Native.Nat.{ℕ, ◌+◌, ◌≤◌, ◌<◌}
use native.Mathlib.Omega.{arith}
use mathlib.Core.Bool.{true, cond, ◌&&◌}
use mathlib.Core.List.{List, map}
use mathlib.Core.Path.{◌≡◌, refl, sym, ◌∙◌}
use lib.Dec.{ltb}
use lib.ListN.{length}
use borrow.Author.Tests.{lt-ltb, le-ltb}
use Rattle.cells.specs.Lists.{All, times}
use Rattle.cells.specs.Words.{word}
use Rattle.cells.specs.Stack.{is_free}
use Rattle.cells.specs.Rules.{in_use, in_mask, Differ, Sound}
use Rattle.cells.specs.declared.store.Store.{Store}
use Rattle.cells.proofs.Cases.{test, at_most?}
use Rattle.cells.proofs.Lists.{all_map}
use Rattle.cells.proofs.Used.{ticket-used, free-not-used, not-free-used}
use Rattle.meaning.specs.Entries.{Entry}
use Rattle.meaning.specs.Heap.{at}
use Rattle.meaning.specs.Arranged.{arranged}
use Rattle.meaning.specs.Kept.{Numbered, Kept}
use Rattle.meaning.proofs.Arranged.{arranged-same, arranged-all, arranged-ordered}
use Rattle.meaning.proofs.ByPosition.{all-at, one-position, once-each}
use Rattle.meaning.proofs.Handles.{ticket_of}
use Rattle.meaning.proofs.Stack.{cell_of}

-- The entry in a cell.
unfoldable pub entry_in : List ℕ → ℕ → Entry
entry_in w c = record { key = word w c 2; order = word w c 1; cell = c; ticket = word w c 0; load = word w c 3 }

-- An entry stands in a cell in use, which holds its numbers.
pub record Held (w : List ℕ) (n : ℕ) (e : Entry) : Type 0 where
  pub inside : e.cell < n
  pub used : in_use w e.cell ≡ true
  pub ticket : word w e.cell 0 ≡ e.ticket
  pub order : word w e.cell 1 ≡ e.order

-- The entry in a cell in use is held there.
pub entry-held : (w : List ℕ) (n c : ℕ) → c < n → in_use w c ≡ true → Held w n (entry_in w c)
unfolding entry_in
entry-held w n c l u = record { inside = l; used = u; ticket = refl; order = refl }

-- A free cell leaves the fields of the mask unused.
pub free-unused : (w : List ℕ) (store : Store) (used free : ℕ) (r : Sound w store used free)
    → (c f : ℕ) → 1 ≤ times c r.stack.cells → f < 8 → in_mask free f ≡ true → word w c f ≡ 0
free-unused w store used free r c f k l t =
    let stack = r.stack.once c in
    at_most? store.cells c
    (λ i. absurd (omega (arith, rw (le-ltb c store.cells i) at stack)))
    (λ i.
    test (is_free w c)
    (λ e. (r.cell c i).blank f l (rw (free-not-used w c e) t))
    (λ e. absurd (omega (arith, rw (lt-ltb c store.cells i, e) at stack))))

-- An engine's entries, each cell in use being one entry's.
module _ (w : List ℕ) (store : Store) (used free : ℕ) (r : Sound w store used free) (es : List Entry)
    (held : All (Held w store.cells) es)
    (each : (c : ℕ) → times c (map cell_of es) ≡ cond (ltb c store.cells && in_use w c) 1 0) where
  -- The entry at a position is held by its cell.
  held_at : (p : ℕ) → p < length es → Held w store.cells (at es p)
  held_at = all-at (Held w store.cells) es held

  -- Each has its numbers below the counter.
  read-numbered : All (Numbered store.counter) es
  read-numbered =
      all_map
      (λ e h.
      let rule = r.cell e.cell h.inside in
      record {
        some = omega (arith, ticket-used w e.cell h.used, h.ticket);
        rising = omega (arith, rule.ticket h.used, h.ticket, h.order);
        taken = omega (arith, rule.order h.used, h.order);
      })
      es held

  -- Each cell is one entry's at most.
  read-once : (c : ℕ) → times c (map cell_of es) ≤ 1
  read-once c = test (ltb c store.cells && in_use w c) (λ e. rw (each c, e) (omega arith)) (λ e. rw (each c, e) (omega arith))

  -- Numbers of entries that differ by cell stand once each.
  read-differ : (f : ℕ) (g : Entry → ℕ) → ((p : ℕ) → p < length es → word w (at es p).cell f ≡ g (at es p))
      → Differ w store.cells f
      → (k : ℕ) → times k (map g es) ≤ 1
  read-differ f g here differ =
      once-each g es
      (λ p q i j e.
      let a = held_at p i in
      let b = held_at q j in
      one-position cell_of es read-once p q i j
      (differ (at es p).cell (at es q).cell a.inside b.inside a.used b.used (here p i ∙ e ∙ sym (here q j))))

  -- Order numbers differ.
  read-orders : (k : ℕ) → times k (map (λ (e : Entry). e.order) es) ≤ 1
  read-orders = read-differ 1 (λ (e : Entry). e.order) (λ p l. (held_at p l).order) r.orders

  -- Tickets differ.
  read-tickets : (k : ℕ) → times k (map ticket_of es) ≤ 1
  read-tickets = read-differ 0 ticket_of (λ p l. (held_at p l).ticket) r.tickets

  -- Free cells and cells in use are together 0 to N - 1, once each.
  read-cells : (c : ℕ) → times c (map cell_of es) + times c r.stack.cells ≡ cond (ltb c store.cells) 1 0
  read-cells c =
      rw (each c, r.stack.once c)
      (test (ltb c store.cells)
      (λ l.
      test (is_free w c)
      (λ t. rw (l, t, free-not-used w c t))
      (λ t. rw (l, t, not-free-used w c t)))
      (λ l. rw l))

  -- The plain list keeps to the rules.
  pub kept_read :
      (t : ℕ)
      → store.counter ≤ 18446744073709551615
      → Kept (record { entries = arranged es; clock = t; counter = store.counter; cells = store.cells; free = r.stack.cells })
  kept_read t counts =
      let same = arranged-same es in
      record {
        ordered = arranged-ordered es read-orders;
        cells = λ c. omega (arith, same cell_of c, read-cells c);
        numbered = arranged-all (Numbered store.counter) es read-numbered;
        tickets = λ k. omega (arith, same ticket_of k, read-tickets k);
        orders = λ k. omega (arith, same (λ (e : Entry). e.order) k, read-orders k);
        counted = r.counted;
        counts = counts;
        sized = r.some;
        fits = r.most;
      }

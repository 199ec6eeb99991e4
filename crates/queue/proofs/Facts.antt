-- What is known of a model that head and words show.
-- Assumes nothing.
use Prim.Native.Nat.{ℕ, ◌+◌, ◌/◌, ◌≤◌, ◌<◌}
use native.Mathlib.Omega.{arith}
use mathlib.Core.Bool.{cond}
use mathlib.Core.List.{List, map}
use mathlib.Core.Path.{◌≡◌}
use lib.ListN.{length, length-map}
use lib.Dec.{ltb}
use Rattle.cells.specs.Lists.{All, times}
use Rattle.cells.proofs.Lists.{all-times, all_map, all_read}
use Rattle.cells.proofs.Sums.{all-standing, cond-bit, standing-below, few}
use Rattle.meaning.specs.Calls.{Call, result}
use Rattle.meaning.specs.Kept.{Kept}
use Rattle.meaning.proofs.Handles.{ticket_of}
use Rattle.meaning.proofs.Stack.{cell_of}
use Rattle.meaning.proofs.Kept.{numbers}
use Rattle.meaning.proofs.Reached.{kept-call}
use Rattle.heap.specs.Stands.{cells_of, Apart, Ranks}
use Rattle.queue.specs.Model.{Model, step}
use Rattle.meaning.specs.Arranged.{SameEntries}
use Rattle.queue.specs.Means.{OfQueue}
use Rattle.queue.specs.Shows.{Valid, Shows}
use Rattle.queue.specs.declared.head.Head.{Head}
use Rattle.queue.proofs.Meets.{meets}
use Rattle.queue.proofs.ShownFacts.{model-cells, model-fits}

pub record Facts (w : List ℕ) (m : Model) : Type 0 where
  pub some : 2 ≤ m.arity
  pub most : m.arity ≤ 8
  pub limit : m.cells ≤ 4096
  pub counts : m.counter ≤ 18446744073709551615
  -- Free cells and cells in use are together 0 to N - 1, once each.
  pub split : (c : ℕ) → times c (cells_of m.heap) + times c m.free ≡ cond (ltb c m.cells) 1 0
  pub fits : length m.heap ≤ m.cells
  pub tickets : (k : ℕ) → times k (map ticket_of m.heap) ≤ 1
  -- Tickets are at least 1, and below the counter.
  pub issued : (k : ℕ) → 1 ≤ times k (map ticket_of m.heap) → (1 ≤ k) × (k < m.counter)
  pub apart : Apart w m.heap
  pub ranks : All (Ranks w) m.heap

-- A call leaves a model that means a plain list by the rules.
pub valid-next : (call : Call) (m : Model) → OfQueue call → Valid m → Valid (step call m).next
valid-next call m q v =
    record {
      list = (result 64 6 call v.list).next;
      means = (meets call m v.list q v.kept v.means).1;
      kept = kept-call 64 6 call v.list v.kept;
    }

module _ (h : Head) (w : List ℕ) (m : Model) (s : Shows h w m) where
  same : SameEntries m.heap s.valid.list.entries
  same = s.valid.means.entries

  kept : Kept s.valid.list
  kept = s.valid.kept

  once : (c : ℕ) → times c (cells_of m.heap) ≤ cond (ltb c m.cells) 1 0
  once c = omega (arith, model-cells m s.valid c)

  inside : (c : ℕ) → 0 < times c (cells_of m.heap) → c < length w / 8
  inside c l = omega (arith, standing-below c m.cells (times c (cells_of m.heap)) (once c) l, s.size)

  pub facts : Facts w m
  facts =
      record {
        some = s.valid.means.some;
        most = s.valid.means.most;
        limit = omega (arith, kept.fits, s.valid.means.cells);
        counts = omega (arith, kept.counts, s.valid.means.counter);
        split = model-cells m s.valid;
        fits = model-fits m s.valid;
        tickets = λ k. rw (same ticket_of k) (kept.tickets k);
        issued =
            λ k l.
            rw s.valid.means.counter
            (all-times _ (map ticket_of s.valid.list.entries) (numbers _ s.valid.list.entries kept.numbered) k
            (omega (arith, l, same ticket_of k)));
        apart =
            record {
              room = omega (arith, few m.cells (cells_of m.heap) once, length-map m.heap cell_of, s.size);
              inside = all_read (λ (c : ℕ). c < length w / 8) cell_of m.heap (all-standing _ (cells_of m.heap) inside);
              apart = λ c. omega (arith, once c, cond-bit (ltb c m.cells));
            };
        ranks = all_map (λ e r. record { order = r.order; key = r.key }) m.heap s.entries;
      }

-- A set-up leaves a list that keeps to the rules, and so does every call of either engine.
-- Assumes nothing.
use Prim.Native.Nat.{ℕ, suc, ◌+◌, ◌≤◌, ◌<◌}
use native.Mathlib.Omega.{arith}
use mathlib.Core.Bool.{false}
use mathlib.Core.List.{List, [], ◌∷◌, map}
use mathlib.Core.Option.{some}
use mathlib.Core.Path.{◌≡◌, refl, sym, ap, ◌∙◌}
use lib.ListN.{take, drop, take-append-drop}
use borrow.Author.Tests.{eq-eqb}
use Rattle.cells.specs.Lists.{All, times}
use Rattle.cells.proofs.Cases.{clash, same?}
use Rattle.cells.proofs.Lists.{all_map, all_drop, times-append, times-here, times-past}
use Rattle.meaning.specs.Entries.{Entry, named, without}
use Rattle.meaning.specs.Plain.{Plain, filed, refiled, files, refiles, frees, hands, apply}
use Rattle.meaning.specs.Refusals.{is_empty, spent}
use Rattle.meaning.proofs.Orders.{all_insert, insert-ordered, ordered-drop, times-insert}
use Rattle.meaning.proofs.Handles.{ticket_of, names-own, named-names, named-all, all_without, ordered-without, times-without, map-append}
use Rattle.meaning.proofs.Stack.{cell_of, times-onto, top_tail}
use Rattle.meaning.specs.Kept.{Numbered, Kept}

abbrev order_of : Entry → ℕ
order_of e = e.order

-- The list is split where entries are handed out.
pub split : (f : Entry → ℕ) (k m : ℕ) (es : List Entry) → times k (map f es) ≡ times k (map f (take m es)) + times k (map f (drop m es))
split f k m es =
    ap (λ (l : List Entry). times k (map f l)) (sym (take-append-drop m es))
    ∙ ap (times k) (map-append f (take m es) (drop m es))
    ∙ times-append k (map f (take m es)) (map f (drop m es))

later : (counter : ℕ) (e : Entry) → Numbered counter e → Numbered (suc counter) e
later counter e h = record { some = h.some; rising = h.rising; taken = omega (arith, h.taken) }

-- No entry holds a number that the counter has not reached.
pub unused : (counter : ℕ) (f : Entry → ℕ) (es : List Entry) → All (λ (e : Entry). f e < counter) es → times counter (map f es) ≡ 0
unused counter f [] a = unfold times in refl
unused counter f (e ∷ es) a = times-past counter (f e) (map f es) (λ q. omega (arith, a.0)) ∙ unused counter f es a.1

-- The tickets of entries by the rules.
pub numbers : (counter : ℕ) (es : List Entry) → All (Numbered counter) es → All (λ (k : ℕ). (1 ≤ k) × (k < counter)) (map ticket_of es)
numbers counter [] a = tt
numbers counter (e ∷ es) a = ((a.0.some, omega (arith, a.0.rising, a.0.taken)), numbers counter es a.1)

-- A number as often as before or, where it is the counter's, new.
once_more : (f : Entry → ℕ) (counter k : ℕ) (es : List Entry) → All (λ (e : Entry). f e < counter) es → times k (map f es) ≤ 1
    → times k (counter ∷ map f es) ≤ 1
once_more f counter k es a u =
    same? counter k
    (λ q. omega (arith, times-here k counter (map f es) q, rw q at (unused counter f es a)))
    (λ d. omega (arith, times-past k counter (map f es) d))

-- A counter that is not spent has a number left.
room-left : (s : Plain) → Kept s → (spent s).applies ≡ false → suc s.counter ≤ 18446744073709551615
unfolding spent
room-left s kept e =
    same? s.counter 18446744073709551615
    (λ q. clash (eq-eqb s.counter 18446744073709551615 q) e)
    (λ d. omega (arith, kept.counts))

module _ (s : Plain) (kept : Kept s) where
  older : All (λ (e : Entry). e.order < s.counter) s.entries
  older = all_map (λ e h. h.taken) s.entries kept.numbered

  issued : All (λ (e : Entry). e.ticket < s.counter) s.entries
  issued = all_map (λ e h. omega (arith, h.rising, h.taken)) s.entries kept.numbered

  -- A new entry: the top cell goes from the stack to the list, and the counter's number is new.
  pub kept-files : (key load : ℕ) → is_empty s.free ≡ false → (spent s).applies ≡ false → Kept (apply (files key load) s)
  unfolding apply filed times
  kept-files key load e room =
      record {
        ordered = insert-ordered (filed key load s) s.entries older kept.ordered;
        cells =
            λ c. omega (arith, times-insert c cell_of (filed key load s) s.entries, kept.cells c, ap (times c) (top_tail s.free e));
        numbered =
            all_insert (Numbered (suc s.counter)) (filed key load s) s.entries
            (record { some = kept.counted; rising = omega arith; taken = omega arith })
            (all_map (later s.counter) s.entries kept.numbered);
        tickets =
            λ k.
            rw (times-insert k ticket_of (filed key load s) s.entries)
            (once_more ticket_of s.counter k s.entries issued (kept.tickets k));
        orders =
            λ k.
            rw (times-insert k order_of (filed key load s) s.entries)
            (once_more order_of s.counter k s.entries older (kept.orders k));
        counted = omega (arith, kept.counted);
        counts = room-left s kept room;
        sized = kept.sized;
        fits = kept.fits;
      }

  module _ (c k : ℕ) (e : Entry) (found : named c k s.entries ≡ some e) where
    -- The words of the list are those of the entry and of the rest.
    rest : (f : Entry → ℕ) (j : ℕ) → times j (map f s.entries) ≡ times j (f e ∷ map f (without c k s.entries))
    rest f j = times-without c k j f e s.entries found

    own : Numbered s.counter e
    own = named-all c k (Numbered s.counter) e s.entries found kept.numbered

    -- Another key: the entry leaves the list and comes back with the counter's number for its order.
    pub kept-refiles : (key : ℕ) → (spent s).applies ≡ false → Kept (apply (refiles c k key) s)
    unfolding apply refiled times
    kept-refiles key room =
        rw found
        record {
          ordered =
              insert-ordered (refiled key s e) (without c k s.entries)
              (all_without c k (λ (e : Entry). e.order < s.counter) s.entries older)
              (ordered-without c k s.entries kept.ordered);
          cells =
              λ j.
              omega (arith, times-insert j cell_of (refiled key s e) (without c k s.entries), rest cell_of j, kept.cells j);
          numbered =
              all_insert (Numbered (suc s.counter)) (refiled key s e) (without c k s.entries)
              (record { some = own.some; rising = omega (arith, own.rising, own.taken); taken = omega arith })
              (all_without c k (Numbered (suc s.counter)) s.entries
              (all_map (later s.counter) s.entries kept.numbered));
          tickets =
              λ j.
              omega (arith, times-insert j ticket_of (refiled key s e) (without c k s.entries), rest ticket_of j, kept.tickets j);
          orders =
              λ j.
              rw (times-insert j order_of (refiled key s e) (without c k s.entries))
              (once_more order_of s.counter j (without c k s.entries)
              (all_without c k (λ (e : Entry). e.order < s.counter) s.entries older)
              (omega (arith, rest order_of j, kept.orders j)));
          counted = omega (arith, kept.counted);
          counts = room-left s kept room;
          sized = kept.sized;
          fits = kept.fits;
        }

    -- An entry given back: its cell goes from the list to the stack.
    pub kept-frees : Kept (apply (frees c k) s)
    unfolding apply times
    kept-frees =
        record {
          ordered = ordered-without c k s.entries kept.ordered;
          cells =
              λ j.
              omega (
                arith,
                rest cell_of j,
                kept.cells j,
                ap (λ (x : ℕ). times j (x ∷ [])) (names-own c k e (named-names c k e s.entries found)).0,
              );
          numbered = all_without c k (Numbered s.counter) s.entries kept.numbered;
          tickets = λ j. omega (arith, rest ticket_of j, kept.tickets j);
          orders = λ j. omega (arith, rest order_of j, kept.orders j);
          counted = kept.counted;
          counts = kept.counts;
          sized = kept.sized;
          fits = kept.fits;
        }

  -- The first m handed out: their cells go from the list to the stack.
  pub kept-hands : (m t : ℕ) → Kept (apply (hands m t) s)
  unfolding apply
  kept-hands m t =
      record {
        ordered = ordered-drop m s.entries kept.ordered;
        cells =
            λ c. omega (arith, split cell_of c m s.entries, times-onto c (take m s.entries) s.free, kept.cells c);
        numbered = all_drop (Numbered s.counter) m s.entries kept.numbered;
        tickets = λ k. omega (arith, split ticket_of k m s.entries, kept.tickets k);
        orders = λ k. omega (arith, split order_of k m s.entries, kept.orders k);
        counted = kept.counted;
        counts = kept.counts;
        sized = kept.sized;
        fits = kept.fits;
      }

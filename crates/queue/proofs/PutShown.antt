-- What a put makes of a model that head and words show.
-- Assumes nothing.
use Prim.Native.Nat.{ℕ, suc, ◌+◌, ◌/◌, ◌≤◌, ◌<◌}
use native.Mathlib.Omega.{arith}
use mathlib.Core.Bool.{true, false, cond}
use mathlib.Core.List.{List, [], ◌∷◌, ◌++◌, map, tail}
use mathlib.Core.Logic.{◌≢◌}
use mathlib.Core.Path.{◌≡◌, refl, sym, ap, subst, ◌∙◌}
use lib.ListN.{length, length-append, length-map}
use lib.Dec.{ltb, eqb}
use borrow.Author.Tests.{leb-false}
use Rattle.cells.specs.Lists.{All, times}
use Rattle.cells.specs.Words.{word}
use Rattle.cells.specs.Stack.{link}
use Rattle.cells.specs.Store.{no_free, spent, entered}
use Rattle.cells.proofs.Cases.{same?}
use Rattle.cells.proofs.Lists.{all_map, all_both, all_read, times-here, times-past, all_append}
use Rattle.cells.proofs.Sums.{all-standing, cond-bit, few}
use Rattle.cells.proofs.Chains.{chain-links}
use Rattle.cells.proofs.Rows.{entered-words}
use Rattle.meaning.specs.Entries.{Entry}
use Rattle.meaning.specs.Plain.{filed}
use Rattle.meaning.specs.Refusals as refusals
use Rattle.meaning.specs.Refusals.{first_of, Free, is_empty, full}
use Rattle.meaning.specs.Calls.{Put, Handle, causes}
use Rattle.meaning.specs.Heap.{at, heap_put, heap_moves}
use Rattle.meaning.proofs.Handles.{ticket_of}
use Rattle.meaning.proofs.Stack.{cell_of}
use Rattle.meaning.proofs.Given.{given-free}
use Rattle.heap.specs.Seats.{Walk, enter_walk}
use Rattle.heap.specs.Stands.{cells_of, StandsBut, Ranks, Apart}
use Rattle.heap.proofs.Carrying.{rise-carries}
use Rattle.heap.proofs.Exchanges.{at-append, length-heap_put}
use Rattle.heap.proofs.Seating.{all-exchange}
use Rattle.heap.proofs.Walks.{Comes}
use Rattle.queue.specs.Model.{Model, as_plain, counting, Step, accepted_by, step, step_moves}
use Rattle.queue.specs.Shows.{Valid, Carried, Shows}
use Rattle.queue.specs.Answers.{told, refusal}
use Rattle.queue.specs.Promise.{Done}
use Rattle.queue.specs.declared.head.Head.{Head}
use Rattle.queue.proofs.Facts.{facts, valid-next}
use Rattle.queue.proofs.Carries.{carried-reseated, cells-last, entered-places, entered-table, entered-carried, entered-others}
use Rattle.queue.proofs.Refused.{Topped, topped, no-free-shown, refused-done}

-- The entry that a put makes of a model.
abbrev pub new_entry : ℕ → ℕ → Model → Entry
new_entry key load m = filed key load (as_plain m)

-- The entries with the new one at the end, where it begins to rise.
abbrev pub with_new : ℕ → ℕ → Model → List Entry
with_new key load m = m.heap ++ (new_entry key load m ∷ [])

-- The entries once it has risen.
abbrev pub after_put : ℕ → ℕ → Model → List Entry
after_put key load m = heap_put m.arity (new_entry key load m) m.heap

-- The words once the entry stands in its cell and not yet in the heap.
abbrev pub put_words : Head → List ℕ → ℕ → ℕ → List ℕ
put_words h w key load = entered w h.store.free h.store.counter key load

-- The head after a put.
abbrev pub put_head : Head → List ℕ → Head
put_head h w =
    record {
      arity = h.arity;
      count = h.count + 1;
      store = record { cells = h.store.cells; free = word w h.store.free 4; counter = h.store.counter + 1 };
    }

-- The walk a in those words comes to where the new entry rises to, in as many steps as entries move.
abbrev pub PutComes : Head → List ℕ → ℕ → ℕ → Model → Walk → Type 0
PutComes h w key load m a =
    Comes (with_new key load m) (after_put key load m) (put_words h w key load) (heap_moves m.heap (after_put key load m)) a

-- The walk that a put makes, from what the head says.
abbrev pub put_walk : Head → List ℕ → ℕ → ℕ → Walk
put_walk h w key load = enter_walk h.arity h.count h.store.free (put_words h w key load)

-- What the heap's law asks of an entry e that comes last to the entries of a heap, in the words w.
pub record PutReady (w : List ℕ) (heap : List Entry) (e : Entry) : Type 0 where
  pub but : StandsBut (length heap) w (heap ++ (e ∷ []))
  pub ranks : All (Ranks w) (heap ++ (e ∷ []))
  pub apart : Apart w (heap ++ (e ∷ []))
  pub tickets : (k : ℕ) → times k (e.ticket ∷ map ticket_of heap) ≤ 1
  pub room : suc (length heap) ≤ 4096

module _ (h : Head) (w : List ℕ) (m : Model) (s : Shows h w m) (key load : ℕ) where
  -- No free cell.
  pub put_full : no_free h.store ≡ true → Done (Put key load) m (refusal 6) h w
  unfolding step first_of causes full as_plain
  put_full none =
      let empty : is_empty m.free ≡ true = sym (no-free-shown h w m s) ∙ none in
      refused-done h w m s (Put key load) 6 (rw empty)

  -- No number is left.
  pub put-spent : no_free h.store ≡ false → spent h.store ≡ true → Done (Put key load) m (refusal 8) h w
  unfolding step first_of causes full as_plain spent refusals.spent
  put-spent some last =
      let one : is_empty m.free ≡ false = sym (no-free-shown h w m s) ∙ some in
      let end : eqb m.counter 18446744073709551615 ≡ true = rw (← s.counter) last in
      refused-done h w m s (Put key load) 8 (rw (one, end))

  module _ (some : no_free h.store ≡ false) where
    -- The free stack has a top.
    stack : Topped (link w) h.store.free m.free
    stack = topped _ _ m.free s.free (sym (no-free-shown h w m s) ∙ some)

    -- The new entry's cell is that top.
    own-cell : (new_entry key load m).cell ≡ h.store.free
    unfolding filed as_plain
    own-cell = stack.first

    -- It is one of the cells.
    inside : h.store.free < length w / 8
    unfolding no_free
    inside = omega (arith, leb-false h.store.cells h.store.free some, s.cells, s.size)

    -- The cells of the entries with the new one, and the free cells but for the top, are together 0 to N - 1, once each.
    split-new : (c : ℕ) → times c (cells_of (with_new key load m)) + times c (tail m.free) ≡ cond (ltb c m.cells) 1 0
    unfolding times
    split-new c =
        omega (
          arith,
          (facts h w m s).split c,
          cells-last c m.heap (new_entry key load m),
          ap (λ (x : ℕ). times c (x ∷ cells_of m.heap)) own-cell,
          ap (times c) stack.whole,
        )

    -- So each stands once at most.
    new-once : (c : ℕ) → times c (cells_of (with_new key load m)) + times c (tail m.free) ≤ 1
    new-once c = omega (arith, split-new c, cond-bit (ltb c m.cells))

    -- The top is the new entry's, and so no other's.
    top_taken : times h.store.free (cells_of (with_new key load m)) ≡ suc (times h.store.free (cells_of m.heap))
    top_taken =
        cells-last h.store.free m.heap (new_entry key load m)
        ∙ times-here h.store.free (new_entry key load m).cell (cells_of m.heap) own-cell

    -- No entry that was there has it.
    others_apart : All (λ (x : Entry). x.cell ≢ h.store.free) m.heap
    others_apart =
        all_read (λ (c : ℕ). c ≢ h.store.free) cell_of m.heap
        (all-standing _ (cells_of m.heap)
        (λ c l e. omega (arith, l, new-once h.store.free, top_taken, ap (λ (x : ℕ). times x (cells_of m.heap)) e)))

    -- None of the cells that stay free is it.
    rest-apart : (c : ℕ) → 1 ≤ times c (tail m.free) → h.store.free ≢ c
    rest-apart c l e =
        omega (arith, l, new-once h.store.free, top_taken, ap (λ (x : ℕ). times x (tail m.free)) e)

    -- Nor does any entry have one of those.
    rest-unused : (c : ℕ) → 1 ≤ times c (tail m.free) → times c (cells_of (with_new key load m)) ≡ 0
    rest-unused c l = omega (arith, l, new-once c)

    -- They were free before.
    rest-free : (c : ℕ) → 1 ≤ times c (tail m.free) → 1 ≤ times c m.free
    rest-free c l =
        omega (arith, l, ap (times c) stack.whole, times-past c h.store.free (tail m.free) (rest-apart c l))

    -- With the new entry in its cell each entry's cell holds it.
    carried-new : All (Carried (put_words h w key load)) (with_new key load m)
    unfolding filed as_plain
    carried-new =
        all_append _ m.heap (new_entry key load m ∷ [])
        (all_map (λ x v. entered-others w h.store.free h.store.counter key load inside x v.0 v.1) m.heap
        (all_both _ _ m.heap others_apart s.entries)) (
          entered-carried w h.store.free h.store.counter key load inside (new_entry key load m) own-cell
              (sym s.counter) (sym s.counter) refl refl
              (s.blank h.store.free 7 top-free (omega arith) (omega arith)),
          tt,
        )
      where
        top-free : 1 ≤ times h.store.free m.free
        top-free =
            omega (
              arith,
              ap (times h.store.free) stack.whole,
              times-here h.store.free h.store.free (tail m.free) refl,
            )

    -- One entry more.
    length-new : length (with_new key load m) ≡ suc (length m.heap)
    length-new = omega (arith, length-append m.heap (new_entry key load m ∷ []))

    -- As many words as before.
    long : length (put_words h w key load) ≡ length w
    long = (entered-words w h.store.free h.store.counter key load inside).long

    -- There is room for one entry more.
    room-new : suc (length m.heap) ≤ m.cells
    room-new =
        omega (
          arith,
          few m.cells (cells_of (with_new key load m)) (λ c. omega (arith, split-new c)),
          length-map (with_new key load m) cell_of,
          length-new,
        )

    -- All but the last position, the hole, stands as before.
    but-new : StandsBut (length m.heap) (put_words h w key load) (with_new key load m)
    but-new =
        record {
          table =
              λ p l d.
              let filled : p < length m.heap = omega (arith, length-new) in
              rw (at-append m.heap (new_entry key load m) p filled)
              (entered-table w h.store.free h.store.counter key load inside p ∙ s.seats.table p filled);
          place =
              λ p l d.
              let filled : p < length m.heap = omega (arith, length-new) in
              rw (at-append m.heap (new_entry key load m) p filled)
              (entered-places w h.store.free h.store.counter key load inside (at m.heap p).cell ∙ s.seats.place p filled);
        }

    -- The counter's value is no entry's ticket yet.
    tickets-new : (k : ℕ) → times k ((new_entry key load m).ticket ∷ map ticket_of m.heap) ≤ 1
    unfolding filed as_plain
    tickets-new k =
        same? m.counter k
        (λ e.
        same? (times k (map ticket_of m.heap)) 0
        (λ z. omega (arith, times-here k m.counter (map ticket_of m.heap) e))
        (λ n. absurd (omega (arith, (facts h w m s).issued k (omega arith)))))
        (λ d. omega (arith, times-past k m.counter (map ticket_of m.heap) d, (facts h w m s).tickets k))

    -- The words with the new entry in its cell are ready for its rise.
    pub put-ready : PutReady (put_words h w key load) m.heap (new_entry key load m)
    put-ready =
        record {
          but = but-new;
          ranks = all_map (λ x v. record { order = v.order; key = v.key }) (with_new key load m) carried-new;
          apart =
              record {
                room = rw long (omega (arith, room-new, length-new, s.size));
                inside =
                    rw long
                    (all_append (λ (x : Entry). x.cell < length w / 8) m.heap (new_entry key load m ∷ []) (facts h w m s).apart.inside
                    (rw own-cell inside, tt));
                apart = λ c. omega (arith, new-once c);
              };
          tickets = tickets-new;
          room = omega (arith, room-new, (facts h w m s).limit);
        }

    -- A walk from the arity, the number of entries and the cell that the model has is the walk from those that the head has.
    pub put_walks : PutComes h w key load m (enter_walk m.arity (length m.heap) (new_entry key load m).cell (put_words h w key load))
        → PutComes h w key load m (put_walk h w key load)
    put_walks comes =
        let same : enter_walk m.arity (length m.heap) (new_entry key load m).cell (put_words h w key load) ≡ put_walk h w key load =
        cc (s.arity, s.count, own-cell) in
        subst (λ (a : Walk). PutComes h w key load m a) same comes

    module _ (left : spent h.store ≡ false) where
      -- Nothing refuses the put.
      put-accepted : step (Put key load) m ≡ accepted_by (Put key load) m
      unfolding step causes full as_plain spent refusals.spent
      put-accepted =
          let free : Free (causes 64 6 (Put key load) (as_plain m)) =
          (sym (no-free-shown h w m s) ∙ some, (rw (← s.counter) left, tt)) in
          given-free _ _ (causes 64 6 (Put key load) (as_plain m)) free

      module _ (a : Walk) (comes : PutComes h w key load m a) where
        -- A cell that stays free keeps its words but for those of the position table.
        rest-kept : (c f : ℕ) → 1 ≤ times c (tail m.free) → f ≢ 6 → word a.words c f ≡ word w c f
        rest-kept c f l d =
            let old : (i : ℕ) → word (put_words h w key load) c i ≡ word w c i =
            λ i. (entered-words w h.store.free h.store.counter key load inside).others c i (rest-apart c l) in
            same? f 5
            (λ e. rw e (comes.reseated.places c (rest-unused c l) ∙ old 5))
            (λ n. comes.reseated.fields c f n d ∙ old f)

        -- The entries' cells hold them once the new one has risen.
        carried-next : All (Carried a.words) (after_put key load m)
        unfolding heap_put
        carried-next =
            rise-carries (All (Carried a.words)) (all-exchange (Carried a.words)) m.arity (length m.heap) (length m.heap)
            (with_new key load m) (omega (arith, length-new))
            (carried-reseated comes.reseated (with_new key load m) carried-new)

        -- Head and words afterwards show the model with the new entry.
        shown-next : Shows (put_head h w) a.words (accepted_by (Put key load) m).next
        unfolding accepted_by counting
        shown-next =
            record {
              arity = s.arity;
              count = omega (arith, s.count, length-heap_put m.arity (new_entry key load m) m.heap);
              cells = s.cells;
              counter = omega (arith, s.counter);
              size = s.size ∙ ap (λ (n : ℕ). n / 8) (sym (comes.reseated.size ∙ long));
              free =
                  chain-links (link w) (link a.words) (word w h.store.free 4) (tail m.free)
                  (all-standing _ (tail m.free) (λ c l. sym (rest-kept c 4 l (omega arith))))
                  stack.rest;
              blank = λ c f l n d. rest-kept c f l d ∙ s.blank c f (rest-free c l) n d;
              entries = carried-next;
              seats = comes.stands;
              beyond =
                  λ p l.
                  let past : suc (length m.heap) ≤ p = omega (arith, length-heap_put m.arity (new_entry key load m) m.heap) in
                  comes.reseated.table p (omega (arith, length-new))
                  ∙ entered-table w h.store.free h.store.counter key load inside p
                  ∙ s.beyond p (omega arith);
              valid = subst (λ (x : Step). Valid x.next) put-accepted (valid-next (Put key load) m tt s.valid);
            }

        -- A put whose entry rises in the words as in the heap does what the model does.
        pub put-done :
            Done (Put key load) m (told (Handle h.store.free h.store.counter) a.steps) (put_head h w) a.words
        unfolding told step_moves accepted_by counting
        put-done =
            record {
              answer = rw put-accepted (cc (stack.first, s.counter));
              moves = rw put-accepted comes.counted;
              next = rw put-accepted shown-next;
            }

-- A put that nothing refuses does on every model that head and words show what the model does, if the heap's law holds of its walk.
pub put-promised : (h : Head) (w : List ℕ) (key load : ℕ) → no_free h.store ≡ false → spent h.store ≡ false
    → ((m : Model) → Shows h w m → PutComes h w key load m (put_walk h w key load))
    → (m : Model) → Shows h w m
    → Done (Put key load) m (told (Handle h.store.free h.store.counter) (put_walk h w key load).steps) (put_head h w)
    (put_walk h w key load).words
put-promised h w key load some left enter-law m s = put-done h w m s key load some left (put_walk h w key load) (enter-law m s)

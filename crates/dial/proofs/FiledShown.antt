-- An entry joins a model that lists, clock and store show: a new one in a cell from the free stack, or one that left its list for another deadline.
-- Assumes nothing.
use Prim.Native.Nat.{ℕ, ◌+◌, ◌/◌, ◌≤◌, ◌<◌}
use native.Mathlib.Omega.{arith}
use mathlib.Core.Bool.{false, cond}
use mathlib.Core.List.{List, [], ◌∷◌, ◌++◌, tail}
use mathlib.Core.Logic.{◌≢◌}
use mathlib.Core.Option.{some, get_or}
use mathlib.Core.Path.{◌≡◌, refl, sym, ap, subst, ◌∙◌}
use lib.Dec.{eqb}
use lib.ListN.{length}
use borrow.Author.Tests.{le-ltb}
use Rattle.cells.specs.Lists.{times}
use Rattle.cells.specs.Stack.{Chain, link}
use Rattle.cells.specs.Store.{entered}
use Rattle.cells.specs.Words.{word, put_word}
use Rattle.cells.specs.declared.store.Store.{Store}
use Rattle.cells.proofs.Cases.{at_most?, clash}
use Rattle.cells.proofs.Lists.{times-here}
use Rattle.cells.proofs.Rows.{Rewritten, entered_word, entered-words, rewritten-none, rewritten-put}
use Rattle.meaning.specs.Entries.{Entry, named, without, nobody}
use Rattle.meaning.specs.Plain.{Plain, top, filed, refiled, files, refiles}
use Rattle.meaning.specs.Refusals.{is_empty}
use Rattle.meaning.proofs.Handles.{names-own, named-names, named-all}
use Rattle.slots.specs.Rings.{Lists}
use Rattle.slots.specs.Stand.{join_at, leave_at}
use Rattle.dial.specs.Joined.{Valid, listed, joins}
use Rattle.dial.specs.Turns.{list_of, with_words}
use Rattle.dial.specs.Shows.{Carried, Shows}
use Rattle.dial.proofs.Holding.{Holds, Loose, holds-left, leaves-only, leaves-loose, holds-taken, taken-loose, holds-filed, filed-size}
use Rattle.dial.proofs.Leaving.{shows-holds, holds-shows, left_word, left-inside}

-- A free stack that is not empty is its top on the rest.
pub stack_top : (next : ℕ → ℕ) (a : ℕ) (free : List ℕ) → Chain next a free → is_empty free ≡ false → (top free ≡ a) × (free ≡ a ∷ tail free)
unfolding is_empty top
stack_top next a [] h e = clash refl e
stack_top next a (c ∷ cs) h e = (sym h.0, ap (λ (x : ℕ). x ∷ cs) (sym h.0))

module _ (l : Lists) (t : ℕ) (store : Store) (m : Plain) (s : Shows l t store m) where
  -- A free cell lies in the words.
  free-inside : (c : ℕ) → 1 ≤ times c m.free → c < length l.words / 8
  unfolding listed
  free-inside c h =
      at_most? m.cells c
      (λ k. absurd (omega (arith, h, rw (le-ltb c m.cells k) at (s.valid.kept.cells c))))
      (λ k. omega (arith, s.size))

  module _ (key load : ℕ) (filled : is_empty m.free ≡ false) where
    -- The cell that is taken is the top.
    stack : (top m.free ≡ store.free) × (m.free ≡ store.free ∷ tail m.free)
    stack = stack_top (link l.words) store.free m.free s.free filled

    -- What is held beforehand, by the top and the rest of the free stack.
    held : Holds l m.clock store.free m.entries (store.free ∷ tail m.free)
    held = subst (λ (f : List ℕ). Holds l m.clock store.free m.entries f) stack.1 (shows-holds l t store m s)

    -- The cell was free.
    own-free : 1 ≤ times store.free m.free
    own-free = omega (arith, times-here store.free store.free (tail m.free) refl, ap (times store.free) stack.1)

    -- It is taken,
    taken : Holds l m.clock (word l.words store.free 4) m.entries (tail m.free)
    taken = holds-taken l m.clock store.free store.free m.entries (tail m.free) held

    -- and then loose.
    own-loose : Loose store.free m.entries (tail m.free)
    own-loose = taken-loose l m.clock store.free store.free m.entries (tail m.free) held

    -- The words with the entry in its cell.
    filed_words : List ℕ
    filed_words = entered l.words store.free store.counter key load

    -- Only that cell is rewritten.
    filed-words : Rewritten l.words store.free (entered_word l.words store.free store.counter key load) filed_words
    unfolding filed_words
    filed-words = entered-words l.words store.free store.counter key load (free-inside store.free own-free)

    -- The entry, from what the store says.
    new : Entry
    new = record { key = key; order = store.counter; cell = store.free; ticket = store.counter; load = load }

    -- It is the entry that the model files.
    new_is : new ≡ filed key load m
    unfolding new filed
    new_is = cc (stack.0, s.counter)

    -- Its cell holds it.
    new-carried : Carried filed_words new
    unfolding new entered_word
    new-carried =
        record {
          ticket = filed-words.here 0;
          order = filed-words.here 1;
          deadline = filed-words.here 2;
          load = filed-words.here 3;
          unowned = filed-words.here 6 ∙ s.blank store.free 6 own-free (omega arith);
          unused = filed-words.here 7 ∙ s.blank store.free 7 own-free (omega arith);
        }

    -- What is held with the cell in its list.
    filed-held :
        Holds (join_at (with_words l filed_words) (list_of m.clock key) store.free) m.clock (word l.words store.free 4)
        (m.entries ++ (filed key load m ∷ [])) (tail m.free)
    unfolding new
    filed-held =
        subst
        (λ (x : Entry).
        Holds (join_at (with_words l filed_words) (list_of m.clock key) store.free) m.clock (word l.words store.free 4)
        (m.entries ++ (x ∷ [])) (tail m.free))
        new_is
        (holds-filed l m.clock (word l.words store.free 4) m.entries (tail m.free) taken new _ filed_words own-loose
        (free-inside store.free own-free) filed-words new-carried)

    -- A cell taken from the free stack, given its entry's words and joined to the list of its deadline: the model has the entry.
    pub arm-shows :
        Valid (joins (files key load) m)
        → Shows
        (join_at (with_words l (entered l.words store.free store.counter key load)) (list_of m.clock key) store.free)
        t
        (record { cells = store.cells; free = word l.words store.free 4; counter = store.counter + 1 })
        (joins (files key load) m)
    unfolding joins filed_words new
    arm-shows v =
        holds-shows (join_at (with_words l filed_words) (list_of m.clock key) store.free) t _ (joins (files key load) m)
        s.clock
        s.cells
        (omega (arith, s.counter))
        (s.size
        ∙ ap (λ (n : ℕ). n / 8)
        (sym
        (filed-size l m.clock (word l.words store.free 4) m.entries (tail m.free) taken new _ filed_words own-loose
        (free-inside store.free own-free) filed-words new-carried)))
        filed-held
        v

  module _ (c k key : ℕ) (e : Entry) (here : named c k m.entries ≡ some e) where
    -- The lists that the cell has left.
    left : Lists
    left = leave_at l (list_of m.clock e.key) c

    -- What is held then.
    left-held : Holds left m.clock store.free (without c k m.entries) m.free
    unfolding left
    left-held = holds-left l m.clock store.free m.entries m.free (shows-holds l t store m s) c k e here

    -- The cell is loose.
    left-loose : Loose c (without c k m.entries) m.free
    left-loose = leaves-loose l m.clock store.free m.entries m.free (shows-holds l t store m s) c k e here

    -- The words with the new order number and deadline in it.
    moved_words : List ℕ
    moved_words = put_word (put_word left.words c 1 store.counter) c 2 key

    -- Only that cell is rewritten.
    moved-words :
        Rewritten left.words c (λ (f : ℕ). cond (eqb 2 f) key (cond (eqb 1 f) store.counter (word left.words c f))) moved_words
    unfolding moved_words left
    moved-words =
        rewritten-put left.words c _ _ 2 key (omega arith) (left-inside l t store m s c k e here)
        (rewritten-put left.words c _ _ 1 store.counter (omega arith) (left-inside l t store m s c k e here)
        (rewritten-none left.words c))

    -- The entry, from what the store says.
    moved : Entry
    moved = record { key = key; order = store.counter; cell = c; ticket = e.ticket; load = e.load }

    -- It is the entry that the model files anew.
    moved-is : moved ≡ refiled key m (get_or (named c k m.entries) nobody)
    unfolding moved refiled
    moved-is = rw here (cc (s.counter, (names-own c k e (named-names c k e m.entries here)).0))

    -- Its cell holds it.
    moved-carried : Carried moved_words moved
    unfolding moved left
    moved-carried =
        let carried : Carried l.words e = named-all c k (Carried l.words) e m.entries here s.entries in
        let old : (f : ℕ) → f ≢ 4 → f ≢ 5 → word left.words c f ≡ word l.words e.cell f = left_word l t store m s c k e here in
        record {
          ticket = moved-words.here 0 ∙ old 0 (omega arith) (omega arith) ∙ carried.ticket;
          order = moved-words.here 1;
          deadline = moved-words.here 2;
          load = moved-words.here 3 ∙ old 3 (omega arith) (omega arith) ∙ carried.load;
          unowned = moved-words.here 6 ∙ old 6 (omega arith) (omega arith) ∙ carried.unowned;
          unused = moved-words.here 7 ∙ old 7 (omega arith) (omega arith) ∙ carried.unused;
        }

    -- What is held with the cell in its new list.
    moved-held :
        Holds (join_at (with_words left moved_words) (list_of m.clock key) c) m.clock store.free
        (without c k m.entries ++ (refiled key m (get_or (named c k m.entries) nobody) ∷ [])) m.free
    unfolding moved left
    moved-held =
        subst
        (λ (x : Entry).
        Holds (join_at (with_words left moved_words) (list_of m.clock key) c) m.clock store.free
        (without c k m.entries ++ (x ∷ [])) m.free)
        moved-is
        (holds-filed left m.clock store.free (without c k m.entries) m.free left-held moved _ moved_words left-loose
        (left-inside l t store m s c k e here) moved-words moved-carried)

    -- A cell that has left its list, with a new order number and deadline, joined to the list of that deadline: the model has the entry moved.
    pub move-shows :
        Valid (joins (refiles c k key) m)
        → Shows
        (join_at
        (with_words (leave_at l (list_of m.clock e.key) c)
        (put_word (put_word (leave_at l (list_of m.clock e.key) c).words c 1 store.counter) c 2 key))
        (list_of m.clock key)
        c)
        t
        (record { cells = store.cells; free = store.free; counter = store.counter + 1 })
        (joins (refiles c k key) m)
    unfolding joins moved left moved_words
    move-shows v =
        holds-shows (join_at (with_words left moved_words) (list_of m.clock key) c) t _ (joins (refiles c k key) m)
        s.clock
        s.cells
        (omega (arith, s.counter))
        (s.size
        ∙ ap (λ (n : ℕ). n / 8)
        (sym
        (filed-size left m.clock store.free (without c k m.entries) m.free left-held moved _ moved_words left-loose
        (left-inside l t store m s c k e here) moved-words moved-carried
        ∙ (leaves-only l m.clock store.free m.entries m.free (shows-holds l t store m s) c k e here).size)))
        moved-held
        v

-- An entry leaves a model that lists, clock and store show, and its cell goes on top of the free stack.
-- Assumes nothing.
use Prim.Native.Nat.{ℕ, ◌/◌, ◌<◌}
use native.Mathlib.Omega.{arith}
use mathlib.Core.List.{List, ◌∷◌}
use mathlib.Core.Logic.{◌≢◌}
use mathlib.Core.Option.{some}
use mathlib.Core.Path.{◌≡◌, sym, ap, ◌∙◌}
use lib.Dec.{ltb}
use lib.ListN.{length}
use Rattle.cells.specs.Store.{release_words, release_store}
use Rattle.cells.specs.Words.{word}
use Rattle.cells.specs.declared.store.Store.{Store}
use Rattle.cells.proofs.Cases.{at_most?, same?}
use Rattle.cells.proofs.Memory.{word-no-field}
use Rattle.cells.proofs.Sums.{cond-bit}
use Rattle.cells.proofs.Rows.{Rewritten, released_word, released-words, released-blank}
use Rattle.meaning.specs.Entries.{Entry, named, without}
use Rattle.meaning.specs.Plain.{Plain, frees}
use Rattle.meaning.proofs.Arranged.{arranged-same}
use Rattle.meaning.proofs.Handles.{names-own, named-names, named-all}
use Rattle.meaning.proofs.Stack.{cell_of}
use Rattle.slots.specs.Rings.{Lists}
use Rattle.slots.specs.Stand.{leave_at}
use Rattle.dial.specs.Joined.{Valid, listed, joins}
use Rattle.dial.specs.Turns.{list_of, with_words}
use Rattle.dial.specs.Shows.{Carried, Shows}
use Rattle.dial.proofs.Holding.{Holds, Loose, holds-left, leaves-only, leaves-inside, leaves-loose, holds-rewritten, holds-freed}

-- What is shown is held: no cell is two entries', or an entry's and free.
pub shows-holds : (l : Lists) (t : ℕ) (store : Store) (m : Plain) → Shows l t store m
    → Holds l m.clock store.free m.entries m.free
unfolding listed
shows-holds l t store m s =
    record {
      once = λ c. omega (arith, s.valid.kept.cells c, arranged-same m.entries cell_of c, cond-bit (ltb c m.cells));
      chain = s.free;
      blank = s.blank;
      entries = s.entries;
      lists = s.lists;
    }

-- What is held is shown, with clock, cells and counter as the model has them.
pub holds-shows :
    (l : Lists) (t : ℕ) (store : Store) (m : Plain)
    → t ≡ m.clock
    → store.cells ≡ m.cells
    → store.counter ≡ m.counter
    → m.cells ≡ length l.words / 8
    → Holds l m.clock store.free m.entries m.free
    → Valid m
    → Shows l t store m
holds-shows l t store m clock cells counter size h v =
    record {
      clock = clock;
      cells = cells;
      counter = counter;
      size = size;
      free = h.chain;
      blank = h.blank;
      entries = h.entries;
      lists = h.lists;
      valid = v;
    }

-- A cell that was given back, with word 6 zero, keeps nothing but its link.
blank-released : (w : List ℕ) (c top : ℕ) → word w c 6 ≡ 0 → (f : ℕ) → f < 8 → f ≢ 4 → released_word w c top f ≡ 0
unfolding released_word
blank-released w c top z f i d = same? f 6 (λ e. rw e z) (λ k. released-blank w c top f i d k)

module _ (l : Lists) (t : ℕ) (store : Store) (m : Plain) (s : Shows l t store m) (c k : ℕ) (e : Entry) (here : named c k m.entries ≡ some e) where
  -- What is held beforehand.
  held : Holds l m.clock store.free m.entries m.free
  held = shows-holds l t store m s

  -- The lists that the cell has left.
  left : Lists
  left = leave_at l (list_of m.clock e.key) c

  -- The words of a cell that has left are those of the entry, but for the links.
  pub left_word : (f : ℕ) → f ≢ 4 → f ≢ 5 → word (leave_at l (list_of m.clock e.key) c).words c f ≡ word l.words e.cell f
  left_word f d d' =
      (leaves-only l m.clock store.free m.entries m.free held c k e here).fields c f d d'
      ∙ ap (λ (x : ℕ). word l.words x f) (sym (names-own c k e (named-names c k e m.entries here)).0)

  -- The cell lies in the words still.
  pub left-inside : c < length (leave_at l (list_of m.clock e.key) c).words / 8
  left-inside =
      let size = (leaves-only l m.clock store.free m.entries m.free held c k e here).size in
      rw size (leaves-inside l m.clock store.free m.entries m.free held c k e here)

  -- The words with the cell given back.
  released : Rewritten left.words c (released_word left.words c store.free) (release_words left.words store c)
  unfolding left
  released = released-words left.words c store left-inside

  -- What is held then.
  freed : Holds (with_words left (release_words left.words store c)) m.clock c (without c k m.entries) (c ∷ m.free)
  unfolding left with_words released_word
  freed =
      let loose : Loose c (without c k m.entries) m.free = leaves-loose l m.clock store.free m.entries m.free held c k e here in
      let carried : Carried l.words e = named-all c k (Carried l.words) e m.entries here s.entries in
      holds-freed (with_words left (release_words left.words store c)) m.clock store.free (without c k m.entries) m.free
      (holds-rewritten left m.clock store.free (without c k m.entries) m.free
      (holds-left l m.clock store.free m.entries m.free held c k e here)
      c _ (release_words left.words store c) loose released)
      c loose (released.here 4)
      (λ f d.
      at_most? 8 f
      (λ i. word-no-field (release_words left.words store c) c f i)
      (λ i.
      released.here f
      ∙ blank-released left.words c store.free (left_word 6 (omega arith) (omega arith) ∙ carried.unowned) f i d))

  -- The lists that the cell has left, with the cell given back, show the model without the entry.
  pub leave-shows :
      Valid (joins (frees c k) m)
      → Shows
      (with_words (leave_at l (list_of m.clock e.key) c) (release_words (leave_at l (list_of m.clock e.key) c).words store c))
      t
      (release_store store c)
      (joins (frees c k) m)
  unfolding left with_words joins release_store
  leave-shows v =
      holds-shows (with_words left (release_words left.words store c)) t (release_store store c) (joins (frees c k) m)
      s.clock
      s.cells
      s.counter
      (s.size
      ∙ ap (λ (n : ℕ). n / 8)
      (sym (released.long ∙ (leaves-only l m.clock store.free m.entries m.free held c k e here).size)))
      freed
      v

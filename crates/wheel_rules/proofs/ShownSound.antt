-- Lists and numbers that show a model keep to every rule of the audit.
-- Assumes nothing.
use Prim.Native.Nat.{ℕ, ◌≤◌, ◌<◌}
use native.Mathlib.Omega.{arith}
use mathlib.Core.Bool.{Bool, true, cond, ◌&&◌}
use mathlib.Core.List.{List, [], ◌∷◌, map}
use mathlib.Core.Path.{◌≡◌, refl, sym, ap, ◌∙◌}
use lib.Dec.{ltb, eqb}
use lib.ListN.{length}
use borrow.Author.Tests.{eqb-true, eq-eqb, ne_eqb, lt-ltb, le-ltb}
use Rattle.cells.specs.Lists.{All, times}
use Rattle.cells.specs.Words.{word}
use Rattle.cells.specs.Rules.{in_use, Sound}
use Rattle.cells.proofs.Cases.{same?, at_most?}
use Rattle.cells.proofs.Lists.{all_map, all_both, all-image}
use Rattle.cells.proofs.Used.{free-not-used}
use Rattle.meaning.specs.Entries.{Entry}
use Rattle.meaning.specs.Plain.{Plain}
use Rattle.meaning.specs.Heap.{at}
use Rattle.meaning.specs.Kept.{Numbered, Within}
use Rattle.meaning.proofs.Arranged.{arranged-same, all-arranged}
use Rattle.meaning.proofs.ByPosition.{all-at, stands_at}
use Rattle.meaning.proofs.Handles.{ticket_of}
use Rattle.meaning.proofs.Stack.{cell_of}
use Rattle.meaning.proofs.Stored.{Stored, stored-free, stored-used, used-at, cell-either, stored-sound}
use Rattle.places.specs.Ticks.{last_tick}
use Rattle.slots.specs.Rings.{Lists}
use Rattle.dial.specs.Joined.{listed, Stable}
use Rattle.dial.specs.Turns.{list_of}
use Rattle.dial.specs.Shows.{passing, standing, cells_at, Carried}
use Rattle.dial.proofs.Passing.{passing-all, passing-true, passing-times}
use Rattle.dial.proofs.Selected.{passing-stands, passing-stable}
use Rattle.wheel_rules.specs.Shown.{DialShows}
use Rattle.wheel_rules.specs.Rules.{used_mask, free_mask, Rises, Listing, WheelSound}
use Rattle.dial.specs.declared.state.Dial.{Dial}
use Rattle.wheel_rules.proofs.Masks.{used-only, free-not-link}

-- The cells of entries of which those of equal deadline stand by rising order number.
rises-carried : (w : List ℕ) (es : List Entry) → All (Carried w) es → Stable es → Rises w (map cell_of es)
rises-carried w [] a s = tt
rises-carried w (x ∷ xs) a s = (
  all-image (λ (d : ℕ). word w x.cell 2 ≡ word w d 2 → word w x.cell 1 < word w d 1) cell_of xs
      (all_map
      (λ y p e.
      omega (
        arith,
        a.0.order,
        p.0.order,
        p.1 (sym a.0.deadline ∙ e ∙ p.0.deadline),
      ))
      xs
      (all_both (Carried w) (λ (y : Entry). x.key ≡ y.key → x.order < y.order) xs a.1 s.0)),
  rises-carried w xs a.1 s.1,
)

module _ (l : Lists) (d : Dial) (m : Plain) (s : DialShows l d m) where
  -- Its entries and free cells stand in the words.
  pub shown-stored : Stored l.words m.cells m.counter used_mask free_mask m.entries m.free
  unfolding listed
  shown-stored =
      let same = arranged-same m.entries in
      record {
        cells = λ c. omega (arith, same cell_of c, s.valid.kept.cells c);
        numbered = all-arranged (Numbered m.counter) m.entries s.valid.kept.numbered;
        tickets = λ k. omega (arith, same ticket_of k, s.valid.kept.tickets k);
        orders = λ k. omega (arith, same (λ (e : Entry). e.order) k, s.valid.kept.orders k);
        ticket = all_map (λ e c. c.ticket) m.entries s.entries;
        order = all_map (λ e c. c.order) m.entries s.entries;
        unused =
            all_map (λ e c f k t. used-only f k t (λ q. rw q c.unowned) (λ q. rw q c.unused)) m.entries s.entries;
        blank = λ c f k i t. s.blank c f k (free-not-link f t);
        vacant = λ c k. s.blank c 0 k (λ e. omega arith);
      }

  -- What every engine shares.
  shared-rules : Sound l.words d.store used_mask free_mask
  unfolding listed
  shared-rules =
      stored-sound l.words d.store used_mask free_mask m.entries m.free
      (rw (s.cells, s.counter) shown-stored)
      s.free
      (s.cells ∙ s.size)
      (omega (arith, s.cells, s.valid.kept.sized))
      (omega (arith, s.cells, s.valid.kept.fits))
      (omega (arith, s.counter, s.valid.kept.counted))

  -- The cell of the entry at a position holds its deadline.
  deadline-at : (p c : ℕ) → p < length m.entries → (at m.entries p).cell ≡ c → word l.words c 2 ≡ (at m.entries p).key
  deadline-at p c k e =
      ap (λ (x : ℕ). word l.words x 2) (sym e) ∙ (all-at (Carried l.words) m.entries s.entries p k).deadline

  -- Its deadline is within the ticks, and not below the clock.
  within-at : (p : ℕ) → p < length m.entries → Within 64 6 m.clock (at m.entries p)
  unfolding listed
  within-at = all-at (Within 64 6 m.clock) m.entries (all-arranged (Within 64 6 m.clock) m.entries s.valid.timed.deadlines)

  -- A cell of a list holds a deadline of that list.
  listed_here : (i c : ℕ) → 1 ≤ times c (cells_at m.clock m.entries i) → list_of m.clock (word l.words c 2) ≡ i
  unfolding standing
  listed_here i c k =
      let here : Entry → Bool = λ e. eqb (list_of m.clock e.key) i in
      let es : List Entry = passing here m.entries in
      stands_at cell_of c es k
      (λ p j e.
      let deadline = (all-at (Carried l.words) es (passing-all here (Carried l.words) m.entries s.entries) p j).deadline in
      let passes = all-at (λ (x : Entry). here x ≡ true) es (passing-true here m.entries) p j in
      ap (list_of m.clock) (ap (λ (x : ℕ). word l.words x 2) (sym e) ∙ deadline)
      ∙ eqb-true (list_of m.clock (at es p).key) i passes)

  -- An entry stands in the list of its deadline.
  pub entry_listed : (p : ℕ) → p < length m.entries
      → 1 ≤ times (at m.entries p).cell (cells_at m.clock m.entries (list_of m.clock (at m.entries p).key))
  unfolding standing
  entry_listed p k =
      let i : ℕ = list_of m.clock (at m.entries p).key in
      passing-stands (λ (e : Entry). eqb (list_of m.clock e.key) i) cell_of m.entries p k (eq-eqb i i refl)

  -- No list has a cell that no entry has, nor more often.
  listed-most : (i c : ℕ) → times c (cells_at m.clock m.entries i) ≤ times c (map cell_of m.entries)
  unfolding standing
  listed-most i c = passing-times (λ (e : Entry). eqb (list_of m.clock e.key) i) cell_of c m.entries

  -- "each entry stands once in the list of its place and in no other"
  placed : (i c : ℕ) → times c (cells_at m.clock m.entries i)
      ≡ cond (ltb c m.cells && (in_use l.words c && eqb (list_of m.clock (word l.words c 2)) i)) 1 0
  placed i c =
      at_most? m.cells c
      (λ k. rw (le-ltb c m.cells k) (omega (arith, most, rw (le-ltb c m.cells k) at (stored.cells c))))
      (λ k. rw (lt-ltb c m.cells k) (cell-either m.cells m.entries m.free stored.cells c k used free))
    where
      stored : Stored l.words m.cells m.counter used_mask free_mask m.entries m.free
      stored = shown-stored

      most : times c (cells_at m.clock m.entries i) ≤ times c (map cell_of m.entries)
      most = listed-most i c

      used : (p : ℕ) → p < length m.entries → (at m.entries p).cell ≡ c
          → times c (map cell_of m.entries) ≡ 1
          → times c m.free ≡ 0
          → times c (cells_at m.clock m.entries i) ≡ cond (in_use l.words c && eqb (list_of m.clock (word l.words c 2)) i) 1 0
      used p k e one none =
          let number : ℕ = list_of m.clock (word l.words c 2) in
          let same : list_of m.clock (at m.entries p).key ≡ number = ap (list_of m.clock) (sym (deadline-at p c k e)) in
          let here : 1 ≤ times c (cells_at m.clock m.entries number) = rw (e, same) at (entry_listed p k) in
          rw (ap (in_use l.words) (sym e) ∙ stored-used l.words m.cells m.counter used_mask free_mask m.entries m.free stored p k)
          (same? number i
          (λ q. rw (eq-eqb number i q) (omega (arith, most, rw q at here)))
          (λ n. rw (ne_eqb number i n)
          (same? (times c (cells_at m.clock m.entries i)) 0 (λ z. z) (λ h. absurd (n (listed_here i c (omega arith)))))))

      free : times c (map cell_of m.entries) ≡ 0
          → times c m.free ≡ 1
          → times c (cells_at m.clock m.entries i) ≡ cond (in_use l.words c && eqb (list_of m.clock (word l.words c 2)) i) 1 0
      free none one =
          rw
          (free-not-used l.words c
          (stored-free l.words m.cells m.counter used_mask free_mask m.entries m.free stored c (omega arith)))
          (omega (arith, most))

  -- The rules of the lists.
  listing-rules : Listing l d
  unfolding standing
  listing-rules =
      record {
        cells = cells_at m.clock m.entries;
        stand = s.lists;
        placed = λ i c k. rw (s.clock, s.cells) (placed i c);
        stable = λ i k.
            let here : Entry → Bool = λ e. eqb (list_of m.clock e.key) i in
            rises-carried l.words (passing here m.entries) (passing-all here (Carried l.words) m.entries s.entries)
            (passing-stable here m.entries s.valid.stable);
      }

  -- The deadline of a cell in use is that of an entry, within the ticks and not below the clock.
  deadline-rule : (c : ℕ) → c < d.store.cells → in_use l.words c ≡ true
      → (d.clock ≤ word l.words c 2) × (word l.words c 2 ≤ last_tick 64 6)
  deadline-rule c k u =
      used-at l.words m.cells m.counter used_mask free_mask m.entries m.free shown-stored c (omega (arith, s.cells)) u
      (λ p i e.
      let within = within-at p i in
      let here = deadline-at p c i e in
      (omega (arith, s.clock, within.late, here), omega (arith, within.last, here)))

-- What shows a model is sound.
pub shown-sound : (l : Lists) (d : Dial) (m : Plain) → DialShows l d m → WheelSound l d
unfolding listed
shown-sound l d m s =
    record {
      shared = shared-rules l d m s;
      counts = omega (arith, s.counter, s.valid.kept.counts);
      clock = omega (arith, s.clock, s.valid.timed.clock);
      late = λ c k u. (deadline-rule l d m s c k u).0;
      last = λ c k u. (deadline-rule l d m s c k u).1;
      listing = listing-rules l d m s;
    }

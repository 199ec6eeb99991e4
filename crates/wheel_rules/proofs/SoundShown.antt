-- Lists and numbers that keep to every rule of the audit show a model: the one that is read off them, list after list.
-- Assumes nothing.
use Prim.Native.Nat.{ℕ, ◌≤◌, ◌<◌}
use native.Mathlib.Omega.{arith}
use mathlib.Core.Bool.{Bool, true, false, cond, ◌&&◌}
use mathlib.Core.List.{List, map}
use mathlib.Core.Logic.{◌≢◌, ◌↔◌}
use mathlib.Core.Path.{◌≡◌, refl, sym, ◌∙◌}
use lib.Dec.{ltb, eqb}
use borrow.Author.Tests.{eqb-true, ltb-true}
use Rattle.cells.specs.Lists.{All, times, sum_below}
use Rattle.cells.specs.Words.{word}
use Rattle.cells.specs.Rules.{in_use}
use Rattle.cells.proofs.Cases.{test, at_most?, and-true}
use Rattle.cells.proofs.Lists.{all-times, all_map, all-image}
use Rattle.cells.proofs.Sums.{sum_below-zero, sum_below-same, sum_below-one, all-standing}
use Rattle.cells.proofs.Memory.{word-no-field}
use Rattle.meaning.specs.Entries.{Entry}
use Rattle.meaning.specs.Plain.{Plain}
use Rattle.meaning.specs.Kept.{Within}
use Rattle.meaning.proofs.Arranged.{arranged-all}
use Rattle.meaning.proofs.Read.{entry_in, Held, entry-held, free-unused, kept_read}
use Rattle.slots.specs.Rings.{Lists}
use Rattle.slots.specs.Stand.{due_list, Stand}
use Rattle.slots.proofs.Changing.{stand-same}
use Rattle.dial.specs.Joined.{listed, Stable, Valid}
use Rattle.dial.specs.Turns.{list_of}
use Rattle.dial.specs.Shows.{cells_at, Carried}
use Rattle.dial.proofs.Numbers.{number-most}
use Rattle.wheel_rules.specs.Shown.{DialShows}
use Rattle.wheel_rules.specs.Rules.{used_mask, free_mask, WheelSound}
use Rattle.dial.specs.declared.state.Dial.{Dial}
use Rattle.wheel_rules.proofs.Masks.{used-unowned, used-last, free-others}
use Rattle.wheel_rules.proofs.Gathered.{times-gathered, all-gathered, gathered-found, rises-stable, cells-read}
use Rattle.wheel_rules.proofs.ShownSound.{shown-sound}
use Rattle.wheel_rules.proofs.Counting.{gathered, each-rises}

-- The model that is read off lists and numbers with a stack of free cells.
unfoldable pub model_read : Lists → Dial → (ℕ → List ℕ) → List ℕ → Plain
model_read l d ls free =
    record {
      entries = map (entry_in l.words) (gathered ls 385);
      clock = d.clock;
      counter = d.store.counter;
      cells = d.store.cells;
      free = free;
    }

module _ (l : Lists) (d : Dial) (r : WheelSound l d) where
  -- The cells of all lists, one after the other.
  all : List ℕ
  all = gathered r.listing.cells 385

  -- A cell that stands in list i is in use, and its deadline is one of that list.
  listed-cell : (i c : ℕ) → i ≤ due_list → 1 ≤ times c (r.listing.cells i)
      → (c < d.store.cells) × (in_use l.words c ≡ true) × (list_of d.clock (word l.words c 2) ≡ i)
  listed-cell i c h k =
      test (ltb c d.store.cells && (in_use l.words c && eqb number i))
      (λ e.
      let one = and-true (ltb c d.store.cells) (in_use l.words c && eqb number i) e in
      let two = and-true (in_use l.words c) (eqb number i) one.1 in
      (ltb-true c d.store.cells one.0, two.0, eqb-true number i two.1))
      (λ e. absurd (omega (arith, rw e at (r.listing.placed i c h))))
    where
      number : ℕ
      number = list_of d.clock (word l.words c 2)

  -- So for all cells of the list.
  own : (i : ℕ) → i < 385 → All (λ (c : ℕ). list_of d.clock (word l.words c 2) ≡ i) (r.listing.cells i)
  own i h =
      all-standing (λ (c : ℕ). list_of d.clock (word l.words c 2) ≡ i) (r.listing.cells i)
      (λ c k. (listed-cell i c (omega arith) (omega arith)).2)

  -- All cells of the lists are in use.
  all-used : All (λ (c : ℕ). (c < d.store.cells) × (in_use l.words c ≡ true)) all
  unfolding all
  all-used =
      all-gathered (λ (c : ℕ). (c < d.store.cells) × (in_use l.words c ≡ true)) r.listing.cells 385
      (λ i h.
      all-standing (λ (c : ℕ). (c < d.store.cells) × (in_use l.words c ≡ true)) (r.listing.cells i)
      (λ c k. let here = listed-cell i c (omega arith) (omega arith) in (here.0, here.1)))

  -- Each cell in use stands in one list, once.
  all_once : (c : ℕ) → times c all ≡ cond (ltb c d.store.cells && in_use l.words c) 1 0
  unfolding all
  all_once c =
      times-gathered r.listing.cells c 385
      ∙ sum_below-same (λ (i : ℕ). times c (r.listing.cells i))
      (λ (i : ℕ). cond (ltb c d.store.cells && (in_use l.words c && eqb number i)) 1 0)
      385
      (λ i h. r.listing.placed i c (omega arith))
      ∙ go (ltb c d.store.cells) (in_use l.words c)
    where
      number : ℕ
      number = list_of d.clock (word l.words c 2)

      go : (a b : Bool) → sum_below (λ (i : ℕ). cond (a && (b && eqb number i)) 1 0) 385 ≡ cond (a && b) 1 0
      go false b = sum_below-zero 385
      go true false = sum_below-zero 385
      go true true = sum_below-one number 385 (omega (arith, number-most d.clock (word l.words c 2)))

  -- The entries in them.
  entries : List Entry
  entries = map (entry_in l.words) all

  -- What holds of the entry in each cell in use holds of all entries.
  all-entries : (P : Entry → Type 0) → ((c : ℕ) → c < d.store.cells → in_use l.words c ≡ true → P (entry_in l.words c)) → All P entries
  unfolding entries
  all-entries P h = all-image P (entry_in l.words) all (all_map (λ c u. h c u.0 u.1) all all-used)

  -- Each entry is carried by its cell.
  carried : All (Carried l.words) entries
  unfolding entry_in
  carried =
      all-entries (Carried l.words)
      (λ c k u.
      let rule = r.shared.cell c k in
      record {
        ticket = refl;
        order = refl;
        deadline = refl;
        load = refl;
        unowned = rule.blank 6 (omega arith) (rw u used-unowned);
        unused = rule.blank 7 (omega arith) (rw u used-last);
      })

  -- Deadlines are within the ticks, and none is below the clock.
  within : All (Within 64 6 d.clock) entries
  unfolding entry_in
  within = all-entries (Within 64 6 d.clock) (λ c k u. record { late = r.late c k u; last = r.last c k u })

  -- Entries of equal deadline stand by rising order number.
  stable : Stable entries
  unfolding all entries
  stable =
      rises-stable l.words (gathered r.listing.cells 385)
      (each-rises l.words r.listing.cells (list_of d.clock) 385 (λ i c h k. all-times _ (r.listing.cells i) (own i h) c k) 385 (omega arith)
      (λ i h. r.listing.stable i (omega arith)))

  -- The lists of all places are those of the entries.
  lists : Stand l (cells_at d.clock entries)
  unfolding all entries
  lists =
      stand-same l r.listing.cells (cells_at d.clock (map (entry_in l.words) (gathered r.listing.cells 385)))
      (λ i h. sym (gathered-found l.words d.clock r.listing.cells 385 own 385 (omega arith) i (omega arith)))
      r.listing.stand

  -- The words of a free cell, but for its link.
  free-blank : (c f : ℕ) → 1 ≤ times c r.shared.stack.cells → f ≢ 4 → word l.words c f ≡ 0
  free-blank c f k n =
      at_most? 8 f
      (λ h. word-no-field l.words c f h)
      (λ h. free-unused l.words d.store used_mask free_mask r.shared c f k h (free-others f h n))

  -- The model keeps to the rules.
  read-valid : Valid (model_read l d r.listing.cells r.shared.stack.cells)
  unfolding model_read listed all entries
  read-valid =
      record {
        kept =
            kept_read l.words d.store used_mask free_mask r.shared entries
            (all-entries (Held l.words d.store.cells) (entry-held l.words d.store.cells))
            (λ c. rw (cells-read l.words all) (all_once c))
            d.clock
            r.counts;
        timed = record { clock = r.clock; deadlines = arranged-all (Within 64 6 d.clock) entries within };
        stable = stable;
      }

-- A model that lists and numbers show.
pub record Shown (l : Lists) (d : Dial) : Type 0 where
  pub model : Plain
  pub shows : DialShows l d model

-- What is sound shows a model.
pub sound-shown : (l : Lists) (d : Dial) → WheelSound l d → Shown l d
unfolding model_read all entries
sound-shown l d r =
    record {
      model = model_read l d r.listing.cells r.shared.stack.cells;
      shows =
          record {
            clock = refl;
            cells = refl;
            counter = refl;
            size = r.shared.size;
            free = r.shared.stack.linked;
            blank = free-blank l d r;
            entries = carried l d r;
            lists = lists l d r;
            valid = read-valid l d r;
          };
    }

-- The audit's rules hold exactly if lists and numbers show some model.
pub sound-exactly : (l : Lists) (d : Dial) → WheelSound l d ↔ Shown l d
sound-exactly l d = (sound-shown l d, λ s. shown-sound l d s.model s.shows)

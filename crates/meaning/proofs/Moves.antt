-- The count of moves over a list, from one clock to the next and over several.
-- Assumes nothing.
use Prim.Native.Nat.{ℕ, ◌+◌, ◌-◌, ◌*◌, ◌≤◌, ◌<◌}
use native.Mathlib.Omega.{arith}
use mathlib.Core.List.{List, ◌++◌}
use mathlib.Core.Path.{◌≡◌, sym, ap, ◌∙◌}
use lib.ListN.{length, take, drop, take-append-drop}
use Rattle.cells.specs.Lists.{All}
use Rattle.cells.proofs.Lists.{all_map, all_drop, all_both, all-every, sum_of-append, sum_of-add, sum_of-same, sum_of-bound}
use Rattle.places.specs.Ticks.{moves, last_tick}
use Rattle.places.proofs.Digits.{tick-below}
use Rattle.places.proofs.Counts.{moves-all, moves-join, moves-bound}
use Rattle.meaning.specs.Entries.{Entry}
use Rattle.meaning.specs.Plain.{Plain}
use Rattle.meaning.specs.Calls.{all_moves}
use Rattle.meaning.specs.Kept.{Timed}

module _ (b n : ℕ) where
  pub all_moves-append : (a c : ℕ) (es fs : List Entry) → all_moves b n a c (es ++ fs) ≡ all_moves b n a c es + all_moves b n a c fs
  unfolding all_moves
  all_moves-append a c es fs = sum_of-append (λ (e : Entry). moves b n a c e.key) es fs

  -- Entries due by the first clock make no moves after it.
  pub all_moves-early : (a c d : ℕ) (es : List Entry) → c ≤ d → All (λ (e : Entry). e.key ≤ c) es → all_moves b n a c es ≡ all_moves b n a d es
  unfolding all_moves
  all_moves-early a c d es h early =
      sum_of-same (λ (e : Entry). moves b n a c e.key) (λ (e : Entry). moves b n a d e.key) es
      (all_map (λ e l. omega (arith, moves-all b n a c e.key l, moves-all b n a d e.key (omega arith))) es early)

  -- The moves of the others add up.
  pub all_moves-late : (a c d : ℕ) (es : List Entry) → 0 < b → a ≤ c → c ≤ d → All (λ (e : Entry). (c ≤ e.key) × (e.key ≤ last_tick b n)) es
      → all_moves b n a c es + all_moves b n c d es ≡ all_moves b n a d es
  unfolding all_moves
  all_moves-late a c d es p h k late =
      sum_of-add
      (λ (e : Entry). moves b n a c e.key)
      (λ (e : Entry). moves b n c d e.key)
      (λ (e : Entry). moves b n a d e.key)
      es
      (all_map (λ e l. moves-join b n a c d e.key h l.0 k (tick-below b n e.key p l.1)) es late)

  -- At most one move for each level but one.
  pub all_moves-bound : (a c : ℕ) (es : List Entry) → all_moves b n a c es ≤ (n - 1) * length es
  unfolding all_moves
  all_moves-bound a c es =
      sum_of-bound (λ (e : Entry). moves b n a c e.key) (n - 1) es
      (all-every (λ (e : Entry). moves b n a c e.key ≤ n - 1) (λ e. moves-bound b n a c e.key) es)

  -- Moves up to c of all and from c on of the others are the moves up to u.
  pub all_moves-split : (u : ℕ) → 0 < b → (m c : ℕ) (s : Plain) → Timed b n s → s.clock ≤ c → c ≤ u → All (λ (e : Entry). e.key ≤ c) (take m s.entries)
      → All (λ (e : Entry). c ≤ e.key) (drop m s.entries)
      → all_moves b n s.clock c s.entries + all_moves b n c u (drop m s.entries) ≡ all_moves b n s.clock u s.entries
  all_moves-split u positive m c s timed h k early late =
      let parts : (t : ℕ)
      → all_moves b n s.clock t s.entries
      ≡ all_moves b n s.clock t (take m s.entries) + all_moves b n s.clock t (drop m s.entries) =
      λ t.
      ap (all_moves b n s.clock t) (sym (take-append-drop m s.entries))
      ∙ all_moves-append s.clock t (take m s.entries) (drop m s.entries) in
      let last : All (λ (e : Entry). e.key ≤ last_tick b n) (drop m s.entries) =
      all_drop (λ (e : Entry). e.key ≤ last_tick b n) m s.entries (all_map (λ e w. w.last) s.entries timed.deadlines) in
      omega (
        arith,
        parts c,
        parts u,
        all_moves-early s.clock c u (take m s.entries) k early,
        all_moves-late s.clock c u (drop m s.entries) positive h k
            (all_both (λ (e : Entry). c ≤ e.key) (λ (e : Entry). e.key ≤ last_tick b n) (drop m s.entries) late last),
      )

-- "For the wheel besides": the rules of document 01's audit that are the wheel's own, each by itself.
-- Assumes nothing.
use Rattle.std.specs.Prelude.{ℕ, ◌≤◌, ◌<◌, true, cond, ◌&&◌, List, [], ◌∷◌, ◌≡◌, ltb, eqb}
use Rattle.cells.specs.Lists.{All, times}
use Rattle.cells.specs.Words.{word}
use Rattle.cells.specs.Rules.{in_use, Sound}
use Rattle.places.specs.Ticks.{last_tick}
use Rattle.slots.specs.Rings.{Lists}
use Rattle.slots.specs.Stand.{due_list, Stand}
use Rattle.dial.specs.Turns.{list_of}
use Rattle.dial.specs.declared.state.Dial.{Dial}

-- The fields that a wheel leaves unused, as masks: words 6 and 7 of a cell in use; of a free one all but its link.
abbrev pub used_mask : ℕ
used_mask = 192

abbrev pub free_mask : ℕ
free_mask = 239

-- "entries of equal deadline stand by rising order number"
abbrev pub Rises : List ℕ → List ℕ → Type 0
Rises w [] = Unit {0}
Rises w (c ∷ cs) = All (λ (d : ℕ). word w c 2 ≡ word w d 2 → word w c 1 < word w d 1) cs × Rises w cs

-- The lists of all places.
pub record Listing (l : Lists) (d : Dial) : Type 0 where
  pub cells : ℕ → List ℕ
  -- "linked both ways; a slot is marked occupied exactly if its list isn't empty"
  pub stand : Stand l cells
  -- "each entry stands once in the list of its place and in no other"
  pub placed :
      (i c : ℕ)
      → i ≤ due_list
      → times c (cells i)
      ≡ cond (ltb c d.store.cells && (in_use l.words c && eqb (list_of d.clock (word l.words c 2)) i)) 1 0
  -- "in one list, entries of equal deadline stand by rising order number"
  pub stable : (i : ℕ) → i ≤ due_list → Rises l.words (cells i)

-- "The audit says yes exactly if all of these hold".
pub record WheelSound (l : Lists) (d : Dial) : Type 0 where
  -- What every engine shares.
  pub shared : Sound l.words d.store used_mask free_mask
  -- The counter is a 64-bit number.
  pub counts : d.store.counter ≤ 18446744073709551615
  -- "clock and deadlines are at most the last tick; no deadline is below the clock"
  pub clock : d.clock ≤ last_tick 64 6
  pub late : (c : ℕ) → c < d.store.cells → in_use l.words c ≡ true → d.clock ≤ word l.words c 2
  pub last : (c : ℕ) → c < d.store.cells → in_use l.words c ≡ true → word l.words c 2 ≤ last_tick 64 6
  pub listing : Listing l d

-- "Nothing fires early, twice or never once the clock is brought past it": of one accepted advance, and of a timer over any calls.
-- Assumes nothing.
use Rattle.std.specs.Prelude.{ℕ, ◌≤◌, ◌<◌, Bool, true, false, ◌||◌, List, [], ◌∷◌, ◌++◌, map, ◌≡◌}
use Rattle.cells.specs.Lists.{All}
use Rattle.meaning.specs.Entries.{Entry}
use Rattle.meaning.specs.Plain.{Plain, Change, stays, files, refiles, frees, hands}
use Rattle.meaning.specs.Calls.{Call, Answer, Shown, shown, report_of, outcome, result}
use Rattle.meaning.specs.Becomes.{same_handle}

-- What every accepted advance to t keeps to, that finds the list s, answers a and leaves s'.
pub record Fires (t : ℕ) (s : Plain) (a : Answer) (s' : Plain) : Type 0 where
  -- "Nothing fires early": no record has a deadline above the clock that the answer gives, and that is at most the target.
  pub early : All (λ (x : Shown). x.key ≤ (report_of a).clock) (report_of a).fired
  pub up_to : (report_of a).clock ≤ t
  -- The clock of the answer is the list's, and never falls.
  pub clock : s'.clock ≡ (report_of a).clock
  pub forward : s.clock ≤ s'.clock
  -- The records and the entries left are the entries that stood, in their order.
  pub whole : (report_of a).fired ++ map shown s'.entries ≡ map shown s.entries
  -- "or never once the clock is brought past it": after *done* all that is left is due later than the target.
  pub cleared : (report_of a).done ≡ true → All (λ (e : Entry). t < e.key) s'.entries

-- The change gives the handle's entry another deadline.
unfoldable pub moves : ℕ → ℕ → Change → Bool
moves c k stays = false
moves c k (files key load) = false
moves c k (refiles c' k' key) = same_handle c k c' k'
moves c k (frees c' k') = false
moves c k (hands m t) = false

-- Some call of a run does.
unfoldable pub moved : ℕ → ℕ → ℕ → ℕ → List Call → Plain → Bool
moved b n c k [] s = false
moved b n c k (call ∷ calls) s = moves c k (outcome b n call s).change || moved b n c k calls (result b n call s).next

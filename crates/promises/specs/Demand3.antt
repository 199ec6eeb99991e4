-- Demand 3: "Bring the clock from T to U by any accepted advances with targets up to U and any output rooms, nothing else called between, the last one
-- answering "done" at U. The firings joined, the entries left, every later answer and the total of moves between levels equal those of one advance
-- with room for all. The total is the formula of document 01, at most five for each timer since it was last armed or moved."
-- Assumes nothing.
use Rattle.std.specs.Prelude.{ℕ, zero, ◌+◌, ◌-◌, ◌*◌, ◌≤◌, true, false, List, [], ◌∷◌, ◌++◌, map, ◌≡◌, length}
use Rattle.meaning.specs.Plain.{Plain}
use Rattle.meaning.specs.Calls.{Call, Advance, Answer, Shown, Report, is_refused, report_of, result, all_moves}
use Rattle.meaning.specs.Runs.{after, answers}

-- An advance that is asked for: its target and its room.
pub record Ask : Type 0 where
  pub target : ℕ
  pub room : ℕ

unfoldable pub asked : Ask → Call
asked a = Advance a.target a.room

-- What advances that told these answers report.
unfoldable pub reports : List Answer → List Report
reports told = map report_of told

-- "The firings joined"
unfoldable pub joined : List Report → List Shown
joined [] = []
joined (r ∷ rs) = r.fired ++ joined rs

-- "the total of moves between levels"
unfoldable pub total : List Report → ℕ
total [] = zero
total (r ∷ rs) = r.moves + total rs

-- "any accepted advances with targets up to U", "the last one answering "done" at U": by what was asked, and what was told.
abbrev pub Brings : ℕ → List Ask → List Answer → Type 0
Brings u [] told = ⊥
Brings u (a ∷ asks) [] = ⊥
Brings u (a ∷ []) (t ∷ told) = (is_refused t ≡ false) × ((report_of t).done ≡ true) × ((report_of t).clock ≡ u)
Brings u (a ∷ a' ∷ rest) (t ∷ told) = (is_refused t ≡ false) × (a.target ≤ u) × Brings u (a' ∷ rest) told

-- What advances from the list s on told is as what one advance to `u` told.
pub record TellsAsOne (b n u : ℕ) (s : Plain) (told : List Answer) (one : Answer) : Type 0 where
  pub accepted : is_refused one ≡ false
  pub done : (report_of one).done ≡ true
  pub clock : (report_of one).clock ≡ u
  pub fired : joined (reports told) ≡ (report_of one).fired
  pub moves : total (reports told) ≡ (report_of one).moves
  pub formula : total (reports told) ≡ all_moves b n s.clock u s.entries
  pub bound : total (reports told) ≤ (n - 1) * length s.entries

-- What the advances and one advance to `u` with room `r` have in common.
pub record AsOne (b n u r : ℕ) (asks : List Ask) (s : Plain) : Type 0 where
  pub told : TellsAsOne b n u s (answers b n (map asked asks) s) (result b n (Advance u r) s).answer
  -- The entries left, the free stack, the clock and the counter.
  pub left : after b n (map asked asks) s ≡ (result b n (Advance u r) s).next
  pub later : (calls : List Call) → answers b n calls (after b n (map asked asks) s) ≡ answers b n calls (result b n (Advance u r) s).next

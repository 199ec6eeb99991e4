-- "A handle names its own entry until that is fired, taken, cancelled or removed, and nothing afterwards."
-- Assumes nothing.
use Rattle.std.specs.Prelude.{ℕ, Bool, false, not, ◌||◌, List, [], ◌∷◌, ◌≡◌, take}
use Rattle.std.proofs.Math.Option.{Option, none, some}
use Rattle.meaning.specs.Entries.{Entry, named}
use Rattle.meaning.specs.Plain.{Plain, Change, stays, files, refiles, frees, hands}
use Rattle.meaning.specs.Becomes.{same_handle}
use Rattle.meaning.specs.Refusals.{is_none}
use Rattle.meaning.specs.Calls.{Call, Rekey, Remove, Move, Cancel, Refused, outcome, result}

-- The change ends the handle's entry: gives it back by this handle, or hands it out among the first.
unfoldable pub ends : ℕ → ℕ → Change → Plain → Bool
ends c k stays s = false
ends c k (files key load) s = false
ends c k (refiles c' k' key) s = false
ends c k (frees c' k') s = same_handle c k c' k'
ends c k (hands m t) s = not (is_none (named c k (take m s.entries)))

-- Some call of a run ends it: fires, takes, cancels or removes it.
unfoldable pub ended : ℕ → ℕ → ℕ → ℕ → List Call → Plain → Bool
ended b n c k [] s = false
ended b n c k (call ∷ calls) s = ends c k (outcome b n call s).change s || ended b n c k calls (result b n call s).next

-- The load of the entry that a handle names, if it names one.
unfoldable pub load_of : Option Entry → Option ℕ
load_of none = none
load_of (some e) = some e.load

-- "An old handle is refused as stale (7)", by each call that takes one.
pub record Stale (b n c k : ℕ) (s : Plain) : Type 0 where
  pub cancel : (result b n (Cancel c k) s).answer ≡ Refused 7
  pub remove : (result b n (Remove c k) s).answer ≡ Refused 7
  pub move : (e : ℕ) → (result b n (Move c k e) s).answer ≡ Refused 7
  pub rekey : (key : ℕ) → (result b n (Rekey c k key) s).answer ≡ Refused 7

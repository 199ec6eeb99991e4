-- The changes that a list allows, and that calls make no others: what is proved of these holds of the calls of either engine.
-- Assumes nothing.
use Prim.Native.Nat.{ℕ}
use mathlib.Core.Bool.{Bool, true, false, cond}
use mathlib.Core.Option.{Option, none, some}
use mathlib.Core.Path.{◌≡◌, refl}
use lib.Dec.{leb}
use lib.ListN.{drop}
use Rattle.cells.proofs.Cases.{clash}
use Rattle.meaning.specs.Entries.{Entry, named, earliest}
use Rattle.meaning.specs.Plain.{Plain, Change, stays, files, refiles, frees, hands}
use Rattle.meaning.specs.Refusals.{is_empty, is_none, full, stale, spent, Free}
use Rattle.meaning.specs.Calls.{
  Call,
  Put,
  First,
  Take,
  Rekey,
  Remove,
  Arm,
  Move,
  Cancel,
  Advance,
  NextWake,
  Outcome,
  causes,
  due_by,
  hand_out,
  advanced,
  filing,
  refiling,
  freeing,
  accepted,
  refused,
  outcome,
}
use Rattle.meaning.proofs.Given.{given-either}

-- A new entry wants a free cell; another key, and giving back, a handle that names an entry; what takes a number, a counter that is not spent.
abbrev pub Allowed : Change → Plain → Type 0
Allowed stays s = Unit {0}
Allowed (files key load) s = (is_empty s.free ≡ false) × ((spent s).applies ≡ false)
Allowed (refiles c k key) s = (is_none (named c k s.entries) ≡ false) × ((spent s).applies ≡ false)
Allowed (frees c k) s = is_none (named c k s.entries) ≡ false
Allowed (hands m t) s = Unit {0}

-- A handle that is not stale names an entry.
pub found : (o : Option Entry) → is_none o ≡ false → (e : Entry) × (o ≡ some e)
unfolding is_none
found none h = clash refl h
found (some e) h = (e, refl)

module _ (b n : ℕ) (s : Plain) where
  allowed-advance : (t r : ℕ) (enough : Bool)
      → Allowed
      (cond enough (hand_out b n true (due_by t s.entries) t s) (hand_out b n false r (earliest (drop r s.entries)).key s)).change
      s
  unfolding hand_out
  allowed-advance t r true = tt
  allowed-advance t r false = tt

  allowed-accepted : (call : Call) → Free (causes b n call s) → Allowed (accepted b n call s).change s
  unfolding accepted filing refiling freeing advanced causes full stale
  allowed-accepted (Put key load) f = (f.0, f.1.0)
  allowed-accepted First f = tt
  allowed-accepted Take f = tt
  allowed-accepted (Rekey c k key) f = (f.0, f.1.0)
  allowed-accepted (Remove c k) f = f.0
  allowed-accepted (Arm e load) f = (f.1.1.0, f.1.1.1.0)
  allowed-accepted (Move c k e) f = (f.0, f.1.1.1.0)
  allowed-accepted (Cancel c k) f = f.0
  allowed-accepted (Advance t r) f = allowed-advance t r (leb (due_by t s.entries) r)
  allowed-accepted NextWake f = tt

  -- A call changes the list as the list allows.
  pub allowed : (call : Call) → Allowed (outcome b n call s).change s
  unfolding outcome refused
  allowed call =
      given-either (λ (o : Outcome). Allowed o.change s) refused (accepted b n call s) (causes b n call s)
      (λ i. tt)
      (allowed-accepted call)

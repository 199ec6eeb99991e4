-- A handle names its own entry until that is fired, taken, cancelled or removed, and nothing afterwards, whatever is called in between.
-- Assumes nothing.
use Prim.Native.Nat.{ℕ, ◌<◌}
use native.Mathlib.Omega.{arith}
use mathlib.Core.Bool.{Bool, true, false, cond, not, ◌||◌}
use mathlib.Core.List.{List, [], ◌∷◌}
use mathlib.Core.Option.{Option, none, some, map}
use mathlib.Core.Path.{◌≡◌, refl, ap, ◌∙◌}
use lib.ListN.{take}
use Rattle.meaning.specs.Entries.{Entry, named}
use Rattle.meaning.specs.Plain.{Plain, Change, stays, files, refiles, frees, hands, apply, refiled}
use Rattle.meaning.specs.Refusals.{is_none}
use Rattle.meaning.specs.Calls.{Call, outcome, result}
use Rattle.meaning.specs.Runs.{after}
use Rattle.meaning.specs.Kept.{Kept}
use Rattle.promises.specs.Handles.{ends, ended, load_of}
use Rattle.meaning.specs.Becomes.{same_handle, becomes}
use Rattle.meaning.proofs.Becomes.{becomes-apply, counter-apply}
use Rattle.meaning.proofs.Allowed.{allowed}
use Rattle.meaning.proofs.Reached.{kept-apply}

-- The load stays what it was until the change that ends the entry.
load-becomes : (c k : ℕ) (ch : Change) (s : Plain) (o : Option Entry) → load_of (becomes c k ch s o) ≡ cond (ends c k ch s) none (load_of o)
unfolding becomes ends
load-becomes c k stays s o = refl
load-becomes c k (files key load) s o = refl
load-becomes c k (refiles c' k' key) s o = go (same_handle c k c' k') o
  where
    go : (t : Bool) (o : Option Entry) → load_of (cond t (map (refiled key s) o) o) ≡ load_of o
    go true none = refl
    go true (some e) = unfold load_of refiled in refl
    go false o = refl
load-becomes c k (frees c' k') s o = go (same_handle c k c' k')
  where
    go : (t : Bool) → load_of (cond t none o) ≡ cond t none (load_of o)
    go true = unfold load_of in refl
    go false = refl
load-becomes c k (hands m t) s o = go (is_none (named c k (take m s.entries)))
  where
    go : (t : Bool) → load_of (cond t o none) ≡ cond (not t) none (load_of o)
    go true = refl
    go false = unfold load_of in refl

either : {A : Type 0} (s t : Bool) (x y : A) → cond t x (cond s x y) ≡ cond (s || t) x y
either true true x y = refl
either true false x y = refl
either false t x y = refl

-- Over any calls, the load that a handle names is what it was, until a call fires, takes, cancels or removes its entry: then it names nothing.
pub own-load : (b n c k : ℕ) (calls : List Call) (s : Plain) → Kept s → k < s.counter
    → load_of (named c k (after b n calls s).entries) ≡ cond (ended b n c k calls s) none (load_of (named c k s.entries))
unfolding after ended result
own-load b n c k [] s kept h = refl
own-load b n c k (call ∷ calls) s kept h =
    let ch : Change = (outcome b n call s).change in
    own-load b n c k calls (apply ch s) (kept-apply s kept ch (allowed b n s call)) (omega (arith, counter-apply ch s))
    ∙ ap (cond (ended b n c k calls (apply ch s)) none)
    (ap load_of (becomes-apply s kept c k ch (allowed b n s call) h) ∙ load-becomes c k ch s (named c k s.entries))
    ∙ either (ends c k ch s) (ended b n c k calls (apply ch s)) none (load_of (named c k s.entries))

-- The life of a handle: from the put or arm that gave it out to its end, and afterwards.
-- Assumes nothing.
use Prim.Native.Nat.{ℕ, ◌<◌}
use native.Mathlib.Omega.{arith}
use mathlib.Core.Bool.{false, cond}
use mathlib.Core.List.{List, [], ◌∷◌, map}
use mathlib.Core.Option.{none, some}
use mathlib.Core.Path.{◌≡◌, refl, ap, ◌∙◌}
use borrow.Author.Tests.{eq-eqb, le-ltb}
use lib.ListN.{take}
use Rattle.cells.proofs.Cases.{at_most?, cond_same}
use Rattle.cells.proofs.Lists.{all_map, times-here}
use Rattle.meaning.specs.Entries.{Entry, names, named, without}
use Rattle.meaning.specs.Plain.{Plain, top, Change, stays, files, refiles, frees, hands, apply, filed}
use Rattle.meaning.specs.Refusals.{is_none, stale, first_of}
use Rattle.meaning.specs.Calls.{Call, Put, Arm, is_refused, filing, accepted, refused, causes, outcome, result}
use Rattle.meaning.specs.Runs.{after}
use Rattle.meaning.proofs.Handles.{ticket_of, names-own, named-names, named-insert-own, named-absent, times-without}
use Rattle.meaning.proofs.Stack.{cell_of}
use Rattle.meaning.specs.Kept.{Kept}
use Rattle.promises.specs.Handles.{ended, load_of, Stale}
use Rattle.meaning.specs.Becomes.{same_handle, becomes}
use Rattle.meaning.proofs.Allowed.{allowed}
use Rattle.meaning.proofs.Kept.{unused}
use Rattle.meaning.proofs.Handed.{accepted-free, outcome-free}
use Rattle.promises.proofs.Handles.{own-load}
use Rattle.meaning.proofs.Becomes.{becomes-apply, counter-apply}
use Rattle.meaning.proofs.Reached.{kept-apply}

-- The handle that a new entry's put or arm answers names that entry.
pub names-new : (s : Plain) → Kept s → (key load : ℕ) → named (top s.free) s.counter (apply (files key load) s).entries ≡ some (filed key load s)
unfolding apply filed names
names-new s kept key load =
    named-insert-own (top s.free) s.counter (filed key load s) s.entries
    (rw (eq-eqb (top s.free) (top s.free) refl) (eq-eqb s.counter s.counter refl))
    (named-absent (top s.free) s.counter s.entries
    (unused s.counter ticket_of s.entries (all_map (λ e w. omega (arith, w.rising, w.taken)) s.entries kept.numbered)))

-- From the call that gave it out on, the handle names its own load, until some call ends the entry; then it names nothing.
pub life : (b n key load : ℕ) (call : Call) (s : Plain) → Kept s → outcome b n call s ≡ filing key load s → (calls : List Call)
    → load_of (named (top s.free) s.counter (after b n (call ∷ calls) s).entries)
    ≡ cond (ended b n (top s.free) s.counter calls (result b n call s).next) none (some load)
unfolding after result filing load_of filed
life b n key load call s kept e calls =
    let new : (result b n call s).next ≡ apply (files key load) s = unfold result in rw e in
    let next : Kept (apply (outcome b n call s).change s) = kept-apply s kept (outcome b n call s).change (allowed b n s call) in
    own-load b n (top s.free) s.counter calls (apply (outcome b n call s).change s) next
    (rw e (unfold apply in omega arith))
    ∙ ap (cond (ended b n (top s.free) s.counter calls (apply (outcome b n call s).change s)) none)
    (ap (λ (t : Plain). load_of (named (top s.free) s.counter t.entries)) new
    ∙ ap load_of (names-new s kept key load))

-- An accepted put or arm is such a call.
pub put-files : (b n key load : ℕ) (s : Plain) → is_refused (result b n (Put key load) s).answer ≡ false → outcome b n (Put key load) s ≡ filing key load s
unfolding result accepted
put-files b n key load s e = outcome-free b n (Put key load) s (accepted-free b n (Put key load) s e)

pub arm-files : (b n e load : ℕ) (s : Plain) → is_refused (result b n (Arm e load) s).answer ≡ false → outcome b n (Arm e load) s ≡ filing e load s
unfolding result accepted
arm-files b n e load s h = outcome-free b n (Arm e load) s (accepted-free b n (Arm e load) s h)

-- Of nothing a change makes nothing.
nothing-becomes : (c k : ℕ) (ch : Change) (s : Plain) → becomes c k ch s none ≡ none
unfolding becomes
nothing-becomes c k stays s = refl
nothing-becomes c k (files key load) s = refl
nothing-becomes c k (refiles c' k' key) s = cond_same (same_handle c k c' k') none
nothing-becomes c k (frees c' k') s = cond_same (same_handle c k c' k') none
nothing-becomes c k (hands m t) s = cond_same (is_none (named c k (take m s.entries))) none

-- A handle that was given out and names nothing names nothing for good.
pub stays-stale : (b n c k : ℕ) (calls : List Call) (s : Plain) → Kept s → k < s.counter → named c k s.entries ≡ none
    → named c k (after b n calls s).entries ≡ none
unfolding after result
stays-stale b n c k [] s kept h e = e
stays-stale b n c k (call ∷ calls) s kept h e =
    let ch : Change = (outcome b n call s).change in
    stays-stale b n c k calls (apply ch s) (kept-apply s kept ch (allowed b n s call)) (omega (arith, counter-apply ch s))
    (becomes-apply s kept c k ch (allowed b n s call) h ∙ ap (becomes c k ch s) e ∙ nothing-becomes c k ch s)

pub stale-refused : (b n c k : ℕ) (s : Plain) → named c k s.entries ≡ none → Stale b n c k s
unfolding result outcome causes first_of stale is_none refused
stale-refused b n c k s e = record { cancel = rw e; remove = rw e; move = λ d. rw e; rekey = λ key. rw e }

-- "It names an entry exactly if the cell is less than N, is in use, and holds that ticket": the cell of a named entry is below N.
pub named-below : (c k : ℕ) (e : Entry) (s : Plain) → Kept s → named c k s.entries ≡ some e → c < s.cells
named-below c k e s kept q =
    at_most? s.cells c
    (λ h.
    absurd
    (omega (
      arith,
      times-without c k c cell_of e s.entries q,
      times-here c e.cell (map cell_of (without c k s.entries)) (names-own c k e (named-names c k e s.entries q)).0,
      rw (le-ltb c s.cells h) at (kept.cells c),
    )))
    (λ h. h)

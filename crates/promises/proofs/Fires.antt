-- Nothing fires early, and nothing is left once the clock has been brought past it with *done*. (That nothing fires twice is `once` of Tickets.)
-- Assumes nothing.
use Prim.Native.Nat.{ℕ, ◌≤◌, ◌<◌}
use native.Mathlib.Omega.{arith}
use mathlib.Core.Bool.{true, false}
use mathlib.Core.List.{List, [], ◌∷◌, map}
use mathlib.Core.Option.{Option, some}
use mathlib.Core.Path.{◌≡◌, refl, sym, ap, ◌∙◌}
use lib.ListN.{take, drop, take-append-drop}
use borrow.Author.Tests.{not-false}
use Rattle.cells.specs.Lists.{All}
use Rattle.cells.proofs.Cases.{test, or-false}
use Rattle.meaning.specs.Entries.{Entry, named}
use Rattle.meaning.specs.Plain.{Plain, Change, stays, files, refiles, frees, hands, apply}
use Rattle.meaning.specs.Refusals.{is_none, Free}
use Rattle.meaning.specs.Calls.{Call, Advance, OfWheel, Shown, shown, is_refused, report_of, causes, outcome, result}
use Rattle.meaning.specs.Runs.{after}
use Rattle.meaning.proofs.Handles.{map-append, names-own, named-names, named-all}
use Rattle.meaning.proofs.Due.{due-back}
use Rattle.meaning.specs.Kept.{Numbered, Kept, Within, Timed}
use Rattle.meaning.specs.Handed.{Handed}
use Rattle.promises.specs.Fires.{Fires, moves, moved}
use Rattle.promises.specs.Handles.{ends, ended}
use Rattle.meaning.specs.Becomes.{becomes}
use Rattle.meaning.proofs.Allowed.{allowed}
use Rattle.meaning.proofs.Reached.{kept-apply}
use Rattle.meaning.proofs.Becomes.{becomes-apply, counter-apply}
use Rattle.meaning.proofs.Handed.{accepted-free}
use Rattle.meaning.proofs.Timed.{advance-hands, timed-run}
use Rattle.promises.proofs.Demand3.{reported_by, handed-next, handed-answer}

all_shown : (c : ℕ) (es : List Entry) → All (λ (e : Entry). e.key ≤ c) es → All (λ (x : Shown). x.key ≤ c) (map shown es)
unfolding shown
all_shown c [] a = tt
all_shown c (e ∷ es) a = (a.0, all_shown c es a.1)

pub fires : (b n t r : ℕ) (s : Plain) → Kept s → Timed b n s → is_refused (result b n (Advance t r) s).answer ≡ false
    → Fires t s (result b n (Advance t r) s).answer (result b n (Advance t r) s).next
unfolding report_of reported_by apply
fires b n t r s kept timed e =
    let f : Free (causes b n (Advance t r) s) = accepted-free b n (Advance t r) s (unfold result in e) in
    let h : Handed b n t r s = advance-hands b n s kept timed t r f in
    let answer = handed-answer b n t r s h in
    let next = handed-next b n t r s h in
    record {
      early = rw answer (all_shown h.c (take h.m s.entries) h.early);
      up_to = rw answer h.up_to;
      clock = rw (answer, next);
      forward = rw next h.forward;
      whole =
          rw (answer, next)
          (sym (map-append shown (take h.m s.entries) (drop h.m s.entries))
          ∙ ap (map shown) (take-append-drop h.m s.entries));
      cleared =
          λ d.
          let done : h.done ≡ true = rw answer at d in
          rw (next, (h.finished done).0) (due-back t s.entries kept.ordered);
    }

-- A change that neither ends the handle's entry nor gives it another deadline leaves it as it is.
becomes-still : (c k : ℕ) (ch : Change) (s : Plain) (o : Option Entry) → ends c k ch s ≡ false → moves c k ch ≡ false → becomes c k ch s o ≡ o
unfolding ends moves becomes
becomes-still c k stays s o e m = refl
becomes-still c k (files key load) s o e m = refl
becomes-still c k (refiles c' k' key) s o e m = rw m
becomes-still c k (frees c' k') s o e m = rw e
becomes-still c k (hands d t) s o e m = rw (not-false (is_none (named c k (take d s.entries))) e)

-- Over any calls, an entry that is neither ended nor moved by its handle is the same entry.
pub still-named : (b n c k : ℕ) (calls : List Call) (s : Plain) → Kept s → k < s.counter → ended b n c k calls s ≡ false
    → moved b n c k calls s ≡ false
    → named c k (after b n calls s).entries ≡ named c k s.entries
unfolding after ended moved result
still-named b n c k [] s kept h e m = refl
still-named b n c k (call ∷ calls) s kept h e m =
    let ch : Change = (outcome b n call s).change in
    let ends-not = or-false (ends c k ch s) (ended b n c k calls (apply ch s)) e in
    let moves-not = or-false (moves c k ch) (moved b n c k calls (apply ch s)) m in
    still-named b n c k calls (apply ch s) (kept-apply s kept ch (allowed b n s call)) (omega (arith, counter-apply ch s)) ends-not.1
    moves-not.1
    ∙ becomes-apply s kept c k ch (allowed b n s call) h
    ∙ becomes-still c k ch s (named c k s.entries) ends-not.0 moves-not.0

-- "or never once the clock is brought past it": over any calls of the wheel, a timer that no call moved has ended by the time the clock is past its deadline.
pub passed : (b n c k : ℕ) (e : Entry) (calls : List Call) (s : Plain) → All OfWheel calls → Kept s → Timed b n s → named c k s.entries ≡ some e
    → moved b n c k calls s ≡ false
    → e.key < (after b n calls s).clock
    → ended b n c k calls s ≡ true
passed b n c k e calls s w kept timed q m past =
    test (ended b n c k calls s) (λ t. t)
    (λ t.
    let numbered : Numbered s.counter e = named-all c k (Numbered s.counter) e s.entries q kept.numbered in
    let ticket : e.ticket ≡ k = (names-own c k e (named-names c k e s.entries q)).1 in
    let known : k < s.counter = omega (arith, numbered.rising, numbered.taken) in
    let last : Timed b n (after b n calls s) = timed-run b n calls s w kept timed in
    let within : Within b n (after b n calls s).clock e =
    named-all c k (Within b n (after b n calls s).clock) e (after b n calls s).entries
    (still-named b n c k calls s kept known t m ∙ q)
    last.deadlines in
    absurd (omega (arith, within.late)))

-- Demand 3 of the wheel's code, from an accepted set-up on.
-- Assumes nothing.
use Prim.Native.Nat.{ℕ, ◌≤◌}
use native.Mathlib.Omega.{arith}
use mathlib.Core.List.{List, map}
use mathlib.Core.Path.{◌≡◌, sym, ap, subst, ◌∙◌}
use Rattle.meaning.specs.Plain.{Plain}
use Rattle.meaning.specs.Calls.{Call, Advance, Answer, due_by, result}
use Rattle.meaning.specs.Runs.{after, answers}
use Rattle.wheel.specs.declared.head.Head.{Head}
use Rattle.promises.specs.Demand3.{Ask, asked, Brings, AsOne}
use Rattle.promises.specs.Made.{Lent, Made, Runs, calls_of, left_by}
use Rattle.promises.specs.WheelRuns.{OneCall, FromSetUp, answers_of, state_now, list_now, Holds, CodeAsOne}
use Rattle.promises.proofs.CodeRuns.{run_holds}
use Rattle.promises.proofs.Demand3.{demand3}
use Rattle.promises.proofs.WheelDemands.{wheel-follows, holds_kept, holds-timed, told-plain, wheel-left}

-- What two states told that hold one list is the same, whatever is called.
later_same : (s₁ s₂ : Lent Head) (p : Plain) → Holds s₁ p → Holds s₂ p → (xs ys : List (Made Head Answer)) → Runs OneCall s₁ xs → Runs OneCall s₂ ys
    → calls_of xs ≡ calls_of ys
    → answers_of xs ≡ answers_of ys
later_same s₁ s₂ p h₁ h₂ xs ys r₁ r₂ e =
    told-plain s₁ p h₁ xs r₁ ∙ ap (λ (calls : List Call). answers 64 6 calls p) e ∙ sym (told-plain s₂ p h₂ ys r₂)

-- Of head and memory that hold a list.
code-as-one : (s : Lent Head) (p : Plain) → Holds s p → (u r : ℕ) (asks : List Ask) (xs : List (Made Head Answer)) → Runs OneCall s xs
    → calls_of xs ≡ map asked asks
    → Brings u asks (answers_of xs)
    → (one : Answer) (s' : Lent Head)
    → OneCall (Advance u r) s one s'
    → due_by u p.entries ≤ r
    → CodeAsOne u p (answers_of xs) (left_by s xs) one s'
code-as-one s p h u r asks xs run calls brings one s' alone roomy =
    let told : answers_of xs ≡ answers 64 6 (map asked asks) p =
    told-plain s p h xs run ∙ ap (λ (l : List Call). answers 64 6 l p) calls in
    let plain : AsOne 64 6 u r asks p =
    demand3 64 6 u r asks p (omega arith) (holds_kept s p h) (holds-timed s p h) (subst (Brings u asks) told brings) roomy in
    let last = wheel-follows (Advance u r) s one s' p alone h in
    let left : Plain = (result 64 6 (Advance u r) p).next in
    let same : after 64 6 (calls_of xs) p ≡ left = ap (λ (l : List Call). after 64 6 l p) calls ∙ plain.left in
    let many : Holds (left_by s xs) left =
    subst (Holds (left_by s xs)) same (run_holds OneCall (λ (a : Answer). a) Holds wheel-follows xs s p run h) in
    record {
      tells = rw (told, last.0) plain.told;
      left = left;
      many = many;
      alone = last.1;
      later = later_same (left_by s xs) s' left many last.1;
    }

-- Demand 3: from an accepted set-up and any calls xs on, accepted advances ys of the code that bring the clock to u, the last of them told *done* at u,
-- tell together what one advance of the code to u with room for all tells, and leave what it leaves.
pub wheel-demand3 : (w : List ℕ) (t : ℕ) (xs : List (Made Head Answer)) → FromSetUp w t xs
    → (u r : ℕ) (asks : List Ask) (ys : List (Made Head Answer))
    → Runs OneCall (state_now w t xs) ys
    → calls_of ys ≡ map asked asks
    → Brings u asks (answers_of ys)
    → (one : Answer) (s : Lent Head)
    → OneCall (Advance u r) (state_now w t xs) one s
    → due_by u (list_now w t xs).entries ≤ r
    → CodeAsOne u (list_now w t xs) (answers_of ys) (left_by (state_now w t xs) ys) one s
wheel-demand3 w t xs from u r asks ys run calls brings one s alone roomy =
    code-as-one (state_now w t xs) (list_now w t xs) (wheel-left w t xs from) u r asks ys run calls brings one s alone roomy

-- What one call of the code does over a plain list, all calls of a run do. For both engines.
-- Assumes nothing.
use Prim.Native.Nat.{ℕ}
use native.Mathlib.Omega.{arith}
use mathlib.Core.List.{List, [], ◌∷◌, ◌++◌}
use mathlib.Core.Logic.{◌≢◌}
use mathlib.Core.Path.{◌≡◌, refl, ap₂, subst}
use Rattle.cells.specs.Lists.{All}
use Rattle.meaning.specs.Plain.{Plain}
use Rattle.meaning.specs.Refusals.{Cause, not_after, behind, beyond, full, stale, spent, empty}
use Rattle.meaning.specs.Calls.{
  Call,
  Put,
  First,
  Take,
  Rekey,
  Remove,
  Arm,
  Move,
  Cancel,
  Advance,
  NextWake,
  Answer,
  Refused,
  causes,
  result,
}
use Rattle.meaning.specs.Runs.{after, answers}
use Rattle.promises.specs.Made.{Lent, Made, Runs, calls_of, told_by, left_by}
use Rattle.promises.specs.Refusals.{NeverNine}
use Rattle.promises.proofs.Refusals.{refused-exactly}

-- The same head and the same words are the same.
pub lent_same : {Head : Type 0} (s s' : Lent Head) → s.head ≡ s'.head → s.words ≡ s'.words → s ≡ s'
lent_same s s' e q = ap₂ (λ h w. record { head = h; words = w }) e q

module _
    {Head Told : Type 0}
    (One : Call → Lent Head → Told → Lent Head → Type 0)
    (answer_of : Told → Answer)
    (Holds : Lent Head → Plain → Type 0)
    (follows :
    (call : Call) (s : Lent Head) (t : Told) (s' : Lent Head) (p : Plain)
    → One call s t s'
    → Holds s p
    → (answer_of t ≡ (result 64 6 call p).answer) × Holds s' (result 64 6 call p).next)
  where
    -- What is told is what the plain list answers.
    pub run-answers : (xs : List (Made Head Told)) (s : Lent Head) (p : Plain) → Runs One s xs → Holds s p
        → told_by answer_of xs ≡ answers 64 6 (calls_of xs) p
    unfolding told_by calls_of answers
    run-answers [] s p run h = refl
    run-answers (x ∷ xs) s p run h =
        let one = follows x.call s x.told x.left p run.0 h in
        ap₂ (λ (a : Answer) (l : List Answer). a ∷ l) one.0
        (run-answers xs x.left (result 64 6 x.call p).next run.1 one.1)

    -- What is left is the plain list after the calls.
    pub run_holds : (xs : List (Made Head Told)) (s : Lent Head) (p : Plain) → Runs One s xs → Holds s p
        → Holds (left_by s xs) (after 64 6 (calls_of xs) p)
    unfolding left_by calls_of after
    run_holds [] s p run h = h
    run_holds (x ∷ xs) s p run h =
        let one = follows x.call s x.told x.left p run.0 h in
        run_holds xs x.left (result 64 6 x.call p).next run.1 one.1

-- What holds of all of a list holds of one in the midst of it.
all-amid : {A : Type 0} (P : A → Type 0) (xs : List A) (y : A) (zs : List A) → All P (xs ++ (y ∷ zs)) → P y
all-amid P [] y zs a = a.0
all-amid P (x ∷ xs) y zs a = all-amid P xs y zs a.1

-- 9 is the number of no cause that a list may have against a call.
unnumbered : (b n : ℕ) (call : Call) (s : Plain) → All (λ (c : Cause). c.number ≢ 9) (causes b n call s)
unfolding causes not_after behind beyond full stale spent empty
unnumbered b n (Put key load) s = (λ e. omega arith, (λ e. omega arith, tt))
unnumbered b n First s = (λ e. omega arith, tt)
unnumbered b n Take s = (λ e. omega arith, tt)
unnumbered b n (Rekey c k key) s = (λ e. omega arith, (λ e. omega arith, tt))
unnumbered b n (Remove c k) s = (λ e. omega arith, tt)
unnumbered b n (Arm d load) s = (λ e. omega arith, (λ e. omega arith, (λ e. omega arith, (λ e. omega arith, tt))))
unnumbered b n (Move c k d) s = (λ e. omega arith, (λ e. omega arith, (λ e. omega arith, (λ e. omega arith, tt))))
unnumbered b n (Cancel c k) s = (λ e. omega arith, tt)
unnumbered b n (Advance t r) s = (λ e. omega arith, (λ e. omega arith, tt))
unnumbered b n NextWake s = tt

-- So a plain list never answers 9.
pub not-nine : (b n : ℕ) (call : Call) (s : Plain) → (result b n call s).answer ≢ Refused 9
not-nine b n call s e =
    let f = (refused-exactly b n 9 call s).0 e in
    all-amid (λ (c : Cause). c.number ≢ 9) f.earlier f.cause f.rest
    (subst (All (λ (c : Cause). c.number ≢ 9)) f.list (unnumbered b n call s))
    f.number

pub never-nine : (b n : ℕ) (calls : List Call) (s : Plain) → NeverNine (answers b n calls s)
unfolding answers
never-nine b n [] s = tt
never-nine b n (call ∷ calls) s = (not-nine b n call s, never-nine b n calls (result b n call s).next)

-- Refusals: each has its one number and stated cause, and changes nothing.
-- Assumes nothing.
use Prim.Native.Nat.{ℕ}
use mathlib.Core.Bool.{Bool, true, false, cond}
use mathlib.Core.List.{List, [], ◌∷◌, ◌++◌}
use mathlib.Core.Logic.{◌↔◌}
use mathlib.Core.Path.{◌≡◌, refl, ap, ◌∙◌}
use lib.Dec.{leb}
use lib.ListN.{drop}
use Rattle.cells.proofs.Cases.{clash}
use Rattle.meaning.specs.Entries.{earliest}
use Rattle.meaning.specs.Plain.{Plain, apply}
use Rattle.meaning.specs.Refusals.{Cause, first_of, Free, bad_size, bad_arity, beyond, unsound}
use Rattle.meaning.specs.Calls.{
  Call,
  Put,
  First,
  Take,
  Rekey,
  Remove,
  Arm,
  Move,
  Cancel,
  Advance,
  NextWake,
  Answer,
  Refused,
  is_refused,
  Outcome,
  causes,
  due_by,
  hand_out,
  advanced,
  filing,
  refiling,
  freeing,
  accepted,
  refused,
  outcome,
  checked,
  checked_outcome,
  Result,
  result,
  refused_set_up,
  accepted_set_up,
  set_up_queue,
  set_up_wheel,
}
use Rattle.meaning.proofs.Given.{given-either}
use Rattle.promises.specs.Refusals.{FirstIs}

module _ (b n : ℕ) (s : Plain) where
  hand_out-accepts : (t r : ℕ) (enough : Bool)
      → is_refused
      (cond enough (hand_out b n true (due_by t s.entries) t s) (hand_out b n false r (earliest (drop r s.entries)).key s)).answer
      ≡ false
  unfolding hand_out is_refused
  hand_out-accepts t r true = refl
  hand_out-accepts t r false = refl

  -- A call that no cause refuses does not answer with a refusal.
  pub accepted-accepts : (call : Call) → is_refused (accepted b n call s).answer ≡ false
  unfolding accepted filing refiling freeing advanced is_refused
  accepted-accepts (Put key load) = refl
  accepted-accepts First = refl
  accepted-accepts Take = refl
  accepted-accepts (Rekey c k key) = refl
  accepted-accepts (Remove c k) = refl
  accepted-accepts (Arm e load) = refl
  accepted-accepts (Move c k e) = refl
  accepted-accepts (Cancel c k) = refl
  accepted-accepts (Advance t r) = hand_out-accepts t r (leb (due_by t s.entries) r)
  accepted-accepts NextWake = refl

  -- "A refusal hands back the head unchanged and every lent word unchanged": on the plain list, it changes nothing.
  pub refusal-keeps : (call : Call) → is_refused (result b n call s).answer ≡ true → (result b n call s).next ≡ s
  unfolding result outcome refused apply
  refusal-keeps call =
      given-either (λ (o : Outcome). is_refused o.answer ≡ true → apply o.change s ≡ s) refused (accepted b n call s)
      (causes b n call s)
      (λ i e. refl)
      (λ f e. clash e (accepted-accepts call))

module _ {A : Type 0} (answer : A → Answer) (refuse : ℕ → A) (says : (i : ℕ) → answer (refuse i) ≡ Refused i) (accept : A) where
  -- Number i is given only where its cause is the first that applies.
  given-first : (i : ℕ) → is_refused (answer accept) ≡ false → (cs : List Cause) → answer (first_of cs refuse accept) ≡ Refused i → FirstIs i cs
  unfolding first_of is_refused
  given-first i a [] e = clash (ap is_refused e) a
  given-first i a (c ∷ cs) e = go c.applies refl e (given-first i a cs)
    where
      go : (t : Bool) → c.applies ≡ t → answer (cond t (refuse c.number) (first_of cs refuse accept)) ≡ Refused i
          → (answer (first_of cs refuse accept) ≡ Refused i → FirstIs i cs)
          → FirstIs i (c ∷ cs)
      go true q r f =
          record { earlier = []; cause = c; rest = cs; list = refl; free = tt; applies = q; number = cc (r, says c.number) }
      go false q r f =
          let h : FirstIs i cs = f r in
          record {
            earlier = c ∷ h.earlier;
            cause = h.cause;
            rest = h.rest;
            list = ap (λ (l : List Cause). c ∷ l) h.list;
            free = (q, h.free);
            applies = h.applies;
            number = h.number;
          }

  -- And where it is the first, its number is given.
  first-given : (earlier : List Cause) (c : Cause) (rest : List Cause) → Free earlier → c.applies ≡ true
      → answer (first_of (earlier ++ (c ∷ rest)) refuse accept) ≡ Refused c.number
  unfolding first_of
  first-given [] c rest f e = rw e (says c.number)
  first-given (d ∷ earlier) c rest f e = rw f.0 (first-given earlier c rest f.1 e)

  exactly : (i : ℕ) (cs : List Cause) → is_refused (answer accept) ≡ false → (answer (first_of cs refuse accept) ≡ Refused i) ↔ FirstIs i cs
  exactly i cs a = (
    given-first i a cs,
    λ h.
        ap (λ (l : List Cause). answer (first_of l refuse accept)) h.list
        ∙ first-given h.earlier h.cause h.rest h.free h.applies
        ∙ ap Refused h.number,
  )

-- "Given exactly when": a call answers with number i exactly if the first of its causes that applies has that number.
pub refused-exactly : (b n i : ℕ) (call : Call) (s : Plain) → ((result b n call s).answer ≡ Refused i) ↔ FirstIs i (causes b n call s)
unfolding result outcome refused
refused-exactly b n i call s =
    exactly (λ (o : Outcome). o.answer) refused (λ j. refl) (accepted b n call s) i (causes b n call s) (accepted-accepts b n s call)

-- The same of the set-ups.
pub queue-set_up-exactly : (cells d i : ℕ) (s : Plain) → ((set_up_queue cells d s).answer ≡ Refused i) ↔ FirstIs i (bad_size cells ∷ bad_arity d ∷ [])
unfolding set_up_queue refused_set_up accepted_set_up is_refused
queue-set_up-exactly cells d i s =
    exactly (λ (r : Result). r.answer) (refused_set_up s) (λ j. refl) (accepted_set_up cells 0) i (bad_size cells ∷ bad_arity d ∷ []) refl

pub wheel-set_up-exactly : (b n cells t i : ℕ) (s : Plain)
    → ((set_up_wheel b n cells t s).answer ≡ Refused i) ↔ FirstIs i (bad_size cells ∷ beyond b n t ∷ [])
unfolding set_up_wheel refused_set_up accepted_set_up is_refused
wheel-set_up-exactly b n cells t i s =
    exactly (λ (r : Result). r.answer) (refused_set_up s) (λ j. refl) (accepted_set_up cells t) i (bad_size cells ∷ beyond b n t ∷ []) refl

-- "The checked call audits first": where the audit passes it does what the quick call does, where it fails it answers 9 and changes nothing.
pub checked-passes : (b n : ℕ) (call : Call) (s : Plain) → checked_outcome true b n call s ≡ outcome b n call s
unfolding checked_outcome checked unsound outcome first_of
checked-passes b n call s = refl

pub checked-fails : (b n : ℕ) (call : Call) (s : Plain) → checked_outcome false b n call s ≡ refused 9
unfolding checked_outcome checked unsound first_of
checked-fails b n call s = refl

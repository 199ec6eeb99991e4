-- Only one outcome meets a call's promise, and its answer is the plain list's.
-- Assumes nothing.
use Prim.Native.Nat.{ℕ}
use mathlib.Core.Bool.{true}
use mathlib.Core.List.{List}
use mathlib.Core.Path.{◌≡◌, refl, sym, subst, ◌∙◌}
use Rattle.cells.proofs.Cases.{test, clash}
use Rattle.meaning.specs.Calls.{Call, Put, First, Take, Rekey, Remove, Arm, Move, Cancel, Advance, NextWake, is_refused, causes, result}
use Rattle.meaning.proofs.Given.{given-either}
use Rattle.queue.specs.Model.{Model, as_plain, Step, accepted_by, step}
use Rattle.queue.specs.Means.{OfQueue}
use Rattle.queue.specs.Shows.{Shows}
use Rattle.queue.specs.Answers.{Told, told as made}
use Rattle.queue.specs.Promise.{Promise, Checked}
use Rattle.queue.specs.AuditTests.{audit_test}
use Rattle.queue.specs.declared.head.Head.{Head}
use Rattle.queue.proofs.Meets.{meets}
use Rattle.queue.proofs.OneMemory.{one-memory}
use Rattle.queue.proofs.Audits.{audit-decides}
use Rattle.queue.proofs.ShownSound.{shown-sound}
use Rattle.queue.proofs.SoundShown.{sound-shown}

-- The same answer, moves, head and words.
pub record Same (t : Told) (h : Head) (w : List ℕ) (t' : Told) (h' : Head) (w' : List ℕ) : Type 0 where
  pub told : t ≡ t'
  pub head : h ≡ h'
  pub words : w ≡ w'

-- What is told is an answer and its moves.
told_same : (t t' : Told) → t.answer ≡ t'.answer → t.moves ≡ t'.moves → t ≡ t'
unfolding made
told_same t t' a b =
    let whole : made t.answer t.moves ≡ made t'.answer t'.moves = cc in
    whole

module _ (call : Call) (h : Head) (w : List ℕ) where
  -- Where a model is shown the answer is the plain list's.
  pub answers-plain : (t : Told) (h' : Head) (w' : List ℕ) (m : Model) → OfQueue call → Promise call h w t h' w' → (s : Shows h w m)
      → t.answer ≡ (result 64 6 call s.valid.list).answer
  answers-plain t h' w' m q p s =
      (p.shown m s).answer ∙ (meets call m s.valid.list q s.valid.kept s.valid.means).0

  module _ (t₁ t₂ : Told) (h₁ h₂ : Head) (w₁ w₂ : List ℕ) where
    -- Where a model is shown, quick calls have one outcome.
    pub one-quick : (m : Model) → Shows h w m → Promise call h w t₁ h₁ w₁ → Promise call h w t₂ h₂ w₂ → Same t₁ h₁ w₁ t₂ h₂ w₂
    one-quick m s p q =
        let a = p.shown m s in
        let b = q.shown m s in
        let same =
        one-memory h₁ h₂ w₁ w₂ (step call m).next a.next b.next (p.size ∙ sym q.size)
        (rw p.size (p.tail ∙ sym q.tail)) in
        record {
          told =
              let e : t₁.answer ≡ t₂.answer = a.answer ∙ sym b.answer in
              let f : t₁.moves ≡ t₂.moves = a.moves ∙ sym b.moves in
              told_same t₁ t₂ e f;
          head = same.0;
          words = same.1;
        }

    -- Checked calls have one outcome on any head and words.
    pub one-checked : Checked call h w t₁ h₁ w₁ → Checked call h w t₂ h₂ w₂ → Same t₁ h₁ w₁ t₂ h₂ w₂
    one-checked p q =
        test (audit_test w h)
        (λ e. let m = sound-shown h w ((audit-decides w h).0 e) in one-quick m.model m.shows p.promise q.promise)
        (λ e.
        let none : (m : Model) → Shows h w m → ⊥ = λ m s. clash ((audit-decides w h).1 (shown-sound h w m s)) e in
        let a = p.broken none in
        let b = q.broken none in
        record { told = a.0 ∙ sym b.0; head = a.1 ∙ sym b.1; words = a.2 ∙ sym b.2 })

-- Calls that are not refused, and answer with a refusal, there are none.
accepted-stays : (call : Call) (m : Model) → is_refused (accepted_by call m).answer ≡ true → (accepted_by call m).next ≡ m
unfolding accepted_by is_refused
accepted-stays (Put key load) m r = clash r refl
accepted-stays First m r = refl
accepted-stays Take m r = clash r refl
accepted-stays (Rekey c k key) m r = clash r refl
accepted-stays (Remove c k) m r = clash r refl
accepted-stays (Arm e load) m r = refl
accepted-stays (Move c k e) m r = refl
accepted-stays (Cancel c k) m r = refl
accepted-stays (Advance t n) m r = refl
accepted-stays NextWake m r = refl

-- A call of the model that is refused leaves the model.
refused-stays : (call : Call) (m : Model) → is_refused (step call m).answer ≡ true → (step call m).next ≡ m
unfolding step
refused-stays call m =
    given-either (λ (x : Step). is_refused x.answer ≡ true → x.next ≡ m) _ _ (causes 64 6 call (as_plain m))
    (λ i r. refl)
    (λ f. accepted-stays call m)

-- A refusal hands back head and words unchanged.
pub refusal-leaves : (call : Call) (h : Head) (w : List ℕ) (t : Told) (h' : Head) (w' : List ℕ) (m : Model) → Shows h w m
    → Promise call h w t h' w' → is_refused t.answer ≡ true → (h' ≡ h) × (w' ≡ w)
refusal-leaves call h w t h' w' m s p r =
    let d = p.shown m s in
    let same : (step call m).next ≡ m = refused-stays call m (rw d.answer at r) in
    one-memory h' h w' w m (subst (λ (x : Model). Shows h' w' x) same d.next) s p.size (rw p.size p.tail)

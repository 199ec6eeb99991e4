-- Only one outcome meets a call's promise, and its answer is the plain list's. An advance has its own law.
-- Assumes nothing.
use Prim.Native.Nat.{ℕ}
use mathlib.Core.List.{List}
use mathlib.Core.Path.{◌≡◌, refl, sym, ap, ◌∙◌}
use Rattle.cells.proofs.Cases.{test, clash}
use Rattle.meaning.specs.Calls.{Call, Answer, result}
use Rattle.meaning.specs.Plain.{Plain}
use Rattle.slots.specs.Rings.{Lists}
use Rattle.dial.specs.Joined.{listed, step}
use Rattle.dial.proofs.Listed.{step-plain}
use Rattle.wheel_rules.specs.AuditTests.{audit_test}
use Rattle.wheel.specs.Promise.{head_lists, DialShows, Broken, Promise, Checked}
use Rattle.dial.specs.declared.state.Dial.{Dial}
use Rattle.wheel.specs.declared.head.Head.{Head}
use Rattle.wheel_rules.proofs.Audits.{audit-decides}
use Rattle.wheel_rules.proofs.OneMemory.{one-memory}
use Rattle.wheel_rules.proofs.ShownSound.{shown-sound}
use Rattle.wheel_rules.proofs.SoundShown.{sound-shown}

-- The same answer, head and words.
pub record Same (a : Answer) (h : Head) (w : List ℕ) (a' : Answer) (h' : Head) (w' : List ℕ) : Type 0 where
  pub answer : a ≡ a'
  pub head : h ≡ h'
  pub words : w ≡ w'

-- A head is its arrays and its numbers.
made : List ℕ → List ℕ → List ℕ → Dial → Head
made first last marks d = record { first = first; last = last; marks = marks; dial = d }

heads-same : (h h' : Head) (w w' : List ℕ) → head_lists h w ≡ head_lists h' w' → h.dial ≡ h'.dial → (h ≡ h') × (w ≡ w')
unfolding head_lists made
heads-same h h' w w' e q =
    let f = ap (λ (l : Lists). l.first) e in
    let g = ap (λ (l : Lists). l.last) e in
    let m = ap (λ (l : Lists). l.marks) e in
    let whole : made h.first h.last h.marks h.dial ≡ made h'.first h'.last h'.marks h'.dial = cc in
    (whole, ap (λ (l : Lists). l.words) e)

-- Where a model is shown the answer is the plain list's.
pub answers-plain : (call : Call) (l : Lists) (d : Dial) (a : Answer) (l' : Lists) (d' : Dial) (m : Plain) → Promise call l d a l' d'
    → (s : DialShows l d m) → a ≡ (result 64 6 call (listed m)).answer
answers-plain call l d a l' d' m p s = (p.shown m s).answer ∙ (step-plain call m s.valid.kept).0

module _ (call : Call) (h : Head) (w : List ℕ) (a₁ a₂ : Answer) (h₁ h₂ : Head) (w₁ w₂ : List ℕ) where
  -- Where a model is shown, quick calls have one outcome.
  pub one-quick : (m : Plain) → DialShows (head_lists h w) h.dial m
      → Promise call (head_lists h w) h.dial a₁ (head_lists h₁ w₁) h₁.dial
      → Promise call (head_lists h w) h.dial a₂ (head_lists h₂ w₂) h₂.dial
      → Same a₁ h₁ w₁ a₂ h₂ w₂
  unfolding head_lists
  one-quick m s p q =
      let a = p.shown m s in
      let b = q.shown m s in
      let same =
      one-memory (head_lists h₁ w₁) (head_lists h₂ w₂) h₁.dial h₂.dial (step call m).next a.next b.next refl refl
      (p.size ∙ sym q.size) (rw p.size (p.tail ∙ sym q.tail)) in
      let both = heads-same h₁ h₂ w₁ w₂ same.0 same.1 in
      record { answer = a.answer ∙ sym b.answer; head = both.0; words = both.1 }

  -- Checked calls have one outcome on any head and words.
  pub one-checked : Checked call h w a₁ h₁ w₁ → Checked call h w a₂ h₂ w₂ → Same a₁ h₁ w₁ a₂ h₂ w₂
  one-checked p q =
      let l : Lists = head_lists h w in
      let d : Dial = h.dial in
      test (audit_test l d)
      (λ e. let m = sound-shown l d ((audit-decides l d).0 e) in one-quick m.model m.shows p.promise q.promise)
      (λ e.
      let none : Broken l d = λ m s. clash ((audit-decides l d).1 (shown-sound l d m s)) e in
      let a = p.broken none in
      let b = q.broken none in
      record { answer = a.0 ∙ sym b.0; head = a.1 ∙ sym b.1; words = a.2 ∙ sym b.2 })

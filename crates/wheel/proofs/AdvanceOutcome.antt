-- Only one outcome meets an advance's promise, output included.
-- Assumes nothing.
use Prim.Native.Nat.{ℕ, zero, suc, ◌+◌, ◌-◌, ◌*◌, ◌<◌}
use native.Mathlib.Omega.{arith}
use mathlib.Core.List.{List, [], ◌∷◌}
use mathlib.Core.Path.{◌≡◌, refl, sym, ap, ◌∙◌}
use lib.ListN.{length, get_or, drop, length-drop}
use lib.Seq.{drop-drop}
use Rattle.std.specs.Prelude.{Result, Ok, Err}
use Rattle.cells.specs.Causes.{number_of, refusal_of}
use Rattle.cells.specs.declared.refusal.Refusal.{Refusal}
use Rattle.cells.proofs.Causes.{refusal-back}
use Rattle.cells.proofs.Cases.{test, clash}
use Rattle.meaning.specs.Calls.{Shown, Answer, Refused, is_refused, report_of}
use Rattle.slots.specs.Rings.{Lists}
use Rattle.wheel.specs.Answers.{told, record_in, records_in, report, reported, told_advance, written}
use Rattle.wheel_rules.specs.AuditTests.{audit_test}
use Rattle.wheel.specs.Promise.{head_lists, Broken, CheckedAdvance}
use Rattle.wheel.specs.declared.head.Advanced.{Advanced}
use Rattle.wheel.specs.declared.head.Advanced.TheVariants as advanced
use Rattle.dial.specs.declared.state.Dial.{Dial}
use Rattle.wheel.specs.declared.head.Head.{Head}
use Rattle.wheel_rules.proofs.Audits.{audit-decides}
use Rattle.wheel.proofs.Outcomes.{one-quick}
use Rattle.wheel_rules.proofs.ShownSound.{shown-sound}
use Rattle.wheel_rules.proofs.SoundShown.{sound-shown}

-- Lists that are as long, with the same first n numbers and the same rest, are one.
front : (n : ℕ) (xs ys : List ℕ) → length xs ≡ length ys → ((i : ℕ) → i < n → get_or xs i 0 ≡ get_or ys i 0) → drop n xs ≡ drop n ys → xs ≡ ys
front zero xs ys l f d = d
front (suc n) [] [] l f d = refl
front (suc n) [] (y ∷ ys) l f d = absurd (omega arith)
front (suc n) (x ∷ xs) [] l f d = absurd (omega arith)
front (suc n) (x ∷ xs) (y ∷ ys) l f d =
    let here : x ≡ y = f 0 (omega arith) in
    let rest : xs ≡ ys = front n xs ys (omega arith) (λ i k. f (suc i) (omega arith)) d in
    cc

-- There are as many records as are read.
records-count : (k : ℕ) (out : List ℕ) → length (records_in k out) ≡ k
unfolding records_in
records-count zero out = refl
records-count (suc k) out = ap suc (records-count k (drop 4 out))

-- The first number of a record, and so on.
four : (xs ys : List ℕ) → record_in xs ≡ record_in ys → (i : ℕ) → i < 4 → get_or xs i 0 ≡ get_or ys i 0
unfolding record_in
four xs ys e zero k = ap (λ (s : Shown). s.cell) e
four xs ys e (suc zero) k = ap (λ (s : Shown). s.ticket) e
four xs ys e (suc (suc zero)) k = ap (λ (s : Shown). s.key) e
four xs ys e (suc (suc (suc zero))) k = ap (λ (s : Shown). s.load) e
four xs ys e (suc (suc (suc (suc i)))) k = absurd (omega arith)

-- The first of a list of records, and the others.
first_of : List Shown → Shown → Shown
first_of [] x = x
first_of (s ∷ ss) x = s

others-of : List Shown → List Shown
others-of [] = []
others-of (s ∷ ss) = ss

-- What stands behind so many records and one more.
behind : (k : ℕ) (zs : List ℕ) → drop (k * 4) (drop 4 zs) ≡ drop (suc k * 4) zs
behind k zs =
    let same : 4 + k * 4 ≡ suc k * 4 = omega arith in
    drop-drop (k * 4) 4 zs ∙ ap (λ (n : ℕ). drop n zs) same

-- Outputs that are as long, with the same records and the same words behind them, are one.
outputs-same : (k : ℕ) (xs ys : List ℕ) → length xs ≡ length ys → records_in k xs ≡ records_in k ys → drop (k * 4) xs ≡ drop (k * 4) ys → xs ≡ ys
unfolding records_in first_of others-of
outputs-same zero xs ys l r d = d
outputs-same (suc k) xs ys l r d =
    let rest : drop 4 xs ≡ drop 4 ys =
    outputs-same k (drop 4 xs) (drop 4 ys)
    (length-drop 4 xs ∙ ap (λ (n : ℕ). n - 4) l ∙ sym (length-drop 4 ys))
    (ap others-of r)
    (behind k xs ∙ d ∙ sym (behind k ys)) in
    front 4 xs ys l (four xs ys (ap (λ (s : List Shown). first_of s (record_in xs)) r)) rest

-- The same records are as many, and then the outputs are the same.
reports-same : (k k' : ℕ) (xs ys out : List ℕ) → length xs ≡ length ys → records_in k xs ≡ records_in k' ys
    → drop (k * 4) xs ≡ drop (k * 4) out → drop (k' * 4) ys ≡ drop (k' * 4) out → (k ≡ k') × (xs ≡ ys)
reports-same k k' xs ys out l r p q =
    let same : k ≡ k' = sym (records-count k xs) ∙ ap length r ∙ records-count k' ys in
    let there : records_in k xs ≡ records_in k ys = r ∙ ap (λ (n : ℕ). records_in n ys) (sym same) in
    let rest : drop (k * 4) ys ≡ drop (k * 4) out =
    ap (λ (n : ℕ). drop (n * 4) ys) same ∙ q ∙ ap (λ (n : ℕ). drop (n * 4) out) (sym same) in
    (same, outputs-same k xs ys l there (p ∙ sym rest))

-- Two causes of one number are one.
one-cause : (r s : Refusal) → number_of r ≡ number_of s → r ≡ s
one-cause r s e = sym (refusal-back r) ∙ ap refusal_of e ∙ refusal-back s

-- The number of a refusal that is told.
refusal_in : Answer → ℕ
refusal_in (Refused i) = i
refusal_in a = 0

-- What an advance told, and the output it left, are determined by its answer and what stands behind the records.
told_same : (a a' : Result Advanced Refusal) (xs ys out : List ℕ) → length xs ≡ length ys → told_advance a xs ≡ told_advance a' ys
    → drop (written a * 4) xs ≡ drop (written a * 4) out → drop (written a' * 4) ys ≡ drop (written a' * 4) out → (a ≡ a') × (xs ≡ ys)
unfolding told_advance told reported written report is_refused report_of refusal_in
told_same (Err r) (Err s) xs ys out l e p q =
    let same : r ≡ s = one-cause r s (ap refusal_in e) in
    (ap (λ (c : Refusal). Err c) same, p ∙ sym q)
told_same (Err r) (Ok (advanced.Done k c v)) xs ys out l e p q = clash (ap is_refused (sym e)) refl
told_same (Err r) (Ok (advanced.More k c v)) xs ys out l e p q = clash (ap is_refused (sym e)) refl
told_same (Ok (advanced.Done k c v)) (Err r) xs ys out l e p q = clash (ap is_refused e) refl
told_same (Ok (advanced.More k c v)) (Err r) xs ys out l e p q = clash (ap is_refused e) refl
told_same (Ok (advanced.Done k c v)) (Ok (advanced.More k' c' v')) xs ys out l e p q = clash (ap (λ (b : Answer). (report_of b).done) (sym e)) refl
told_same (Ok (advanced.More k c v)) (Ok (advanced.Done k' c' v')) xs ys out l e p q = clash (ap (λ (b : Answer). (report_of b).done) e) refl
told_same (Ok (advanced.Done k c v)) (Ok (advanced.Done k' c' v')) xs ys out l e p q =
    let same = reports-same k k' xs ys out l (ap (λ (b : Answer). (report_of b).fired) e) p q in
    let clock : c ≡ c' = ap (λ (b : Answer). (report_of b).clock) e in
    let moves : v ≡ v' = ap (λ (b : Answer). (report_of b).moves) e in
    let count : k ≡ k' = same.0 in
    (cc, same.1)
told_same (Ok (advanced.More k c v)) (Ok (advanced.More k' c' v')) xs ys out l e p q =
    let same = reports-same k k' xs ys out l (ap (λ (b : Answer). (report_of b).fired) e) p q in
    let clock : c ≡ c' = ap (λ (b : Answer). (report_of b).clock) e in
    let moves : v ≡ v' = ap (λ (b : Answer). (report_of b).moves) e in
    let count : k ≡ k' = same.0 in
    (cc, same.1)

module _ (target : ℕ) (h : Head) (w out : List ℕ) (a₁ a₂ : Result Advanced Refusal) (h₁ h₂ : Head) (w₁ w₂ out₁ out₂ : List ℕ) where
  -- The same answer, head, words and output.
  pub record SameAdvance : Type 0 where
    pub answer : a₁ ≡ a₂
    pub head : h₁ ≡ h₂
    pub words : w₁ ≡ w₂
    pub output : out₁ ≡ out₂

  -- Checked advances have one outcome on any head, words and output.
  pub one-advance : CheckedAdvance target h w out a₁ h₁ w₁ out₁ → CheckedAdvance target h w out a₂ h₂ w₂ out₂ → SameAdvance
  one-advance p q =
      let l : Lists = head_lists h w in
      let d : Dial = h.dial in
      test (audit_test l d)
      (λ e.
      let m = sound-shown l d ((audit-decides l d).0 e) in
      let same =
      one-quick _ h w (told_advance a₁ out₁) (told_advance a₂ out₂) h₁ h₂ w₁ w₂ m.model m.shows
      p.advances.promise q.advances.promise in
      let told =
      told_same a₁ a₂ out₁ out₂ out (p.advances.room ∙ sym q.advances.room) same.answer
      (p.advances.beyond m.model m.shows) (q.advances.beyond m.model m.shows) in
      record { answer = told.0; head = same.head; words = same.words; output = told.1 })
      (λ e.
      let none : Broken l d = λ m s. clash ((audit-decides l d).1 (shown-sound l d m s)) e in
      let a = p.broken none in
      let b = q.broken none in
      record { answer = a.0 ∙ sym b.0; head = a.1 ∙ sym b.1; words = a.2 ∙ sym b.2; output = a.3 ∙ sym b.3 })

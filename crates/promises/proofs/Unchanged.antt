-- "A refusal hands back the head unchanged and every lent word unchanged, output included": of the code's calls.
-- Assumes nothing.
use Prim.Native.Nat.{ℕ, ◌*◌}
use native.Mathlib.Omega.{arith}
use mathlib.Core.Bool.{Bool, true, false, cond}
use mathlib.Core.List.{List, [], ◌∷◌}
use mathlib.Core.Path.{◌≡◌, refl, sym, subst}
use lib.ListN.{drop}
use Rattle.cells.proofs.Cases.{test, clash}
use Rattle.cells.specs.Store.{fresh_words}
use Rattle.meaning.specs.Plain.{Plain}
use Rattle.meaning.specs.Refusals.{Cause, first_of}
use Rattle.meaning.specs.Calls.{Call, Answer, is_refused, Outcome, causes, accepted, refused, outcome}
use Rattle.meaning.proofs.Given.{given-either}
use Rattle.slots.specs.Rings.{Lists}
use Rattle.dial.specs.Joined.{listed, joins, step}
use Rattle.queue.specs.Answers.{Told}
use Rattle.queue.specs.AuditTests as queue_audit
use Rattle.queue.specs.Model.{Model}
use Rattle.queue.specs.Promise as queue
use Rattle.queue.specs.SetUps as queue_set_ups
use Rattle.queue.specs.Shows as queue_shows
use Rattle.std.specs.Prelude.{Result, Ok, Err}
use Rattle.cells.specs.Causes.{refusal_of}
use Rattle.cells.specs.declared.refusal.Refusal.{Refusal}
use Rattle.queue.specs.declared.head.Head as queue_head
use Rattle.queue.proofs.Audits as queue_audits
use Rattle.queue.proofs.Outcomes.{refusal-leaves}
use Rattle.queue.proofs.ShownSound as queue_shown
use Rattle.queue.proofs.SoundShown as queue_sound
use Rattle.wheel.specs.Answers.{told, report, reported, told_advance, written}
use Rattle.wheel_rules.specs.AuditTests.{audit_test}
use Rattle.wheel.specs.Promise.{head_lists, DialShows, Broken, Promise, Advances, Checked, CheckedAdvance}
use Rattle.wheel.specs.SetUps.{set_up_causes, set_up_head, set_up_answer, set_up_words}
use Rattle.wheel.specs.declared.head.Advanced.{Advanced}
use Rattle.wheel.specs.declared.head.Advanced.TheVariants as advanced
use Rattle.dial.specs.declared.state.Dial.{Dial}
use Rattle.wheel.specs.declared.head.Head.{Head}
use Rattle.wheel_rules.proofs.Audits.{audit-decides}
use Rattle.wheel.proofs.Outcomes.{one-quick}
use Rattle.wheel_rules.proofs.ShownSound.{shown-sound}
use Rattle.wheel_rules.proofs.SoundShown.{sound-shown}
use Rattle.promises.specs.Made.{Lent}
use Rattle.promises.specs.QueueRuns as queue_runs
use Rattle.promises.specs.WheelRuns.{OneCall, Holds}
use Rattle.promises.proofs.Refusals.{accepted-accepts}
use Rattle.promises.proofs.CodeRuns.{lent_same}
use Rattle.promises.proofs.QueueDemands as queue_demands
use Rattle.promises.proofs.WheelDemands.{promised}

-- Where a set-up is refused, what stands beside its answer is what stands there for a refusal.
refused-beside : {A B : Type 0} (refuse : ℕ → A) (accept : A) (x y : B) (told : A) → (accept ≡ told → ⊥) → (cs : List Cause)
    → first_of cs refuse accept ≡ told
    → first_of cs (λ j. x) y ≡ x
unfolding first_of
refused-beside refuse accept x y told n [] e = absurd (n e)
refused-beside refuse accept x y told n (c ∷ cs) e = go c.applies e (refused-beside refuse accept x y told n cs)
  where
    go : (t : Bool) → cond t (refuse c.number) (first_of cs refuse accept) ≡ told
        → (first_of cs refuse accept ≡ told → first_of cs (λ j. x) y ≡ x)
        → cond t x (first_of cs (λ j. x) y) ≡ x
    go true q f = refl
    go false q f = f q

-- Of the queue's set-up, and of the wheel's.
pub queue-set-up-refusal : (w : List ℕ) (d : ℕ) (r : Refusal) → queue_set_ups.set_up_answer w d ≡ Err r → queue_set_ups.set_up_words w d ≡ w
unfolding queue_set_ups.set_up_answer queue_set_ups.set_up_words
queue-set-up-refusal w d r e =
    refused-beside (λ j. Err (refusal_of j)) (Ok (queue_set_ups.fresh_head w d)) w (fresh_words w) (Err r)
    (λ q. let z : ◌≡◌ {A = ℕ} 0 1 = cc in omega arith) (queue_set_ups.set_up_causes w d) e

pub wheel-set-up-refusal : (w : List ℕ) (t : ℕ) (r : Refusal) → set_up_answer w t ≡ Err r → set_up_words w t ≡ w
unfolding set_up_answer set_up_words
wheel-set-up-refusal w t r e =
    refused-beside (λ j. Err (refusal_of j)) (Ok (set_up_head w t)) w (fresh_words w) (Err r)
    (λ q. let z : ◌≡◌ {A = ℕ} 0 1 = cc in omega arith) (set_up_causes w t) e

-- Head and words of a queue show a model or none.
pub queue-shown? : {P : Type 0} (h : queue_head.Head) (w : List ℕ) → ((m : Model) → queue_shows.Shows h w m → P)
    → (((m : Model) → queue_shows.Shows h w m → ⊥) → P)
    → P
queue-shown? h w f g =
    test (queue_audit.audit_test w h)
    (λ e. let m = queue_sound.sound-shown h w ((queue_audits.audit-decides w h).0 e) in f m.model m.shows)
    (λ e. g (λ m s. clash ((queue_audits.audit-decides w h).1 (queue_shown.shown-sound h w m s)) e))

-- Of the queue, checked: on any head and words whatever.
pub queue-checked-refusal : (call : Call) (h : queue_head.Head) (w : List ℕ) (t : Told) (h' : queue_head.Head) (w' : List ℕ)
    → queue.Checked call h w t h' w'
    → is_refused t.answer ≡ true
    → (h' ≡ h) × (w' ≡ w)
queue-checked-refusal call h w t h' w' p r =
    queue-shown? h w (λ m s. refusal-leaves call h w t h' w' m s p.promise r) (λ none. let b = p.broken none in (b.1, b.2))

-- Of the queue, quick or checked, where a list is held: as after any calls from a set-up on.
pub queue-refusal : (call : Call) (s : Lent queue_head.Head) (t : Told) (s' : Lent queue_head.Head) (p : Plain) → queue_runs.OneCall call s t s'
    → queue_runs.Holds s p
    → is_refused t.answer ≡ true
    → s' ≡ s
queue-refusal call s t s' p one h r =
    let same =
    refusal-leaves call s.head s.words t s'.head s'.words h.model h.shows (queue_demands.promised call s t s' one).1 r in
    lent_same s' s same.0 same.1

-- A step of the wheel's model that is refused leaves the model.
step_stays : (call : Call) (m : Plain) → is_refused (step call m).answer ≡ true → (step call m).next ≡ m
unfolding step outcome refused joins
step_stays call m =
    given-either (λ (o : Outcome). is_refused o.answer ≡ true → joins o.change m ≡ m) refused (accepted 64 6 call (listed m))
    (causes 64 6 call (listed m))
    (λ i e. refl)
    (λ f e. clash e (accepted-accepts 64 6 (listed m) call))

-- So a promise that is kept with a refusal is kept by leaving everything as it was.
stays-promised : (call : Call) (l : Lists) (d : Dial) (a : Answer) (l' : Lists) (d' : Dial) → Promise call l d a l' d' → is_refused a ≡ true
    → Promise call l d a l d
stays-promised call l d a l' d' p r =
    record {
      size = refl;
      tail = refl;
      shown =
          λ m s.
          let done = p.shown m s in
          record {
            answer = done.answer;
            next =
                subst (λ (x : Plain). DialShows l d x)
                (sym (step_stays call m (subst (λ (x : Answer). is_refused x ≡ true) done.answer r)))
                s;
          };
    }

-- An advance that is refused has written no record.
none_written : (r : Result Advanced Refusal) (out : List ℕ) → is_refused (told_advance r out) ≡ true → written r ≡ 0
unfolding told_advance told reported report is_refused written
none_written (Err x) out e = refl
none_written (Ok (advanced.Done k c v)) out e = clash e refl
none_written (Ok (advanced.More k c v)) out e = clash e refl

module _ (h : Head) (w : List ℕ) (h' : Head) (w' : List ℕ) where
  -- Of the wheel, quick or in place, where a model is shown.
  pub wheel-quick-refusal : (call : Call) (a : Answer) (m : Plain) → DialShows (head_lists h w) h.dial m
      → Promise call (head_lists h w) h.dial a (head_lists h' w') h'.dial
      → is_refused a ≡ true
      → (h' ≡ h) × (w' ≡ w)
  wheel-quick-refusal call a m s p r =
      let same =
      one-quick call h w a a h' h w' w m s p
      (stays-promised call (head_lists h w) h.dial a (head_lists h' w') h'.dial p r) in
      (same.head, same.words)

  -- Of a quick advance there: "output included".
  pub advance-refusal : (target : ℕ) (out : List ℕ) (r : Result Advanced Refusal) (out' : List ℕ) (m : Plain) → DialShows (head_lists h w) h.dial m
      → Advances target (head_lists h w) h.dial out r (head_lists h' w') h'.dial out'
      → is_refused (told_advance r out') ≡ true
      → (h' ≡ h) × (w' ≡ w) × (out' ≡ out)
  advance-refusal target out r out' m s p e =
      let same = wheel-quick-refusal _ (told_advance r out') m s p.promise e in
      let kept : drop (0 * 4) out' ≡ drop (0 * 4) out =
      subst (λ (k : ℕ). drop (k * 4) out' ≡ drop (k * 4) out) (none_written r out' e) (p.beyond m s) in
      (same.0, same.1, kept)

  -- Head and words of a wheel show a model or none.
  wheel-shown? : {P : Type 0} → ((m : Plain) → DialShows (head_lists h w) h.dial m → P) → (Broken (head_lists h w) h.dial → P) → P
  wheel-shown? f g =
      let l : Lists = head_lists h w in
      let d : Dial = h.dial in
      test (audit_test l d)
      (λ e. let m = sound-shown l d ((audit-decides l d).0 e) in f m.model m.shows)
      (λ e. g (λ m s. clash ((audit-decides l d).1 (shown-sound l d m s)) e))

  -- Of the wheel, checked: on any head and words whatever.
  pub wheel-checked-refusal : (call : Call) (a : Answer) → Checked call h w a h' w' → is_refused a ≡ true → (h' ≡ h) × (w' ≡ w)
  wheel-checked-refusal call a p r =
      wheel-shown? (λ m s. wheel-quick-refusal call a m s p.promise r) (λ none. let b = p.broken none in (b.1, b.2))

  -- Of a checked advance, on any head, words and output whatever.
  pub checked-advance-refusal : (target : ℕ) (out : List ℕ) (r : Result Advanced Refusal) (out' : List ℕ) → CheckedAdvance target h w out r h' w' out'
      → is_refused (told_advance r out') ≡ true
      → (h' ≡ h) × (w' ≡ w) × (out' ≡ out)
  checked-advance-refusal target out r out' p e =
      wheel-shown? (λ m s. advance-refusal target out r out' m s p.advances e)
      (λ none. let b = p.broken none in (b.1, b.2, b.3))

-- Of the wheel, quick or checked, where a list is held: as after any calls from a set-up on.
pub wheel-refusal : (call : Call) (s : Lent Head) (a : Answer) (s' : Lent Head) (p : Plain) → OneCall call s a s' → Holds s p → is_refused a ≡ true
    → s' ≡ s
wheel-refusal call s a s' p one h r =
    let same =
    wheel-quick-refusal s.head s.words s'.head s'.words call a h.model h.shows (promised call s a s' one).1 r in
    lent_same s' s same.0 same.1

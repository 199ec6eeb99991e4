-- What the store's and the dial's calls did comes to the promises of arm, cancel and move: one law for each way that a call may end.
-- Assumes nothing.
use Prim.Native.Nat.{ℕ, ◌≤◌, ◌<◌}
use mathlib.Core.Bool.{true, false}
use mathlib.Core.List.{List}
use mathlib.Core.Path.{◌≡◌, refl, sym, ap, subst, ◌∙◌}
use Rattle.cells.specs.Words.{word, put_word}
use Rattle.cells.specs.Store.{no_free, spent, holds_ticket, entered, draw_answer, draw_store, claim_answer, claim_store, claim_words, release_words, release_store}
use Rattle.cells.specs.declared.store.Store.{Store}
use Rattle.cells.specs.declared.store.Handle as cells_handle
use Rattle.cells.specs.declared.refusal.Refusal.{Refusal}
use Rattle.cells.specs.declared.refusal.Refusal.TheVariants as refusal
use Rattle.std.specs.Prelude.{Result, Ok, Err}
use borrow.Author.Tests.{le-leb, lt-leb, le-ltb, lt-ltb}
use Rattle.cells.proofs.Cases.{test, at_most?}
use Rattle.cells.proofs.Claims.{claim-full, claim-spent, claim-taken, draw-spent, draw-taken}
use Rattle.cells.proofs.Framed.{Framed, framed-none, framed-on, framed-put, entered-framed, released-framed}
use Rattle.meaning.specs.Calls.{Call, Arm, Move, Cancel, Answer, Refused, Handle, Changed}
use Rattle.meaning.specs.Plain.{Plain}
use Rattle.places.specs.Ticks.{last_tick}
use Rattle.slots.specs.Rings.{Lists}
use Rattle.slots.specs.Stand.{join_at, leave_at}
use Rattle.slots.specs.declared.ring.Ends.{Ends}
use Rattle.slots.proofs.Framing.{join-framed, leave-framed}
use Rattle.dial.specs.Joined.{step}
use Rattle.dial.specs.Shows.{Shows}
use Rattle.dial.specs.Turns.{list_of, with_words}
use Rattle.wheel.specs.Answers.{told, told_arm, told_move, told_cancel}
use Rattle.wheel.specs.Promise.{DialShows, Done, Promise}
use Rattle.wheel.specs.Refiled.{timely, refiled_lists}
use Rattle.dial.specs.declared.state.Dial.{Dial}
use Rattle.wheel.proofs.CallsShown.{arm-beyond, arm-past, arm_full, arm-spent, arm_done, cancel-stale, cancel-done, move-stale, move-beyond, move-past, move-spent, move-done}

-- As many words and the same last ones, and what is done where a model is shown: that is a promise.
framed-promise : (call : Call) (l : Lists) (d : Dial) (a : Answer) (l' : Lists) (d' : Dial) → Framed l.words l'.words
    → ((m : Plain) → DialShows l d m → Done call m a l' d') → Promise call l d a l' d'
framed-promise call l d a l' d' f shown = record { size = f.size; tail = f.tail; shown = shown }

-- A call that leaves all as it was.
pub stays : (call : Call) (l : Lists) (d : Dial) (a : Answer) → ((m : Plain) → DialShows l d m → Done call m a l d) → Promise call l d a l d
stays call l d a shown = framed-promise call l d a l d (framed-none l.words) shown

-- What a call did is told by its lists, its clock and its store.
done-same : (call : Call) (m : Plain) (a : Answer) (l l' : Lists) (d d' : Dial) → l ≡ l' → d.clock ≡ d'.clock → d.store ≡ d'.store
    → Done call m a l d → Done call m a l' d'
done-same call m a l l' d d' p q r done =
    record {
      answer = done.answer;
      next =
          subst (λ (x : Lists). Shows x d'.clock d'.store (step call m).next) p
          (subst (λ (t : ℕ). Shows l t d'.store (step call m).next) q
          (subst (λ (s : Store). Shows l d.clock s (step call m).next) r done.next));
    }

-- A deadline that passes its test is at most the last tick, and after the clock.
timely-is : (t e : ℕ) (u : Unit) → Ok u ≡ timely t e → (e ≤ 68719476735) × (t < e)
unfolding timely last_tick
timely-is t e u p =
    at_most? e 68719476735
    (λ most. at_most? e t
    (λ past. let known = rw (le-ltb 68719476735 e most, le-leb e t past) at p in absurd cc)
    (λ after. (most, after)))
    (λ high. let known = rw (lt-ltb 68719476735 e high) at p in absurd cc)

-- A call that refuses a deadline by its test promises what it promises for each of the two causes.
untimely : {A : Type 0} (P : Answer → Type 0) (say : A → Answer) (a : Result A Refusal) (r : Refusal) (t e : ℕ)
    → Err r ≡ timely t e → a ≡ Err r
    → (68719476735 < e → P (Refused 5)) → (e ≤ 68719476735 → e ≤ t → P (Refused 3)) → P (told say a)
unfolding timely last_tick told
untimely P say a r t e p q beyond past =
    at_most? e 68719476735
    (λ most. at_most? e t
    (λ low.
    let known = rw (le-ltb 68719476735 e most, le-leb e t low) at p in
    let cause : r ≡ refusal.NotAfter = cc in
    rw (q, cause) (past most low))
    (λ after. let known = rw (le-ltb 68719476735 e most, lt-leb e t after) at p in absurd cc))
    (λ high.
    let known = rw (lt-ltb 68719476735 e high) at p in
    let cause : r ≡ refusal.Beyond = cc in
    rw (q, cause) (beyond high))

module _ (l : Lists) (d : Dial) (e load : ℕ) where
  -- A deadline that is refused.
  pub arm-late : (a : Result cells_handle.Handle Refusal) (r : Refusal) → Err r ≡ timely d.clock e → a ≡ Err r
      → Promise (Arm e load) l d (told_arm a) l d
  unfolding told_arm
  arm-late a r p q =
      untimely (λ (b : Answer). Promise (Arm e load) l d b l d) (λ h. Handle h.cell h.ticket) a r d.clock e p q
      (λ g. stays (Arm e load) l d (Refused 5) (λ m s. arm-beyond l d m s e load g))
      (λ most g. stays (Arm e load) l d (Refused 3) (λ m s. arm-past l d m s e load most g))

  module _ (u : Unit) (timed : Ok u ≡ timely d.clock e) where
    most : e ≤ 68719476735
    most = (timely-is d.clock e u timed).0

    after : d.clock < e
    after = (timely-is d.clock e u timed).1

    -- An arm that the store refused: its words and the store are as they were.
    pub arm-refused : (a : Result cells_handle.Handle Refusal) (r : Refusal) (store : Store) (w : List ℕ)
        → Err r ≡ claim_answer d.store → a ≡ Err r
        → store ≡ claim_store l.words d.store → w ≡ claim_words l.words d.store e load
        → Promise (Arm e load) l d (told_arm a) (with_words l w) (record { clock = d.clock; due = d.due; store = store })
    unfolding with_words told_arm told
    arm-refused a r store w p q st x =
        test (no_free d.store)
        (λ none.
        let known = claim-full l.words d.store e load none in
        let six : a ≡ Err refusal.Full = cc in
        rw (x, known.2, st, known.1, six) (stays (Arm e load) l d (Refused 6) (λ m s. arm_full l d m s e load most after none)))
        (λ some.
        test (spent d.store)
        (λ full.
        let known = claim-spent l.words d.store e load some full in
        let eight : a ≡ Err refusal.Spent = cc in
        rw (x, known.2, st, known.1, eight) (stays (Arm e load) l d (Refused 8) (λ m s. arm-spent l d m s e load most after some full)))
        (λ left.
        let known = claim-taken l.words d.store e load some left in
        absurd cc))

    -- An arm that took a cell, which then joined the list of its deadline.
    pub arm-armed : (at : cells_handle.Handle) (store : Store) (w : List ℕ) (i : ℕ) (l' : Lists) (due : Ends)
        → Ok at ≡ claim_answer d.store → store ≡ claim_store l.words d.store
        → w ≡ claim_words l.words d.store e load → i ≡ list_of d.clock e → l' ≡ join_at (with_words l w) i at.cell
        → Promise (Arm e load) l d (told_arm (Ok at)) l' (record { clock = d.clock; due = due; store = store })
    unfolding told_arm told
    arm-armed at store w i l' due p st x place joins =
        let y : l' ≡ join_at (with_words l w) (list_of d.clock e) at.cell = joins ∙ ap (λ (j : ℕ). join_at (with_words l w) j at.cell) place in
        test (no_free d.store)
        (λ none.
        let known = claim-full l.words d.store e load none in
        absurd cc)
        (λ some.
        test (spent d.store)
        (λ full.
        let known = claim-spent l.words d.store e load some full in
        absurd cc)
        (λ left.
        let known = claim-taken l.words d.store e load some left in
        let cell : ◌≡◌ {A = ℕ} at.cell d.store.free = cc in
        let ticket : ◌≡◌ {A = ℕ} at.ticket d.store.counter = cc in
        let first : Framed l.words w = rw (x, known.2) (entered-framed l.words d.store.free d.store.counter e load) in
        let second : Framed w (join_at (with_words l w) (list_of d.clock e) at.cell).words =
        unfold with_words in join-framed (with_words l w) (list_of d.clock e) at.cell in
        framed-promise (Arm e load) l d _ l' _ (rw y (framed-on l.words w _ first second))
        (λ m s.
        rw (cell, ticket)
        (done-same (Arm e load) m _ _ l' _ _
        (sym (y ∙ ap (λ (v : List ℕ). join_at (with_words l v) (list_of d.clock e) at.cell) (x ∙ known.2)
        ∙ ap (λ (b : ℕ). join_at (with_words l (entered l.words d.store.free d.store.counter e load)) (list_of d.clock e) b) cell))
        refl (sym (st ∙ known.1))
        (arm_done l d m s e load most after some left)))))

module _ (l : Lists) (d : Dial) (c k : ℕ) where
  -- A handle that names nothing.
  pub cancel-refused : holds_ticket l.words d.store c k ≡ false → Promise (Cancel c k) l d (told_cancel (Err refusal.Stale)) l d
  unfolding told_cancel told
  cancel-refused f = stays (Cancel c k) l d (Refused 7) (λ m s. cancel-stale l d m s c k f)

  -- The timer that the handle names leaves its list, and its cell is given back.
  pub cancelled : (x key i : ℕ) (l₁ : Lists) (w : List ℕ) (due : Ends) (store : Store) (l₂ : Lists) → holds_ticket l.words d.store c k ≡ true
      → x ≡ word l.words c 3 → key ≡ word l.words c 2 → i ≡ list_of d.clock key
      → l₁ ≡ leave_at l i c → store ≡ release_store d.store c → w ≡ release_words l₁.words d.store c → l₂ ≡ with_words l₁ w
      → Promise (Cancel c k) l d (told_cancel (Ok x)) l₂ (record { clock = d.clock; due = due; store = store })
  unfolding with_words told_cancel told
  cancelled x key i l₁ w due store l₂ t ex ek ei el es ew e₂ =
      let list : i ≡ list_of d.clock (word l.words c 2) = ei ∙ ap (list_of d.clock) ek in
      let left : l₁ ≡ leave_at l (list_of d.clock (word l.words c 2)) c = el ∙ ap (λ (j : ℕ). leave_at l j c) list in
      rw e₂
      (framed-promise (Cancel c k) l d _ _ _
      (rw ew (framed-on l.words l₁.words _ (rw el (leave-framed l i c)) (released-framed l₁.words d.store c)))
      (λ m s.
      rw ex
      (done-same (Cancel c k) m _ _ _ _ _
      (sym (ap (λ (v : List ℕ). with_words l₁ v) ew ∙ ap (λ (y : Lists). with_words y (release_words y.words d.store c)) left))
      refl (sym es) (cancel-done l d m s c k t))))

  module _ (e : ℕ) where
    pub move-refused : holds_ticket l.words d.store c k ≡ false → Promise (Move c k e) l d (told_move (Err refusal.Stale)) l d
    unfolding told_move told
    move-refused f = stays (Move c k e) l d (Refused 7) (λ m s. move-stale l d m s c k e f)

    module _ (t : holds_ticket l.words d.store c k ≡ true) where
      pub move-late : (a : Result Unit Refusal) (r : Refusal) → Err r ≡ timely d.clock e → a ≡ Err r → Promise (Move c k e) l d (told_move a) l d
      unfolding told_move
      move-late a r p q =
          untimely (λ (b : Answer). Promise (Move c k e) l d b l d) (λ v. Changed) a r d.clock e p q
          (λ g. stays (Move c k e) l d (Refused 5) (λ m s. move-beyond l d m s c k e t g))
          (λ most g. stays (Move c k e) l d (Refused 3) (λ m s. move-past l d m s c k e t most g))

      module _ (u : Unit) (timed : Ok u ≡ timely d.clock e) where
        most-here : e ≤ 68719476735
        most-here = (timely-is d.clock e u timed).0

        after-here : d.clock < e
        after-here = (timely-is d.clock e u timed).1

        -- A counter that is spent.
        pub move-full : (a : Result Unit Refusal) (r : Refusal) (store : Store)
            → Err r ≡ draw_answer d.store → a ≡ Err r → store ≡ draw_store d.store
            → Promise (Move c k e) l d (told_move a) l (record { clock = d.clock; due = d.due; store = store })
        unfolding told_move told
        move-full a r store p q st =
            test (spent d.store)
            (λ full.
            let known = draw-spent d.store full in
            let eight : a ≡ Err refusal.Spent = cc in
            rw (st, known.1, eight) (stays (Move c k e) l d (Refused 8) (λ m s. move-spent l d m s c k e t most-here after-here full)))
            (λ left.
            let known = draw-taken d.store left in
            absurd cc)

        -- The timer that the handle names goes to the list of its new deadline.
        pub moved : (d' : Dial) (order : ℕ) (l' : Lists) → Ok order ≡ draw_answer d.store
            → d'.store ≡ draw_store d.store → d'.clock ≡ d.clock → l' ≡ refiled_lists l d.clock c order e
            → Promise (Move c k e) l d (told_move (Ok u)) l' d'
        unfolding refiled_lists with_words told_move told
        moved d' order l' p es et el =
            test (spent d.store)
            (λ full.
            let known = draw-spent d.store full in
            absurd cc)
            (λ left.
            let known = draw-taken d.store left in
            let number : ◌≡◌ {A = ℕ} order d.store.counter = cc in
            let l₁ : Lists = leave_at l (list_of d.clock (word l.words c 2)) c in
            let w₂ : List ℕ = put_word (put_word l₁.words c 1 order) c 2 e in
            let kept : Framed l.words w₂ =
            framed-on l.words l₁.words w₂ (leave-framed l (list_of d.clock (word l.words c 2)) c)
            (framed-on l₁.words _ w₂ (framed-put l₁.words c 1 order) (framed-put _ c 2 e)) in
            framed-promise (Move c k e) l d _ l' _
            (rw el (framed-on l.words w₂ _ kept (join-framed (with_words l₁ w₂) (list_of d.clock e) c)))
            (λ m s.
            done-same (Move c k e) m _ _ l' _ _
            (sym (el ∙ ap (λ (o : ℕ). refiled_lists l d.clock c o e) number))
            (sym et) (sym (es ∙ known.1)) (move-done l d m s c k e t most-here after-here left)))

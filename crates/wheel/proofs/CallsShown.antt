-- What arm, move and cancel make of a model that lists and numbers show.
-- Assumes nothing.
use Prim.Native.Nat.{ℕ, ◌+◌, ◌≤◌, ◌<◌}
use native.Mathlib.Omega.{arith}
use mathlib.Core.Bool.{true, false}
use mathlib.Core.Option.{some}
use mathlib.Core.Path.{◌≡◌, refl, sym, ap, subst, ◌∙◌}
use borrow.Author.Tests.{le-leb, lt-leb, le-ltb, lt-ltb}
use Rattle.cells.specs.Lists.{times}
use Rattle.cells.specs.Words.{word, put_word}
use Rattle.cells.specs.Store.{no_free, spent, holds_ticket, entered, release_words, release_store}
use Rattle.cells.proofs.Lists.{all_map}
use Rattle.cells.proofs.Sums.{all-standing, standing-below}
use Rattle.meaning.specs.Entries.{Entry, named}
use Rattle.meaning.specs.Plain.{Plain, top, files, refiles, frees}
use Rattle.meaning.specs.Refusals as refusals
use Rattle.meaning.specs.Refusals.{first_of, is_empty, is_none, beyond, not_after, full, stale}
use Rattle.meaning.specs.Calls.{Call, Arm, Move, Cancel, Refused, Handle, Changed, Load, Answer, causes, filing, refiling, freeing, accepted, refused, outcome}
use Rattle.meaning.proofs.Allowed.{found}
use Rattle.meaning.proofs.Handles.{names-own, named-names, named-all}
use Rattle.meaning.proofs.HandleTest.{Bearing, test-held, test-lost}
use Rattle.meaning.proofs.Stack.{empty-top}
use Rattle.places.specs.Ticks.{last_tick}
use Rattle.slots.specs.Rings.{Lists}
use Rattle.slots.specs.Stand.{join_at, leave_at}
use Rattle.dial.specs.Joined.{listed, joins, Valid, Step, step}
use Rattle.dial.specs.Turns.{list_of, with_words}
use Rattle.dial.specs.Shows.{Carried, Shows}
use Rattle.dial.proofs.Facts.{facts}
use Rattle.dial.proofs.FiledShown.{arm-shows, move-shows, stack_top}
use Rattle.dial.proofs.Leaving.{leave-shows}
use Rattle.dial.proofs.Listed.{listed-named}
use Rattle.dial.proofs.StableKept.{valid-step}
use Rattle.wheel.specs.Promise.{DialShows, Done}
use Rattle.wheel.specs.Refiled.{refiled_lists}
use Rattle.dial.specs.declared.state.Dial.{Dial}

-- The numbers after an arm that took the top of the free stack; the due list is left.
abbrev pub armed_dial : Lists → Dial → Dial
armed_dial l d =
    record {
      clock = d.clock;
      due = l.due;
      store = record { cells = d.store.cells; free = word l.words d.store.free 4; counter = d.store.counter + 1 };
    }

-- A call is done if its answer and what is shown afterwards are those of the model's step, whatever that is.
pub done-by : (call : Call) (m : Plain) (a : Answer) (l : Lists) (d : Dial) (x : Step) → step call m ≡ x → a ≡ x.answer
    → DialShows l d x.next → Done call m a l d
done-by call m a l d x e p z = record {
  answer = p ∙ ap (λ (y : Step). y.answer) (sym e);
  next = subst (λ (y : Step). DialShows l d y.next) (sym e) z;
}

module _ (l : Lists) (d : Dial) (m : Plain) (s : DialShows l d m) where
  -- A call that the model refuses leaves all, which shows the same model.
  pub refused-done : (call : Call) (i : ℕ) → step call m ≡ record { answer = Refused i; next = m } → Done call m (Refused i) l d
  refused-done call i e = done-by call m (Refused i) l d _ e refl s

  -- The test for a free cell, in the head and in the model.
  pub no-free-shown : no_free d.store ≡ is_empty m.free
  unfolding no_free
  no-free-shown =
      let f = facts m s.valid in
      rw s.cells
      (empty-top _ m.cells d.store.free m.free f.limit
      (all-standing _ m.free (λ c p. standing-below c m.cells (times c m.free) (omega (arith, f.split c)) p)) s.free)

  -- The words tell of each cell whose it is.
  bearing : Bearing l.words d.store.cells m.entries m.free
  bearing =
      let f = facts m s.valid in
      record {
        split = λ c. rw s.cells (f.split c);
        inside = all_map (λ e p. omega (arith, s.cells)) m.entries f.inside;
        tickets = all_map (λ e r. r.ticket) m.entries s.entries;
        issued = all_map (λ e r. r.some) m.entries f.numbered;
        blank = λ c p. s.blank c 0 p (omega arith);
      }

  -- The entry that a handle names, if it passes the test on the words.
  pub held : (c k : ℕ) → holds_ticket l.words d.store c k ≡ true → (e : Entry) × (named c k m.entries ≡ some e)
  held c k t = found (named c k m.entries) (test-held l.words d.store m.entries m.free bearing c k t)

  -- It names none if it fails.
  pub lost : (c k : ℕ) → holds_ticket l.words d.store c k ≡ false → is_none (named c k (listed m).entries) ≡ true
  lost c k f =
      ap is_none (sym (listed-named m s.valid.kept c k))
      ∙ test-lost l.words d.store m.entries m.free bearing c k f

  -- The plain list names it too.
  pub live : (c k : ℕ) (e : Entry) → named c k m.entries ≡ some e → named c k (listed m).entries ≡ some e
  live c k e q = sym (listed-named m s.valid.kept c k) ∙ q

  module _ (e load : ℕ) where
    -- A deadline above the last tick.
    pub arm-beyond : 68719476735 < e → Done (Arm e load) m (Refused 5) l d
    unfolding step outcome causes first_of beyond last_tick refused joins
    arm-beyond k = refused-done (Arm e load) 5 (rw (lt-ltb 68719476735 e k))

    module _ (most : e ≤ 68719476735) where
      -- A deadline at or below the clock.
      pub arm-past : e ≤ d.clock → Done (Arm e load) m (Refused 3) l d
      unfolding step outcome causes first_of beyond not_after last_tick refused joins listed
      arm-past k = refused-done (Arm e load) 3 (rw (le-ltb 68719476735 e most, le-leb e m.clock (omega (arith, s.clock))))

      module _ (after : d.clock < e) where
        -- No cell is free.
        pub arm_full : no_free d.store ≡ true → Done (Arm e load) m (Refused 6) l d
        unfolding step outcome causes first_of beyond not_after full last_tick refused joins listed
        arm_full t =
            refused-done (Arm e load) 6
            (rw (le-ltb 68719476735 e most, lt-leb e m.clock (omega (arith, s.clock)), sym no-free-shown ∙ t))

        module _ (some-free : no_free d.store ≡ false) where
          -- The counter is spent.
          pub arm-spent : spent d.store ≡ true → Done (Arm e load) m (Refused 8) l d
          unfolding step outcome causes first_of beyond not_after full refusals.spent last_tick refused joins listed spent
          arm-spent t =
              refused-done (Arm e load) 8
              (rw (le-ltb 68719476735 e most, lt-leb e m.clock (omega (arith, s.clock)), sym no-free-shown ∙ some-free, rw s.counter at t))

          -- The call is accepted.
          arm_step : spent d.store ≡ false
              → step (Arm e load) m ≡ record { answer = Handle d.store.free d.store.counter; next = joins (files e load) m }
          unfolding step outcome causes first_of beyond not_after full refusals.spent last_tick listed spent accepted filing
          arm_step t =
              let first : top m.free ≡ d.store.free = (stack_top _ _ m.free s.free (sym no-free-shown ∙ some-free)).0 in
              rw (le-ltb 68719476735 e most, lt-leb e m.clock (omega (arith, s.clock)), sym no-free-shown ∙ some-free, rw s.counter at t)
              (cc (first, s.counter))

          -- A timer is armed.
          pub arm_done : spent d.store ≡ false
              → Done (Arm e load) m (Handle d.store.free d.store.counter)
              (join_at (with_words l (entered l.words d.store.free d.store.counter e load)) (list_of d.clock e) d.store.free)
              (armed_dial l d)
          arm_done t =
              let x = arm_step t in
              let valid = subst (λ (y : Step). Valid y.next) x (valid-step (Arm e load) m tt s.valid) in
              done-by (Arm e load) m _ _ _ _ x refl
              (subst (λ (c : ℕ). DialShows (join_at (with_words l (entered l.words d.store.free d.store.counter e load)) (list_of c e) d.store.free) (armed_dial l d) (joins (files e load) m))
              (sym s.clock) (arm-shows l d.clock d.store m s e load (sym no-free-shown ∙ some-free) valid))

  module _ (c k : ℕ) where
    -- A handle that names nothing.
    pub cancel-stale : holds_ticket l.words d.store c k ≡ false → Done (Cancel c k) m (Refused 7) l d
    unfolding step outcome causes first_of stale refused joins
    cancel-stale t = refused-done (Cancel c k) 7 (rw (lost c k t))

    -- The lists after cell c left the list of its deadline.
    abbrev left_lists : Lists
    left_lists = leave_at l (list_of d.clock (word l.words c 2)) c

    module _ (held-here : holds_ticket l.words d.store c k ≡ true) where
      -- The deadline of the entry that the handle names is told by its cell, and so is its load.
      told-by : (e : Entry) → named c k m.entries ≡ some e → (word l.words c 2 ≡ e.key) × (word l.words c 3 ≡ e.load)
      told-by e q =
          let own = names-own c k e (named-names c k e m.entries q) in
          let carried = named-all c k (Carried l.words) e m.entries q s.entries in
          (rw own.0 at carried.deadline, rw own.0 at carried.load)

      -- A timer is cancelled.
      pub cancel-done : Done (Cancel c k) m (Load (word l.words c 3))
          (with_words left_lists (release_words left_lists.words d.store c))
          (record { clock = d.clock; due = left_lists.due; store = release_store d.store c })
      unfolding step outcome causes first_of stale accepted freeing is_none
      cancel-done =
          let (e, q) = held c k held-here in
          let told = told-by e q in
          let x : step (Cancel c k) m ≡ record { answer = Load (word l.words c 3); next = joins (frees c k) m } =
          rw (live c k e q) (rw told.1 refl) in
          let valid = subst (λ (y : Step). Valid y.next) x (valid-step (Cancel c k) m tt s.valid) in
          let key : list_of m.clock e.key ≡ list_of d.clock (word l.words c 2) =
          ap (λ (t : ℕ). list_of t e.key) (sym s.clock) ∙ ap (list_of d.clock) (sym told.0) in
          done-by (Cancel c k) m _ _ _ _ x refl
          (subst
          (λ (i : ℕ). DialShows (with_words (leave_at l i c) (release_words (leave_at l i c).words d.store c))
          (record { clock = d.clock; due = left_lists.due; store = release_store d.store c }) (joins (frees c k) m))
          key (leave-shows l d.clock d.store m s c k e q valid))

    module _ (e : ℕ) where
      -- A handle that names nothing.
      pub move-stale : holds_ticket l.words d.store c k ≡ false → Done (Move c k e) m (Refused 7) l d
      unfolding step outcome causes first_of stale refused joins
      move-stale t = refused-done (Move c k e) 7 (rw (lost c k t))

      module _ (held-here : holds_ticket l.words d.store c k ≡ true) where
        -- The plain list names it.
        names-one : is_none (named c k (listed m).entries) ≡ false
        unfolding is_none
        names-one = let (x, q) = held c k held-here in rw (live c k x q)

        -- A deadline above the last tick.
        pub move-beyond : 68719476735 < e → Done (Move c k e) m (Refused 5) l d
        unfolding step outcome causes first_of stale beyond last_tick refused joins
        move-beyond g = refused-done (Move c k e) 5 (rw (names-one, lt-ltb 68719476735 e g))

        module _ (most : e ≤ 68719476735) where
          -- A deadline at or below the clock.
          pub move-past : e ≤ d.clock → Done (Move c k e) m (Refused 3) l d
          unfolding step outcome causes first_of stale beyond not_after last_tick refused joins listed
          move-past g =
              refused-done (Move c k e) 3 (rw (names-one, le-ltb 68719476735 e most, le-leb e m.clock (omega (arith, s.clock))))

          module _ (after : d.clock < e) where
            -- The counter is spent.
            pub move-spent : spent d.store ≡ true → Done (Move c k e) m (Refused 8) l d
            unfolding step outcome causes first_of stale beyond not_after refusals.spent last_tick refused joins listed spent
            move-spent t =
                refused-done (Move c k e) 8
                (rw (names-one, le-ltb 68719476735 e most, lt-leb e m.clock (omega (arith, s.clock)), rw s.counter at t))

            -- What is shown after a move from the list of one deadline at a clock.
            abbrev Moved : ℕ → ℕ → Type 0
            Moved t key =
                Shows
                (join_at
                (with_words (leave_at l (list_of t key) c) (put_word (put_word (leave_at l (list_of t key) c).words c 1 d.store.counter) c 2 e))
                (list_of t e) c)
                d.clock
                (record { cells = d.store.cells; free = d.store.free; counter = d.store.counter + 1 })
                (joins (refiles c k e) m)

            -- A timer is moved.
            pub move-done : spent d.store ≡ false
                → Done (Move c k e) m Changed (refiled_lists l d.clock c d.store.counter e)
                (record {
                  clock = d.clock;
                  due = l.due;
                  store = record { cells = d.store.cells; free = d.store.free; counter = d.store.counter + 1 };
                })
            unfolding step outcome causes first_of stale beyond not_after refusals.spent last_tick listed spent accepted refiling refiled_lists
            move-done t =
                let (x, q) = held c k held-here in
                let told = told-by held-here x q in
                let y : step (Move c k e) m ≡ record { answer = Changed; next = joins (refiles c k e) m } =
                rw (names-one, le-ltb 68719476735 e most, lt-leb e m.clock (omega (arith, s.clock)), rw s.counter at t) in
                let valid = subst (λ (z : Step). Valid z.next) y (valid-step (Move c k e) m tt s.valid) in
                done-by (Move c k e) m _ _ _ _ y refl
                (subst (λ (key : ℕ). Moved d.clock key) (sym told.0)
                (subst (λ (t : ℕ). Moved t x.key) (sym s.clock) (move-shows l d.clock d.store m s c k e x q valid)))

-- "For every input the promise of a public call determines the answer, the head and each lent word": one outcome of every public call. Of
-- the engines' calls it is proved beside them: `one-checked` of Rattle.queue.proofs.Outcomes and of Rattle.wheel.proofs.Outcomes and
-- `one-advance` of Rattle.wheel.proofs.AdvanceOutcome, on any head and words; `one-quick` of both Outcomes where a model is shown
-- (elsewhere quick calls are the listed exception). The calls of cells, cell_sort, places, heap and slots, `list_of` and `at_clock` of
-- dial, `read_line` and `next` of script, and both set-ups promise an equation for the answer and one for each thing that they are lent:
-- `one-equation`. The three audits promise an equivalence: `one-test`; what their parts tell besides is in AuditOutcomes. Here is what is
-- left.
-- Assumes nothing.
use Prim.Native.Nat.{ℕ}
use mathlib.Core.Bool.{Bool, true, false}
use mathlib.Core.List.{List, [], ◌++◌}
use mathlib.Core.Logic.{◌↔◌}
use mathlib.Core.Path.{◌≡◌, refl, sym, ap, ◌∙◌}
use lib.ListN.{drop}
use Rattle.cells.proofs.Cases.{clash}
use Rattle.cell_sort.specs.Sorted.{SortDone}
use Rattle.cells.specs.declared.store.Store.{Store}
use Rattle.meaning.specs.Plain.{Plain}
use Rattle.meaning.specs.Calls.{Call, Answer}
use Rattle.slots.specs.Rings.{Lists}
use Rattle.slots.specs.declared.ring.Ends.{Ends}
use Rattle.dial.specs.Turns.{State, Ended}
use Rattle.dial.specs.Lent.{lists_of, state_of, ending_of, ended_of}
use Rattle.dial.specs.declared.state.HowEnded.{HowEnded}
use Rattle.dial.specs.declared.state.HowEnded.TheVariants as how
use Rattle.dial.specs.declared.state.Turn.{Turn}
use Rattle.dial.specs.declared.state.TurnsEnded.{TurnsEnded}
use Rattle.queue.specs.Answers.{Told}
use Rattle.queue.specs.declared.head.Head as queue_head
use Rattle.queue.proofs.Outcomes as queue_outcomes
use Rattle.wheel.specs.Promise.{head_lists, DialShows, Promise, Advances}
use Rattle.cells.specs.declared.refusal.Refusal.{Refusal}
use Rattle.wheel.specs.declared.head.Advanced.{Advanced}
use Rattle.std.specs.Prelude.{Option, Some, None, Result}
use Rattle.dial.specs.declared.state.Dial.{Dial}
use Rattle.wheel.specs.declared.head.Head.{Head}
use Rattle.wheel.proofs.AdvanceOutcome.{SameAdvance, one-advance}
use Rattle.wheel.proofs.Outcomes.{Same, one-quick}
use Rattle.script.specs.Answers.{Laid}
use Rattle.script.specs.Chunks.{carried_of, Carried}
use Rattle.promises.specs.Made.{Lent}
use Rattle.promises.specs.QueueRuns as queue_runs
use Rattle.promises.specs.WheelRuns.{head_of, OneCall, Holds}
use Rattle.promises.proofs.CodeRuns.{lent_same}
use Rattle.promises.proofs.QueueDemands as queue_demands
use Rattle.promises.proofs.WheelDemands.{promised}

-- Two outcomes that meet one equation are one.
pub one-equation : {A : Type 0} (a b x : A) → a ≡ x → b ≡ x → a ≡ b
one-equation a b x e q = e ∙ sym q

-- Two tests that pass exactly if the same holds are one.
pub one-test : (P : Type 0) (a b : Bool) → (a ≡ true) ↔ P → (b ≡ true) ↔ P → a ≡ b
one-test P true true e q = refl
one-test P true false e q = clash (q.1 (e.0 refl)) refl
one-test P false true e q = clash (e.1 (q.0 refl)) refl
one-test P false false e q = refl

-- `sort` of cell_sort.
pub one-sort : (w : List ℕ) (f g : ℕ) (a spare a₁ spare₁ a₂ spare₂ : List ℕ) → SortDone w f g a spare a₁ spare₁ → SortDone w f g a spare a₂ spare₂
    → (a₁ ≡ a₂) × (spare₁ ≡ spare₂)
one-sort w f g a spare a₁ spare₁ a₂ spare₂ p q = (p.list ∙ sym q.list, p.room ∙ sym q.room)

-- `join_at` and `leave_at` of dial: one equation between all lists determines each of them.
module _ (w w' first first' last last' marks marks' : List ℕ) where
  pub record SameLists (due due' : Ends) : Type 0 where
    pub words : w ≡ w'
    pub firsts : first ≡ first'
    pub lasts : last ≡ last'
    pub marked : marks ≡ marks'
    pub ends : due ≡ due'

  pub one-lists : (due due' : Ends) (x : Lists) → lists_of w first last marks due ≡ x → lists_of w' first' last' marks' due' ≡ x → SameLists due due'
  one-lists due due' x e q =
      let same : lists_of w first last marks due ≡ lists_of w' first' last' marks' due' = e ∙ sym q in
      record {
        words = ap (λ (l : Lists). l.words) same;
        firsts = ap (λ (l : Lists). l.first) same;
        lasts = ap (λ (l : Lists). l.last) same;
        marked = ap (λ (l : Lists). l.marks) same;
        ends = ap (λ (l : Lists). l.due) same;
      }

-- A turn of its parts.
abbrev turn_of : ℕ → Ends → Store → ℕ → ℕ → Turn
turn_of clock due store fired moves = record { dial = record { clock = clock; due = due; store = store }; fired = fired; moves = moves }

turn-same : (t t' : Turn) → t.dial.clock ≡ t'.dial.clock → t.dial.due ≡ t'.dial.due → t.dial.store ≡ t'.dial.store → t.fired ≡ t'.fired
    → t.moves ≡ t'.moves → t ≡ t'
turn-same t t' a b c d e =
    let whole :
    turn_of t.dial.clock t.dial.due t.dial.store t.fired t.moves ≡ turn_of t'.dial.clock t'.dial.due t'.dial.store t'.fired t'.moves =
    cc in
    whole

-- One equation between all that an advance works on determines each thing that is lent to it, and its turn.
module _ (w w' first first' last last' marks marks' out out' : List ℕ) where
  pub record SameState (t t' : Turn) : Type 0 where
    pub lists : SameLists w w' first first' last last' marks marks' t.dial.due t'.dial.due
    pub output : out ≡ out'
    pub turn : t ≡ t'

  state-parts : (t t' : Turn) → state_of w first last marks out t ≡ state_of w' first' last' marks' out' t' → SameState t t'
  state-parts t t' e =
      let l =
      one-lists w w' first first' last last' marks marks' t.dial.due t'.dial.due (lists_of w' first' last' marks' t'.dial.due)
      (ap (λ (z : State). z.lists) e) refl in
      record {
        lists = l;
        output = ap (λ (z : State). z.out) e;
        turn =
            turn-same t t' (ap (λ (z : State). z.clock) e) l.ends (ap (λ (z : State). z.store) e) (ap (λ (z : State). z.fired) e)
            (ap (λ (z : State). z.moves) e);
      }

-- `hand_out` of dial, which is lent words and output, and says so of whatever else there is.
pub one-hand-out : (w w' out out' : List ℕ) (t t' : Turn) (x : List ℕ → List ℕ → List ℕ → State)
    → ((first last marks : List ℕ) → state_of w first last marks out t ≡ x first last marks)
    → ((first last marks : List ℕ) → state_of w' first last marks out' t' ≡ x first last marks)
    → (w ≡ w') × (out ≡ out') × (t ≡ t')
one-hand-out w w' out out' t t' x e q =
    let same = state-parts w w' [] [] [] [] [] [] out out' t t' (e [] [] [] ∙ sym (q [] [] [])) in
    (same.lists.words, same.output, same.turn)

-- Endings that are answered alike are one.
ending-same : (a b : Option HowEnded) → ending_of a ≡ ending_of b → a ≡ b
unfolding ending_of
ending-same (Some how.Done) (Some how.Done) e = refl
ending-same (Some how.Done) (Some how.More) e = cc
ending-same (Some how.Done) None e = cc
ending-same (Some how.More) (Some how.Done) e = cc
ending-same (Some how.More) (Some how.More) e = refl
ending-same (Some how.More) None e = cc
ending-same None (Some how.Done) e = cc
ending-same None (Some how.More) e = cc
ending-same None None e = refl

-- `advance_turns` of dial.
pub one-turns : (w w' first first' last last' marks marks' out out' : List ℕ) (r r' : TurnsEnded) (x : Ended)
    → ended_of w first last marks out r ≡ x
    → ended_of w' first' last' marks' out' r' ≡ x
    → SameState w w' first first' last last' marks marks' out out' r.turn r'.turn × (r.ending ≡ r'.ending)
one-turns w w' first first' last last' marks marks' out out' r r' x e q =
    let same : ended_of w first last marks out r ≡ ended_of w' first' last' marks' out' r' = e ∙ sym q in (
      state-parts w w' first first' last last' marks marks' out out' r.turn r'.turn (ap (λ (z : Ended). z.state) same),
      ending-same r.ending r'.ending (ap (λ (z : Ended). z.ending) same),
    )

-- The wheel's calls in place, where a model is shown.
pub one-in-place : (call : Call) (w first last marks : List ℕ) (d : Dial) (m : Plain) → DialShows (lists_of w first last marks d.due) d m
    → (a₁ a₂ : Answer) (w₁ first₁ last₁ marks₁ w₂ first₂ last₂ marks₂ : List ℕ) (d₁ d₂ : Dial)
    → Promise call (lists_of w first last marks d.due) d a₁ (lists_of w₁ first₁ last₁ marks₁ d₁.due) d₁
    → Promise call (lists_of w first last marks d.due) d a₂ (lists_of w₂ first₂ last₂ marks₂ d₂.due) d₂
    → Same a₁ (head_of first₁ last₁ marks₁ d₁) w₁ a₂ (head_of first₂ last₂ marks₂ d₂) w₂
unfolding head_lists
one-in-place call w first last marks d m s a₁ a₂ w₁ first₁ last₁ marks₁ w₂ first₂ last₂ marks₂ d₁ d₂ p q =
    one-quick call (head_of first last marks d) w a₁ a₂ (head_of first₁ last₁ marks₁ d₁) (head_of first₂ last₂ marks₂ d₂) w₁ w₂ m s p q

-- The wheel's quick advance, and with `head_of` its advance in place, where a model is shown: output included.
pub one-quick-advance : (target : ℕ) (h : Head) (w out : List ℕ) (m : Plain) → DialShows (head_lists h w) h.dial m
    → (a₁ a₂ : Result Advanced Refusal) (h₁ h₂ : Head) (w₁ w₂ out₁ out₂ : List ℕ)
    → Advances target (head_lists h w) h.dial out a₁ (head_lists h₁ w₁) h₁.dial out₁
    → Advances target (head_lists h w) h.dial out a₂ (head_lists h₂ w₂) h₂.dial out₂
    → SameAdvance target h w out a₁ a₂ h₁ h₂ w₁ w₂ out₁ out₂
one-quick-advance target h w out m s a₁ a₂ h₁ h₂ w₁ w₂ out₁ out₂ p q =
    one-advance target h w out a₁ a₂ h₁ h₂ w₁ w₂ out₁ out₂
    (record { advances = p; broken = λ none. absurd (none m s) })
    (record { advances = q; broken = λ none. absurd (none m s) })

-- "on audited state it answers as the checked call": where a list is held, calls of the code, quick or checked, have one outcome.
pub wheel-one-call : (call : Call) (s : Lent Head) (p : Plain) → Holds s p → (a₁ a₂ : Answer) (s₁ s₂ : Lent Head) → OneCall call s a₁ s₁
    → OneCall call s a₂ s₂
    → (a₁ ≡ a₂) × (s₁ ≡ s₂)
wheel-one-call call s p h a₁ a₂ s₁ s₂ one two =
    let same =
    one-quick call s.head s.words a₁ a₂ s₁.head s₂.head s₁.words s₂.words h.model h.shows (promised call s a₁ s₁ one).1
    (promised call s a₂ s₂ two).1 in
    (same.answer, lent_same s₁ s₂ same.head same.words)

pub queue-one-call : (call : Call) (s : Lent queue_head.Head) (p : Plain) → queue_runs.Holds s p → (t₁ t₂ : Told) (s₁ s₂ : Lent queue_head.Head)
    → queue_runs.OneCall call s t₁ s₁
    → queue_runs.OneCall call s t₂ s₂
    → (t₁ ≡ t₂) × (s₁ ≡ s₂)
queue-one-call call s p h t₁ t₂ s₁ s₂ one two =
    let same =
    queue_outcomes.one-quick call s.head s.words t₁ t₂ s₁.head s₂.head s₁.words s₂.words h.model h.shows
    (queue_demands.promised call s t₁ s₁ one).1 (queue_demands.promised call s t₂ s₂ two).1 in
    (same.told, lent_same s₁ s₂ same.head same.words)

-- `Page::text`, `number` and `line` of script, and what replies with them.
pub one-laid : (out : List ℕ) (at : ℕ) (text out₁ out₂ : List ℕ) (end₁ end₂ : ℕ) → Laid out at text out₁ end₁ → Laid out at text out₂ end₂
    → (out₁ ≡ out₂) × (end₁ ≡ end₂)
one-laid out at text out₁ out₂ end₁ end₂ p q = (p.bytes ∙ sym q.bytes, p.stop ∙ sym q.stop)

-- `carry` of script.
pub one-carried : (s : List ℕ) (from to : ℕ) (s₁ s₂ : List ℕ) (n₁ n₂ : ℕ) → Carried s from to s₁ n₁ → Carried s from to s₂ n₂ → (s₁ ≡ s₂) × (n₁ ≡ n₂)
one-carried s from to s₁ s₂ n₁ n₂ p q =
    let same : n₁ ≡ n₂ = p.many ∙ sym q.many in
    (p.bytes ∙ ap (λ (n : ℕ). carried_of s from to ++ drop n s) same ∙ sym q.bytes, same)

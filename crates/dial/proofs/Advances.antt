-- How an advance on the plain list goes on: it hands out what is due, and is at its end; or it goes to the next wake tick, and on from there.
-- Assumes nothing.
use Prim.Native.Nat.{ℕ, suc, ◌+◌, ◌-◌, ◌≤◌, ◌<◌}
use native.Mathlib.Omega.{arith}
use mathlib.Core.Bool.{Bool, true, false}
use mathlib.Core.List.{List, [], ◌∷◌, ◌++◌, map}
use mathlib.Core.Path.{◌≡◌, refl, sym, ap, ◌∙◌}
use lib.ListN.{length, take, drop, take-append-drop, length-drop}
use lib.Seq.{take-add, drop-drop}
use Rattle.cells.specs.Lists.{All}
use Rattle.cells.proofs.Cases.{at_most?}
use Rattle.cells.proofs.Lists.{all_map, all_take, all_drop, all_both}
use Rattle.places.specs.Ticks.{last_tick}
use Rattle.meaning.specs.Entries.{Entry, earliest}
use Rattle.meaning.specs.Plain.{Plain, hands, apply}
use Rattle.meaning.specs.Refusals.{Free}
use Rattle.meaning.specs.Calls.{Advance, Outcome, shown, report_of, causes, due_by, all_moves, hand_out, advanced, accepted}
use Rattle.meaning.specs.Kept.{Kept, Within, Timed}
use Rattle.meaning.specs.Handed.{Handed}
use Rattle.meaning.proofs.Due.{due-none, due-length, due-front, due-split, due-next, earliest-all}
use Rattle.meaning.proofs.Handles.{map-append}
use Rattle.meaning.proofs.Handed.{hands-twice, outcome-free, advanced-roomy, advanced-short, advance-free}
use Rattle.meaning.proofs.Kept.{kept-hands}
use Rattle.meaning.proofs.Timed.{advance-hands}
use Rattle.meaning.proofs.Moves.{all_moves-append, all_moves-split}
use Rattle.dial.proofs.Wakings.{wakes, Ahead, NextTick, all-ahead, all_moves-due, all_moves-still, due-after}

-- How many entries are due at the clock,
abbrev pub due_now : Plain → ℕ
due_now s = due_by s.clock s.entries

-- and the others.
abbrev pub waiting : Plain → List Entry
waiting s = drop (due_now s) s.entries

-- Where all are above a tick none is due by it.
pub due-nothing : (t : ℕ) (es : List Entry) → All (λ (e : Entry). t < e.key) es → due_by t es ≡ 0
due-nothing t [] a = unfold due_by in refl
due-nothing t (e ∷ es) a = due-none t e es a.0

-- Of a hand-out its flag, its number and its clock can be told.
pub hand_out-tells :
    (b n : ℕ) {d d' : Bool} {m m' c c' : ℕ} (s : Plain)
    → hand_out b n d m c s ≡ hand_out b n d' m' c' s
    → (d ≡ d') × ((m ≡ m') × (c ≡ c'))
unfolding hand_out report_of
hand_out-tells b n {d} {d'} {m} {m'} {c} {c'} s q =
    let change : hands m c ≡ hands m' c' = ap (λ (o : Outcome). o.change) q in
    (ap (λ (o : Outcome). (report_of o.answer).done) q, (cc, cc))

-- An advance with room for the first j entries, all due by its target, hands them out, and then what an advance from there hands out.
advanced-split :
    (b n target r j t : ℕ) (s : Plain)
    → j ≤ length s.entries
    → All (λ (e : Entry). e.key ≤ target) (take j s.entries)
    → j ≤ r
    → (d : Bool) (k c : ℕ)
    → advanced b n target (r - j) (apply (hands j t) s) ≡ hand_out b n d k c (apply (hands j t) s)
    → advanced b n target r s ≡ hand_out b n d (j + k) c s
unfolding apply
advanced-split b n target r j t s fits early roomy d k c q = at_most? x (r - j) enough lacking
  where
    x : ℕ
    x = due_by target (drop j s.entries)

    whole : j + x ≡ due_by target s.entries
    whole = due-split target j s.entries fits early

    enough : x ≤ r - j → advanced b n target r s ≡ hand_out b n d (j + k) c s
    enough h =
        let told = hand_out-tells b n (apply (hands j t) s) (sym q ∙ advanced-roomy b n target (r - j) (apply (hands j t) s) h) in
        advanced-roomy b n target r s (omega (arith, whole)) ∙ rw (told.0, told.1.0, told.1.1, whole)

    lacking : r - j < x → advanced b n target r s ≡ hand_out b n d (j + k) c s
    lacking h =
        let told = hand_out-tells b n (apply (hands j t) s) (sym q ∙ advanced-short b n target (r - j) (apply (hands j t) s) h) in
        let all : j + (r - j) ≡ r = omega arith in
        advanced-short b n target r s (omega (arith, whole))
        ∙ rw (told.0, told.1.0, told.1.1, drop-drop (r - j) j s.entries, all)

module _ (b n : ℕ) (s : Plain) (timed : Timed b n s) where
  -- The entries due at the clock are those with the clock for their deadline.
  pub front-due : All (λ (e : Entry). e.key ≡ s.clock) (take (due_now s) s.entries)
  front-due =
      all_map (λ e h. omega (arith, h.0, h.1.late)) (take (due_now s) s.entries)
      (all_both (λ (e : Entry). e.key ≤ s.clock) (Within b n s.clock) (take (due_now s) s.entries)
      (due-front s.clock (due_now s) s.entries (omega arith))
      (all_take (Within b n s.clock) (due_now s) s.entries timed.deadlines))

  -- So they are due by each later tick.
  front-early : (t : ℕ) → s.clock ≤ t → All (λ (e : Entry). e.key ≤ t) (take (due_now s) s.entries)
  front-early t h = all_map (λ e q. omega (arith, q)) (take (due_now s) s.entries) front-due

  -- They and those of the others that are due by a later tick are all that is due by it.
  due-both : (t : ℕ) → s.clock ≤ t → due_now s + due_by t (waiting s) ≡ due_by t s.entries
  due-both t h = due-split t (due_now s) s.entries (due-length s.clock s.entries) (front-early t h)

  -- Only the others move.
  moves-waiting : (c : ℕ) → all_moves b n s.clock c s.entries ≡ all_moves b n s.clock c (waiting s)
  moves-waiting c =
      ap (all_moves b n s.clock c) (sym (take-append-drop (due_now s) s.entries))
      ∙ all_moves-append b n s.clock c (take (due_now s) s.entries) (waiting s)
      ∙ omega (arith, all_moves-due b n s.clock c (take (due_now s) s.entries) front-due)

  -- The others are ahead.
  pub waiting-ahead : Kept s → All (Ahead b n s.clock) (waiting s)
  waiting-ahead kept = all-ahead b n s.clock s.entries kept.ordered timed.deadlines

  -- "Otherwise: the first r are handed out and freed, the clock becomes the deadline of the next entry": more is due at the clock than there is room for.
  pub more-due : (target r : ℕ) → s.clock ≤ target → r < due_now s → advanced b n target r s ≡ hand_out b n false r s.clock s
  more-due target r forward h =
      let late : s.clock ≤ (earliest (drop r s.entries)).key =
      earliest-all (λ (e : Entry). s.clock ≤ e.key) (drop r s.entries)
      (omega (arith, length-drop r s.entries, due-length s.clock s.entries))
      (all_drop (λ (e : Entry). s.clock ≤ e.key) r s.entries (all_map (λ e w. w.late) s.entries timed.deadlines)) in
      let next : (earliest (drop r s.entries)).key ≡ s.clock = omega (arith, due-next s.clock r s.entries h) in
      advanced-short b n target r s (omega (arith, due-both target forward)) ∙ rw next

  -- "all are handed out and freed, the clock becomes the target, the answer is *done*": nothing wakes up to the target, so nothing moves.
  pub all_done :
      (target r : ℕ)
      → 0 < b
      → Kept s
      → s.clock ≤ target
      → due_now s ≤ r
      → All (λ (e : Entry). target < wakes b n s.clock e) (waiting s)
      → (advanced b n target r s ≡ hand_out b n true (due_now s) target s) × (all_moves b n s.clock target s.entries ≡ 0)
  all_done target r positive kept forward roomy after =
      let ahead : All (Ahead b n s.clock) (waiting s) = waiting-ahead kept in
      let above : All (λ (e : Entry). target < e.key) (waiting s) =
      due-after b n s.clock (suc target) (waiting s) positive ahead after in
      let number : due_by target s.entries ≡ due_now s =
      omega (arith, due-both target forward, due-nothing target (waiting s) above) in (
        advanced-roomy b n target r s (omega arith) ∙ rw number,
        moves-waiting target ∙ all_moves-still b n s.clock target (waiting s) positive ahead forward after,
      )

-- What an advance does that goes on from a wake tick t: it hands out what is due at its clock and then k more, to clock c.
pub record Onward (b n target r t : ℕ) (d : Bool) (k c : ℕ) (s : Plain) : Type 0 where
  pub from : t ≤ c
  pub up_to : c ≤ target
  pub same : advanced b n target r s ≡ hand_out b n d (due_now s + k) c s
  pub left : apply (hands (due_now s + k) c) s ≡ apply (hands k c) (apply (hands (due_now s) t) s)
  pub fired : map shown (take (due_now s + k) s.entries) ≡ map shown (take (due_now s) s.entries) ++ map shown (take k (waiting s))
  pub moves : all_moves b n s.clock c s.entries ≡ all_moves b n s.clock t (waiting s) + all_moves b n t c (waiting s)

-- An advance that reaches the next wake tick t of the entries not due at its clock.
module _
    (b n t target : ℕ)
    (s : Plain)
    (timed : Timed b n s)
    (positive : 0 < b)
    (kept : Kept s)
    (next : NextTick b n s.clock t (waiting s))
    (reached : t ≤ target)
    (inside : target ≤ last_tick b n)
  where
    -- No deadline of the others is below the wake tick.
    pub waiting-late : All (λ (e : Entry). t ≤ e.key) (waiting s)
    waiting-late = due-after b n s.clock t (waiting s) positive (waiting-ahead b n s timed kept) next.first

    -- At the wake tick, with what was due handed out, the wheel's rules hold.
    pub timed-onward : Timed b n (apply (hands (due_now s) t) s)
    unfolding apply
    timed-onward =
        record {
          clock = omega arith;
          deadlines =
              all_map (λ e h. record { late = h.0; last = h.1.last }) (waiting s)
              (all_both (λ (e : Entry). t ≤ e.key) (Within b n s.clock) (waiting s) waiting-late
              (all_drop (Within b n s.clock) (due_now s) s.entries timed.deadlines));
        }

    -- An advance from there ends between that tick and its target.
    ends-between :
        (r : ℕ) (d : Bool) (k c : ℕ)
        → advanced b n target r (apply (hands (due_now s) t) s) ≡ hand_out b n d k c (apply (hands (due_now s) t) s)
        → (t ≤ c) × (c ≤ target)
    unfolding apply accepted
    ends-between r d k c q =
        let s₂ : Plain = apply (hands (due_now s) t) s in
        let free : Free (causes b n (Advance target r) s₂) = advance-free b n target r s₂ reached inside in
        let h : Handed b n target r s₂ = advance-hands b n s₂ (kept-hands s kept (due_now s) t) timed-onward target r free in
        let told = hand_out-tells b n s₂ (sym q ∙ sym (outcome-free b n (Advance target r) s₂ free) ∙ h.same) in
        let clock : c ≡ h.c = told.1.1 in
        (omega (arith, h.forward), omega (arith, h.up_to))

    -- With room for what was due the advance hands that out, and is from there on an advance with the room that is left.
    pub goes_on :
        (r : ℕ)
        → due_now s ≤ r
        → (d : Bool) (k c : ℕ)
        → advanced b n target (r - due_now s) (apply (hands (due_now s) t) s) ≡ hand_out b n d k c (apply (hands (due_now s) t) s)
        → Onward b n target r t d k c s
    goes_on r roomy d k c q =
        let later : s.clock ≤ t = omega (arith, next.later) in
        let between = ends-between (r - due_now s) d k c q in
        record {
          from = between.0;
          up_to = between.1;
          same =
              advanced-split b n target r (due_now s) t s (due-length s.clock s.entries)
              (front-early b n s timed target (omega arith))
              roomy d k c q;
          left = sym (hands-twice (due_now s) t k c s);
          fired =
              ap (map shown) (take-add (due_now s) k s.entries)
              ∙ map-append shown (take (due_now s) s.entries) (take k (waiting s));
          moves =
              omega (
                arith,
                all_moves-split b n c positive (due_now s) t s timed later between.0 (front-early b n s timed t later) waiting-late,
                moves-waiting b n s timed t,
              );
        }

-- Demand 3, over the plain list.
-- Assumes nothing.
use Prim.Native.Nat.{ℕ, ◌+◌, ◌≤◌, ◌<◌}
use native.Mathlib.Omega.{arith}
use mathlib.Core.Bool.{Bool}
use mathlib.Core.List.{List, [], ◌∷◌, ◌++◌, map, append-nil}
use mathlib.Core.Path.{◌≡◌, sym, ap, ap₂, ◌∙◌}
use lib.ListN.{take, drop}
use lib.Seq.{take-add}
use borrow.Author.Tests.{ltb-false}
use Rattle.cells.proofs.Lists.{all_map}
use Rattle.places.specs.Ticks.{last_tick}
use Rattle.meaning.specs.Plain.{Plain, hands, apply}
use Rattle.meaning.specs.Refusals.{beyond, Free}
use Rattle.meaning.specs.Calls.{Advance, Answer, Advanced, Shown, shown, Report, is_refused, report_of, causes, hand_out, result, due_by, all_moves}
use Rattle.meaning.specs.Runs.{after, answers}
use Rattle.meaning.proofs.Handles.{map-append}
use Rattle.meaning.proofs.Due.{due-split}
use Rattle.meaning.specs.Kept.{Kept, Timed}
use Rattle.meaning.specs.Handed.{Handed}
use Rattle.promises.specs.Demand3.{Ask, asked, reports, joined, total, Brings, AsOne}
use Rattle.meaning.proofs.Handed.{hands-twice, accepted-free, advance-free, advance-done}
use Rattle.meaning.proofs.Reached.{kept-call}
use Rattle.meaning.proofs.Timed.{timed-call, advance-hands}
use Rattle.meaning.proofs.Moves.{all_moves-split, all_moves-bound}

-- What a hand-out reports.
unfoldable pub reported_by : ℕ → ℕ → Bool → ℕ → ℕ → Plain → Report
reported_by b n done m c s =
    record { fired = map shown (take m s.entries); clock = c; moves = all_moves b n s.clock c s.entries; done = done }

module _ (b n t r : ℕ) (s : Plain) (h : Handed b n t r s) where
  pub handed-next : (result b n (Advance t r) s).next ≡ apply (hands h.m h.c) s
  unfolding result hand_out
  handed-next = rw h.same

  pub handed-answer : (result b n (Advance t r) s).answer ≡ Advanced (reported_by b n h.done h.m h.c s)
  unfolding result hand_out reported_by
  handed-answer = rw h.same

-- What the advances together do: they hand out all that is due by u, at clock u.
record Whole (b n u : ℕ) (asks : List Ask) (s : Plain) : Type 0 where
  forward : s.clock ≤ u
  inside : u ≤ last_tick b n
  leaves : after b n (map asked asks) s ≡ apply (hands (due_by u s.entries) u) s
  gives : joined (reports (answers b n (map asked asks) s)) ≡ map shown (take (due_by u s.entries) s.entries)
  counts : total (reports (answers b n (map asked asks) s)) ≡ all_moves b n s.clock u s.entries

module _ (b n u : ℕ) (positive : 0 < b) where
  -- The last advance: it is done at u, so u is its target.
  whole-last : (a : Ask) (s : Plain) → Kept s → Timed b n s → Brings u (a ∷ []) (answers b n (map asked (a ∷ [])) s) → Whole b n u (a ∷ []) s
  unfolding asked result causes beyond reports joined total after answers report_of reported_by
  whole-last a s kept timed w =
      let f : Free (causes b n (asked a) s) = accepted-free b n (asked a) s w.0 in
      let h : Handed b n a.target a.room s = advance-hands b n s kept timed a.target a.room f in
      let answer = handed-answer b n a.target a.room s h in
      let finished = h.finished (rw answer at w.1) in
      let clock : h.c ≡ u = rw answer at w.2 in
      let target : a.target ≡ u = sym finished.1 ∙ clock in
      let m : h.m ≡ due_by u s.entries = finished.0 ∙ ap (λ (t : ℕ). due_by t s.entries) target in
      record {
        forward = omega (arith, h.forward);
        inside = omega (arith, ltb-false (last_tick b n) a.target f.0);
        leaves = handed-next b n a.target a.room s h ∙ rw (m, clock);
        gives = rw answer (append-nil (map shown (take h.m s.entries)) ∙ rw m);
        counts = rw (answer, clock) (omega arith);
      }

  -- What one advance hands out and what the others hand out is what one advance to u hands out.
  whole_split : (a : Ask) (rest : List Ask) (s : Plain) → Timed b n s → (h : Handed b n a.target a.room s)
      → Whole b n u rest (apply (hands h.m h.c) s)
      → Whole b n u (a ∷ rest) s
  unfolding asked reports joined total after answers report_of reported_by apply
  whole_split a rest s timed h v =
      let answer = handed-answer b n a.target a.room s h in
      let next = handed-next b n a.target a.room s h in
      let k : ℕ = due_by u (drop h.m s.entries) in
      let below : h.c ≤ u = v.forward in
      let number : h.m + k ≡ due_by u s.entries =
      due-split u h.m s.entries h.fits (all_map (λ e l. omega arith) (take h.m s.entries) h.early) in
      record {
        forward = omega (arith, h.forward);
        inside = v.inside;
        leaves =
            ap (after b n (map asked rest)) next
            ∙ (v.leaves ∙ hands-twice h.m h.c k u s ∙ ap (λ (j : ℕ). apply (hands j u) s) number);
        gives =
            ap₂ (λ (x : Answer) (y : Plain). (report_of x).fired ++ joined (reports (answers b n (map asked rest) y))) answer next
            ∙ ap (λ (l : List Shown). map shown (take h.m s.entries) ++ l) v.gives
            ∙ (sym (map-append shown (take h.m s.entries) (take k (drop h.m s.entries)))
            ∙ ap (map shown) (sym (take-add h.m k s.entries))
            ∙ ap (λ (j : ℕ). map shown (take j s.entries)) number);
        counts =
            ap₂ (λ (x : Answer) (y : Plain). (report_of x).moves + total (reports (answers b n (map asked rest) y))) answer next
            ∙ ap (λ (j : ℕ). all_moves b n s.clock h.c s.entries + j) v.counts
            ∙ (all_moves-split b n u positive h.m h.c s timed h.forward below h.early h.late);
      }

  whole : (asks : List Ask) (s : Plain) → Kept s → Timed b n s → Brings u asks (answers b n (map asked asks) s) → Whole b n u asks s
  unfolding asked answers
  whole [] s kept timed w = absurd w
  whole (a ∷ []) s kept timed w = whole-last a s kept timed w
  whole (a ∷ a' ∷ rest) s kept timed w =
      let f : Free (causes b n (asked a) s) = accepted-free b n (asked a) s (unfold result in w.0) in
      let h : Handed b n a.target a.room s = advance-hands b n s kept timed a.target a.room f in
      whole_split a (a' ∷ rest) s timed h
      (rw (handed-next b n a.target a.room s h) at
      (whole (a' ∷ rest) (result b n (asked a) s).next (kept-call b n (asked a) s kept) (timed-call b n s kept timed (asked a) tt) w.2))

-- Any accepted advances that bring the clock to u are as one advance to u with room for all.
pub demand3 : (b n u r : ℕ) (asks : List Ask) (s : Plain) → 0 < b → Kept s → Timed b n s
    → Brings u asks (answers b n (map asked asks) s)
    → due_by u s.entries ≤ r
    → AsOne b n u r asks s
unfolding result hand_out report_of is_refused
demand3 b n u r asks s positive kept timed brings roomy =
    let w : Whole b n u asks s = whole b n u positive asks s kept timed brings in
    let one = advance-done b n u r s (advance-free b n u r s w.forward w.inside) roomy in
    let left : after b n (map asked asks) s ≡ (result b n (Advance u r) s).next = rw one w.leaves in
    record {
      told =
          record {
            accepted = rw one;
            done = rw one;
            clock = rw one;
            fired = rw one w.gives;
            moves = rw one w.counts;
            formula = w.counts;
            bound = omega (arith, w.counts, all_moves-bound b n s.clock u s.entries);
          };
      left = left;
      later = λ calls. ap (answers b n calls) left;
    }

-- What a refusal makes of a model that head and words show, nothing; and what is known of its free stack.
-- Assumes nothing.
use Prim.Native.Nat.{ℕ, ◌<◌}
use native.Mathlib.Omega.{arith}
use mathlib.Core.Bool.{false}
use mathlib.Core.List.{List, [], ◌∷◌, tail}
use mathlib.Core.Path.{◌≡◌, refl, sym, ap, subst, ◌∙◌}
use Rattle.cells.specs.Lists.{times}
use Rattle.cells.specs.Stack.{Chain}
use Rattle.cells.specs.Store.{no_free}
use Rattle.cells.proofs.Cases.{clash}
use Rattle.cells.proofs.Sums.{all-standing, standing-below}
use Rattle.meaning.specs.Entries.{Entry}
use Rattle.meaning.specs.Heap.{at, heap_moves}
use Rattle.meaning.specs.Plain.{top}
use Rattle.meaning.specs.Refusals.{is_empty}
use Rattle.meaning.specs.Calls.{Call, Refused}
use Rattle.heap.proofs.Moves.{moved-still, moves-most}
use Rattle.queue.specs.Model.{Model, Step, step, step_moves}
use Rattle.queue.specs.Shows.{Shows}
use Rattle.queue.specs.Answers.{Told, told, refusal}
use Rattle.queue.specs.Promise.{Done}
use Rattle.queue.specs.declared.head.Head.{Head}
use Rattle.meaning.proofs.Stack.{empty-top}
use Rattle.queue.proofs.Facts.{facts}

-- A heap that stays as it is moves nothing.
pub refused-moves : (h : List Entry) → heap_moves h h ≡ 0
refused-moves h = omega (arith, moves-most h h [] tt (λ r i z. moved-still (at h r) r h refl))

-- A call is done if its answer, its moves and what is shown afterwards are those of the model's step, whatever that is.
pub done-by : (call : Call) (m : Model) (t : Told) (h : Head) (w : List ℕ) (x : Step) → step call m ≡ x
    → t.answer ≡ x.answer → t.moves ≡ heap_moves m.heap x.next.heap → Shows h w x.next → Done call m t h w
unfolding step_moves
done-by call m t h w x e p q z = record {
  answer = p ∙ ap (λ (y : Step). y.answer) (sym e);
  moves = q ∙ ap (λ (y : Step). heap_moves m.heap y.next.heap) (sym e);
  next = subst (λ (y : Step). Shows h w y.next) (sym e) z;
}

-- What is known of a stack that is not empty, from its top a: the top is the first cell, and its link leads through the rest.
pub record Topped (next : ℕ → ℕ) (a : ℕ) (free : List ℕ) : Type 0 where
  pub first : top free ≡ a
  pub whole : free ≡ a ∷ tail free
  pub rest : Chain next (next a) (tail free)

-- A stack that is not empty has a top.
pub topped : (next : ℕ → ℕ) (a : ℕ) (free : List ℕ) → Chain next a free → is_empty free ≡ false → Topped next a free
unfolding is_empty top
topped next a [] h e = clash refl e
topped next a (c ∷ cs) h e =
    record { first = sym h.0; whole = ap (λ (x : ℕ). x ∷ cs) (sym h.0); rest = rw h.0 h.1 }

module _ (h : Head) (w : List ℕ) (m : Model) (s : Shows h w m) where
  -- A free cell is one of the cells.
  pub free-below : (c : ℕ) → 0 < times c m.free → c < m.cells
  free-below c l =
      standing-below c m.cells (times c m.free) (omega (arith, (facts h w m s).split c)) l

  -- The test for a free cell, in the head and in the model.
  pub no-free-shown : no_free h.store ≡ is_empty m.free
  unfolding no_free
  no-free-shown =
      rw s.cells
      (empty-top _ m.cells h.store.free m.free (facts h w m s).limit (all-standing _ m.free free-below) s.free)

  -- A call that the model refuses leaves head and words, which show the same model.
  pub refused-done : (call : Call) (i : ℕ) → step call m ≡ record { answer = Refused i; next = m } → Done call m (refusal i) h w
  unfolding refusal told
  refused-done call i e = done-by call m (refusal i) h w _ e refl (sym (refused-moves m.heap)) s

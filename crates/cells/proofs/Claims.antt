-- The handle test, the counter, and the free stack's two calls, by cases.
-- Assumes nothing.
use Prim.Native.Nat.{ℕ, ◌+◌, ◌≤◌, ◌<◌}
use mathlib.Core.Bool.{true, false}
use mathlib.Core.List.{List}
use mathlib.Core.Path.{◌≡◌}
use lib.Dec.{eqb}
use borrow.Author.Tests.{eq-eqb, ne_eqb, lt-ltb, le-ltb}
use Rattle.cells.specs.Words.{word}
use Rattle.cells.specs.Store.{
  no_free,
  spent,
  holds_ticket,
  draw_answer,
  draw_store,
  claim_answer,
  claim_store,
  claim_words,
  entered,
}
use Rattle.cells.specs.declared.store.Store.{Store}
use Rattle.std.specs.Prelude.{Ok, Err}
use Rattle.cells.specs.declared.refusal.Refusal.TheVariants as refusal

module _ (w : List ℕ) (s : Store) (c k : ℕ) where
  pub handle-past : s.cells ≤ c → holds_ticket w s c k ≡ false
  unfolding holds_ticket
  handle-past h = rw (le-ltb c s.cells h)

  pub handle-free : c < s.cells → word w c 0 ≡ 0 → holds_ticket w s c k ≡ false
  unfolding holds_ticket
  handle-free h e = rw (lt-ltb c s.cells h, eq-eqb (word w c 0) 0 e)

  pub handle-used : c < s.cells → (word w c 0 ≡ 0 → ⊥) → holds_ticket w s c k ≡ eqb (word w c 0) k
  unfolding holds_ticket
  handle-used h d = rw (lt-ltb c s.cells h, ne_eqb (word w c 0) 0 d)

module _ (s : Store) where
  -- A draw is refused, or gives the counter's value.
  pub draw-spent : spent s ≡ true → (draw_answer s ≡ Err refusal.Spent) × (draw_store s ≡ s)
  unfolding draw_answer draw_store
  draw-spent e = (rw e, rw e)

  pub draw-taken :
      spent s ≡ false
      → (draw_answer s ≡ Ok s.counter)
      × (draw_store s ≡ record { cells = s.cells; free = s.free; counter = s.counter + 1 })
  unfolding draw_answer draw_store
  draw-taken e = (rw e, rw e)

-- A claim is refused for want of a cell, then of a number, or takes the top.
module _ (w : List ℕ) (s : Store) (key load : ℕ) where
  pub claim-full : no_free s ≡ true → (claim_answer s ≡ Err refusal.Full) × (claim_store w s ≡ s) × (claim_words w s key load ≡ w)
  unfolding claim_answer claim_store claim_words
  claim-full e = (rw e, rw e, rw e)

  pub claim-spent :
      no_free s ≡ false → spent s ≡ true → (claim_answer s ≡ Err refusal.Spent) × (claim_store w s ≡ s) × (claim_words w s key load ≡ w)
  unfolding claim_answer claim_store claim_words
  claim-spent e e' = (rw (e, e'), rw (e, e'), rw (e, e'))

  pub claim-taken :
      no_free s ≡ false
      → spent s ≡ false
      → (claim_answer s ≡ Ok (record { cell = s.free; ticket = s.counter }))
      × (claim_store w s ≡ record { cells = s.cells; free = word w s.free 4; counter = s.counter + 1 })
      × (claim_words w s key load ≡ entered w s.free s.counter key load)
  unfolding claim_answer claim_store claim_words
  claim-taken e e' = (rw (e, e'), rw (e, e'), rw (e, e'))

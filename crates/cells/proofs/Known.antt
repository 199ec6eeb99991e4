-- Known answers of the cell store, computed: three cells in 26 words, two claims, a release, and the refusals.
-- Assumes nothing.
use Prim.Native.Nat.{ℕ}
use mathlib.Core.Bool.{true, false}
use mathlib.Core.List.{List, [], ◌∷◌}
use mathlib.Core.Path.{◌≡◌, refl}
use lib.ListN.{replicate}
use Rattle.cells.specs.Words.{word, put_word}
use Rattle.cells.specs.Store.{
  wrong_size,
  no_free,
  spent,
  memory,
  fresh_link,
  fresh_word,
  fresh_words,
  set_up_words,
  set_up_answer,
  holds_ticket,
  draw_answer,
  draw_store,
  claim_answer,
  claim_store,
  entered,
  claim_words,
  wiped,
  release_words,
  release_store,
}
use Rattle.cells.specs.declared.store.Store.{Store}
use Rattle.std.specs.Prelude.{Ok, Err}
use Rattle.cells.specs.declared.store.Handle.{Handle}
use Rattle.cells.specs.declared.refusal.Refusal.TheVariants as refusal

store : ℕ → ℕ → ℕ → Store
store n top counter = record { cells = n; free = top; counter = counter }

handle : ℕ → ℕ → Handle
handle c k = record { cell = c; ticket = k }

-- Three fresh cells, and two words that belong to none.
fresh : List ℕ
fresh =
    0 ∷ 0 ∷ 0 ∷ 0 ∷ 1 ∷ 0 ∷ 0 ∷ 0 ∷
    0 ∷ 0 ∷ 0 ∷ 0 ∷ 2 ∷ 0 ∷ 0 ∷ 0 ∷
    0 ∷ 0 ∷ 0 ∷ 0 ∷ 4096 ∷ 0 ∷ 0 ∷ 0 ∷
    9 ∷ 9 ∷ []

-- Cells 0 and 1 in use.
used : List ℕ
used =
    1 ∷ 1 ∷ 70 ∷ 80 ∷ 0 ∷ 0 ∷ 0 ∷ 0 ∷
    2 ∷ 2 ∷ 71 ∷ 81 ∷ 0 ∷ 0 ∷ 0 ∷ 0 ∷
    0 ∷ 0 ∷ 0 ∷ 0 ∷ 4096 ∷ 0 ∷ 0 ∷ 0 ∷
    9 ∷ 9 ∷ []

-- Cell 0 given back, over words 5 to 7 of a queue: on top of cell 2, with its word 6 left.
back : List ℕ
back =
    0 ∷ 0 ∷ 0 ∷ 0 ∷ 2 ∷ 0 ∷ 56 ∷ 0 ∷
    2 ∷ 2 ∷ 71 ∷ 81 ∷ 0 ∷ 0 ∷ 0 ∷ 0 ∷
    0 ∷ 0 ∷ 0 ∷ 0 ∷ 4096 ∷ 0 ∷ 0 ∷ 0 ∷
    9 ∷ 9 ∷ []

set-up-words : set_up_words (replicate 26 9) ≡ fresh
unfolding set_up_words wrong_size fresh_words memory fresh_word fresh_link fresh
set-up-words = refl

set-up-answer : set_up_answer (replicate 26 9) ≡ Ok (store 3 0 1)
unfolding set_up_answer wrong_size store
set-up-answer = refl

set-up-too-small : set_up_answer (replicate 7 9) ≡ Err refusal.BadSize
unfolding set_up_answer wrong_size
set-up-too-small = refl

sizes : (wrong_size 0 ≡ true) × (wrong_size 1 ≡ false) × (wrong_size 4096 ≡ false) × (wrong_size 4097 ≡ true)
unfolding wrong_size
sizes = (refl, refl, refl, refl)

two-claims : claim_words (claim_words fresh (store 3 0 1) 70 80) (claim_store fresh (store 3 0 1)) 71 81 ≡ used
unfolding claim_words claim_store no_free spent entered word put_word fresh used store
two-claims = refl

claim-answers :
    (claim_answer (store 3 1 2) ≡ Ok (handle 1 2))
    × (claim_answer (store 3 4096 18446744073709551615) ≡ Err refusal.Full)
    × (claim_answer (store 3 2 18446744073709551615) ≡ Err refusal.Spent)
    × (claim_answer (store 3 2 18446744073709551614) ≡ Ok (handle 2 18446744073709551614))
unfolding claim_answer no_free spent store handle
claim-answers = (refl, refl, refl, refl)

claim-stores :
    (claim_store fresh (store 3 1 2) ≡ store 3 2 3)
    × (claim_store fresh (store 3 2 3) ≡ store 3 4096 4)
    × (claim_store fresh (store 3 4096 4) ≡ store 3 4096 4)
unfolding claim_store no_free spent word fresh store
claim-stores = (refl, refl, refl)

released : release_words (put_word (put_word (put_word used 0 5 55) 0 6 56) 0 7 57) (store 3 2 3) 0 ≡ back
unfolding release_words wiped put_word used back store
released = refl

release-store : release_store (store 3 2 3) 0 ≡ store 3 0 3
unfolding release_store store
release-store = refl

-- A handle, its cell with another ticket, a free cell with ticket 0, and no cell.
handles :
    (holds_ticket used (store 3 2 3) 1 2 ≡ true)
    × (holds_ticket used (store 3 2 3) 1 1 ≡ false)
    × (holds_ticket used (store 3 2 3) 2 0 ≡ false)
    × (holds_ticket used (store 1 2 3) 1 2 ≡ false)
unfolding holds_ticket word used store
handles = (refl, refl, refl, refl)

draws :
    (draw_answer (store 3 1 5) ≡ Ok 5)
    × (draw_store (store 3 1 5) ≡ store 3 1 6)
    × (draw_answer (store 3 1 18446744073709551615) ≡ Err refusal.Spent)
    × (draw_store (store 3 1 18446744073709551615) ≡ store 3 1 18446744073709551615)
unfolding draw_answer draw_store spent store
draws = (refl, refl, refl, refl)

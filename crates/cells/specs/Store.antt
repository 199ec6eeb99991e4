-- The cell store over lent words: set-up, handles, the counter and the free stack, each answer and every word told by a definition.
-- Assumes nothing.
use Rattle.std.specs.Prelude.{ℕ, zero, suc, ◌+◌, ◌*◌, ◌/◌, Bool, cond, not, ◌&&◌, ◌||◌, List, [], ◌∷◌, ◌++◌, length, drop, leb, ltb, eqb, Result, Ok, Err}
use Rattle.cells.specs.Words.{word, put_word}
use Rattle.cells.specs.declared.store.Store.{Store}
use Rattle.cells.specs.declared.store.Handle.{Handle}
use Rattle.cells.specs.declared.refusal.Refusal.{Refusal}
use Rattle.cells.specs.declared.refusal.Refusal.TheVariants as refusal

-- 1: "set-up: N is 0 or above 4,096"
unfoldable pub wrong_size : ℕ → Bool
wrong_size n = eqb n 0 || ltb 4096 n

-- 6: "arm, put: no free cell"; the top is then 4,096, which is no cell.
unfoldable pub no_free : Store → Bool
no_free s = leb s.cells s.free

-- 8: "arm, put, move, rekey: the counter is 18,446,744,073,709,551,615"
unfoldable pub spent : Store → Bool
spent s = eqb s.counter 18446744073709551615

-- "Memory is lent as 64-bit words, eight to a cell": the words of n cells from cell c on, where g c f is the word of cell c at field f.
unfoldable pub memory : (ℕ → ℕ → ℕ) → ℕ → ℕ → List ℕ
memory g c zero = []
memory g c (suc n) =
    g c 0 ∷ g c 1 ∷ g c 2 ∷ g c 3 ∷ g c 4 ∷ g c 5 ∷ g c 6 ∷ g c 7 ∷ memory g (suc c) n

-- "After set-up cell 0 is on top, then 1, and so on": the link of a cell of n, 4,096 after the last.
unfoldable pub fresh_link : ℕ → ℕ → ℕ
fresh_link n c = cond (eqb (c + 1) n) 4096 (c + 1)

-- "the words of a free cell other than its link, are zero"
unfoldable pub fresh_word : ℕ → ℕ → ℕ → ℕ
fresh_word n c f = cond (eqb f 4) (fresh_link n c) 0

-- "it rewrites every whole cell"; "The last L mod 8 words are never touched."
unfoldable pub fresh_words : List ℕ → List ℕ
fresh_words w = memory (fresh_word (length w / 8)) 0 (length w / 8) ++ drop (length w / 8 * 8) w

-- "A refusal hands back .. every lent word unchanged"
unfoldable pub set_up_words : List ℕ → List ℕ
set_up_words w = cond (wrong_size (length w / 8)) w (fresh_words w)

-- "With L words there are N = floor(L/8) cells", if that is a size that there may be.
unfoldable pub cells_answer : List ℕ → Result ℕ Refusal
cells_answer w = cond (wrong_size (length w / 8)) (Err refusal.BadSize) (Ok (length w / 8))

-- "With L words there are N = floor(L/8) cells"; "A counter starts at 1"; "cell 0 is on top".
unfoldable pub set_up_answer : List ℕ → Result Store Refusal
set_up_answer w =
    cond (wrong_size (length w / 8)) (Err refusal.BadSize) (Ok (record { cells = length w / 8; free = 0; counter = 1 }))

-- "It names an entry exactly if the cell is less than N, is in use, and holds that ticket."
unfoldable pub holds_ticket : List ℕ → Store → ℕ → ℕ → Bool
holds_ticket w s c k = ltb c s.cells && not (eqb (word w c 0) 0) && eqb (word w c 0) k

-- "takes a fresh order number in the same way"
unfoldable pub draw_answer : Store → Result ℕ Refusal
draw_answer s = cond (spent s) (Err refusal.Spent) (Ok s.counter)

-- "raises the counter by 1"
unfoldable pub draw_store : Store → Store
draw_store s = cond (spent s) s (record { cells = s.cells; free = s.free; counter = s.counter + 1 })

-- "Put: 9, 6, 8", and arm alike; "An arm or put takes the top", with "the counter's value" as its ticket.
unfoldable pub claim_answer : Store → Result Handle Refusal
claim_answer s =
    cond (no_free s) (Err refusal.Full) (cond (spent s) (Err refusal.Spent) (Ok (record { cell = s.free; ticket = s.counter })))

-- "An arm or put takes the top" and "raises the counter by 1"; "A refusal hands back the head unchanged".
unfoldable pub claim_store : List ℕ → Store → Store
claim_store w s =
    cond (no_free s || spent s) s (record { cells = s.cells; free = word w s.free 4; counter = s.counter + 1 })

-- "takes the counter's value as both its ticket and its order number": cell c in use, with ticket k; it is in no list yet.
unfoldable pub entered : List ℕ → ℕ → ℕ → ℕ → ℕ → List ℕ
entered w c k key load = put_word (put_word (put_word (put_word (put_word w c 0 k) c 1 k) c 2 key) c 3 load) c 4 0

-- "A refusal hands back .. every lent word unchanged"
unfoldable pub claim_words : List ℕ → Store → ℕ → ℕ → List ℕ
claim_words w s key load = cond (no_free s || spent s) w (entered w s.free s.counter key load)

-- "the words of a free cell other than its link, are zero": the four that told of the entry.
unfoldable pub wiped : List ℕ → ℕ → List ℕ
wiped w c = put_word (put_word (put_word (put_word w c 0 0) c 1 0) c 2 0) c 3 0

-- "the words of a free cell other than its link, are zero"; word 6 stays, which "may serve the heap's position table".
unfoldable pub release_words : List ℕ → Store → ℕ → List ℕ
release_words w s c = put_word (put_word (put_word (wiped w c) c 5 0) c 7 0) c 4 s.free

-- "a freed cell goes on top"
unfoldable pub release_store : Store → ℕ → Store
release_store s c = record { cells = s.cells; free = c; counter = s.counter }

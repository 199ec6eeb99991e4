-- Reads and writes of words, by cases: inside the cells, at a field that is none, and past the last cell.
-- Assumes nothing.
use Prim.Native.Nat.{ℕ, ◌+◌, ◌*◌, ◌/◌, ◌≤◌, ◌<◌}
use mathlib.Core.List.{List}
use mathlib.Core.Path.{◌≡◌}
use lib.ListN.{length, get_or, set}
use lib.Dec.{ltb}
use borrow.Author.Tests.{lt-ltb, le-ltb}
use Rattle.cells.proofs.Cases.{and-false}
use Rattle.cells.specs.Words.{word, put_word}

module _ (w : List ℕ) (c f : ℕ) where
  pub word_in : f < 8 → c < length w / 8 → word w c f ≡ get_or w (c * 8 + f) 0
  unfolding word
  word_in h k = rw (lt-ltb f 8 h, lt-ltb c (length w / 8) k)

  pub word-no-field : 8 ≤ f → word w c f ≡ 0
  unfolding word
  word-no-field h = rw (le-ltb f 8 h)

  pub word-no-cell : length w / 8 ≤ c → word w c f ≡ 0
  unfolding word
  word-no-cell h = rw (le-ltb c (length w / 8) h, and-false (ltb f 8))

  pub put_in : (v : ℕ) → f < 8 → c < length w / 8 → put_word w c f v ≡ set w (c * 8 + f) v
  unfolding put_word
  put_in v h k = rw (lt-ltb f 8 h, lt-ltb c (length w / 8) k)

  pub put-no-field : (v : ℕ) → 8 ≤ f → put_word w c f v ≡ w
  unfolding put_word
  put-no-field v h = rw (le-ltb f 8 h)

  pub put-no-cell : (v : ℕ) → length w / 8 ≤ c → put_word w c f v ≡ w
  unfolding put_word
  put-no-cell v h = rw (le-ltb c (length w / 8) h, and-false (ltb f 8))

-- Memory written cell by cell, and what set-up leaves of it.
-- Assumes nothing.
use Prim.Native.Nat.{ℕ, zero, suc, ◌+◌, ◌*◌, ◌/◌, ◌%◌, ◌≤◌, ◌<◌}
use native.Mathlib.Nat.{zero-add}
use native.Mathlib.Numerals.{add-one}
use native.Mathlib.Omega.{arith}
use mathlib.Core.Bool.{true, false}
use mathlib.Core.List.{List, ◌++◌}
use mathlib.Core.Path.{◌≡◌, sym, ap, ◌∙◌}
use lib.ListN.{length, get_or, set, take, drop, length-append, length-drop, get_or-append}
use lib.Seq.{paste, paste-zero, paste-suc, take_all, drop_at}
use borrow.Author.Tests.{eq-eqb, ne_eqb, lt-ltb, le-ltb}
use Rattle.cells.proofs.Cases.{test}
use Rattle.cells.proofs.Memory.{word_in}
use Rattle.cells.specs.Words.{word}
use Rattle.cells.specs.Store.{wrong_size, memory, fresh_word, fresh_link, fresh_words, set_up_words, set_up_answer}
use Rattle.std.specs.Prelude.{Ok, Err}
use Rattle.cells.specs.declared.refusal.Refusal.TheVariants as refusal

-- A size that is none, one that is too large, and one that will do.
pub size_none : (n : ℕ) → n ≡ 0 → wrong_size n ≡ true
unfolding wrong_size
size_none n e = rw (eq-eqb n 0 e)

pub size-over : (n : ℕ) → 4096 < n → wrong_size n ≡ true
unfolding wrong_size
size-over n h = rw (ne_eqb n 0 (λ e. omega arith), lt-ltb 4096 n h)

pub size-right : (n : ℕ) → 0 < n → n ≤ 4096 → wrong_size n ≡ false
unfolding wrong_size
size-right n p h = rw (ne_eqb n 0 (λ e. omega arith), le-ltb 4096 n h)

-- The word of a fresh cell: its link, or 0 elsewhere.
pub fresh-last : (n c : ℕ) → c + 1 ≡ n → fresh_word n c 4 ≡ 4096
unfolding fresh_word fresh_link
fresh-last n c e = rw (eq-eqb (c + 1) n e)

pub fresh-link : (n c : ℕ) → (c + 1 ≡ n → ⊥) → fresh_word n c 4 ≡ c + 1
unfolding fresh_word fresh_link
fresh-link n c d = rw (ne_eqb (c + 1) n d)

pub fresh-zero : (n c f : ℕ) → (f ≡ 4 → ⊥) → fresh_word n c f ≡ 0
unfolding fresh_word
fresh-zero n c f d = rw (ne_eqb f 4 d)

module _ (g : ℕ → ℕ → ℕ) where
  pub memory-length : (c n : ℕ) → length (memory g c n) ≡ n * 8
  unfolding memory
  memory-length c zero = omega arith
  memory-length c (suc n) = omega (arith, memory-length (suc c) n)

  -- Word j of memory is the word of cell j / 8 at field j mod 8, counted from the first cell.
  pub memory-from : (c n j : ℕ) → j < n * 8 → get_or (memory g c n) j 0 ≡ g (c + j / 8) (j % 8)
  unfolding memory
  memory-from c zero j h = absurd (omega arith)
  memory-from c (suc n) j h = go j h (memory-from (suc c) n)
    where
      go :
          (j : ℕ)
          → j < suc n * 8
          → ((i : ℕ) → i < n * 8 → get_or (memory g (suc c) n) i 0 ≡ g (suc c + i / 8) (i % 8))
          → get_or (memory g c (suc n)) j 0 ≡ g (c + j / 8) (j % 8)
      go zero h r = ap (λ (d : ℕ). g d 0) (omega arith)
      go (suc zero) h r = ap (λ (d : ℕ). g d 1) (omega arith)
      go (suc (suc zero)) h r = ap (λ (d : ℕ). g d 2) (omega arith)
      go (suc (suc (suc zero))) h r = ap (λ (d : ℕ). g d 3) (omega arith)
      go (suc (suc (suc (suc zero)))) h r = ap (λ (d : ℕ). g d 4) (omega arith)
      go (suc (suc (suc (suc (suc zero))))) h r = ap (λ (d : ℕ). g d 5) (omega arith)
      go (suc (suc (suc (suc (suc (suc zero)))))) h r = ap (λ (d : ℕ). g d 6) (omega arith)
      go (suc (suc (suc (suc (suc (suc (suc zero))))))) h r = ap (λ (d : ℕ). g d 7) (omega arith)
      go (suc (suc (suc (suc (suc (suc (suc (suc i)))))))) h r =
          r i (omega arith)
          ∙ ap (λ (d : ℕ). g d (i % 8)) (omega arith)
          ∙ ap (λ (f : ℕ). g (c + suc (suc (suc (suc (suc (suc (suc (suc i))))))) / 8) f) (omega arith)

  pub memory-at : (n j : ℕ) → j < n * 8 → get_or (memory g 0 n) j 0 ≡ g (j / 8) (j % 8)
  memory-at n j h = memory-from 0 n j h ∙ ap (λ (d : ℕ). g d (j % 8)) (omega arith)

-- The words after the first j of them were written afresh.
unfoldable pub filled : List ℕ → ℕ → List ℕ
filled w j = paste w 0 (memory (fresh_word (length w / 8)) 0 (length w / 8)) j

module _ (w : List ℕ) where
  pub filled_none : w ≡ filled w 0
  unfolding filled
  filled_none = paste-zero w 0 (memory (fresh_word (length w / 8)) 0 (length w / 8))

  pub filled_next :
      (j x : ℕ) → j < length w / 8 * 8 → x ≡ fresh_word (length w / 8) (j / 8) (j % 8) → set (filled w j) j x ≡ filled w (j + 1)
  unfolding filled
  filled_next j x h e =
      let n : ℕ = length w / 8 in
      let m : List ℕ = memory (fresh_word n) 0 n in
      let k : j < length m = rw (memory-length (fresh_word n) 0 n) h in
      let s : set (paste w 0 m j) (0 + j) (get_or m j 0) ≡ paste w 0 m (suc j) =
      paste-suc w 0 m j 0 (omega arith) k in
      ap (λ (v : ℕ). set (paste w 0 m j) j v) (e ∙ sym (memory-at (fresh_word n) n j h))
      ∙ ap (λ (i : ℕ). set (paste w 0 m j) i (get_or m j 0)) (sym (zero-add j))
      ∙ s
      ∙ ap (λ (i : ℕ). paste w 0 m i) (sym (add-one j))

  pub filled-all : filled w (length w / 8 * 8) ≡ fresh_words w
  unfolding filled fresh_words
  filled-all =
      let n : ℕ = length w / 8 in
      let m : List ℕ = memory (fresh_word n) 0 n in
      let t : take (n * 8) m ≡ m = take_all (n * 8) m (omega (arith, memory-length (fresh_word n) 0 n)) in
      rw (zero-add (n * 8)) (ap (λ (x : List ℕ). x ++ drop (n * 8) w) t)

  pub fresh-length : length (fresh_words w) ≡ length w
  unfolding fresh_words
  fresh-length = simp (length-append, length-drop) (omega (arith, memory-length (fresh_word (length w / 8)) 0 (length w / 8)))

  pub fresh-tail : drop (length w / 8 * 8) (fresh_words w) ≡ drop (length w / 8 * 8) w
  unfolding fresh_words
  fresh-tail = drop_at (memory (fresh_word (length w / 8)) 0 (length w / 8)) (drop (length w / 8 * 8) w) (length w / 8 * 8) (memory-length (fresh_word (length w / 8)) 0 (length w / 8))

  pub fresh-word : (c f : ℕ) → c < length w / 8 → f < 8 → word (fresh_words w) c f ≡ fresh_word (length w / 8) c f
  unfolding fresh_words
  fresh-word c f h k =
      word_in (fresh_words w) c f k (rw fresh-length h) ∙ at
    where
      n : ℕ
      n = length w / 8

      at : get_or (fresh_words w) (c * 8 + f) 0 ≡ fresh_word (length w / 8) c f
      at =
          get_or-append (memory (fresh_word n) 0 n) (drop (n * 8) w) 0 (c * 8 + f) (omega (arith, memory-length (fresh_word n) 0 n))
          ∙ memory-at (fresh_word n) n (c * 8 + f) (omega arith)
          ∙ ap (λ (d : ℕ). fresh_word n d ((c * 8 + f) % 8)) (omega arith)
          ∙ ap (λ (e : ℕ). fresh_word n c e) (omega arith)

  -- Set-up at a wrong size, and at a right one.
  pub set-up-wrong : wrong_size (length w / 8) ≡ true → (set_up_answer w ≡ Err refusal.BadSize) × (set_up_words w ≡ w)
  unfolding set_up_answer set_up_words
  set-up-wrong e = (rw e, rw e)

  pub set-up-right :
      wrong_size (length w / 8) ≡ false
      → (set_up_answer w ≡ Ok (record { cells = length w / 8; free = 0; counter = 1 })) × (set_up_words w ≡ fresh_words w)
  unfolding set_up_answer set_up_words
  set-up-right e = (rw e, rw e)

  -- "The last L mod 8 words are never touched."
  pub set-up-tail : drop (length w / 8 * 8) (set_up_words w) ≡ drop (length w / 8 * 8) w
  set-up-tail =
      test (wrong_size (length w / 8))
      (λ e. ap (λ (x : List ℕ). drop (length w / 8 * 8) x) (set-up-wrong e).1)
      (λ e. ap (λ (x : List ℕ). drop (length w / 8 * 8) x) (set-up-right e).1 ∙ fresh-tail)

  pub set-up-word :
      (c f : ℕ)
      → length w / 8 ≤ 4096
      → c < length w / 8
      → f < 8
      → word (set_up_words w) c f ≡ fresh_word (length w / 8) c f
  set-up-word c f l h k =
      ap (λ (x : List ℕ). word x c f) (set-up-right (size-right (length w / 8) (omega arith) l)).1 ∙ fresh-word c f h k

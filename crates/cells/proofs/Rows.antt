-- Each word of the memory that a claim or a release leaves: one cell is rewritten, and all else stays.
-- Assumes nothing.
use Prim.Native.Nat.{ℕ, ◌*◌, ◌/◌, ◌<◌}
use native.Mathlib.Omega.{arith}
use mathlib.Core.Bool.{cond}
use mathlib.Core.List.{List}
use mathlib.Core.Logic.{◌≢◌}
use mathlib.Core.Path.{◌≡◌, refl, sym, ap, ◌∙◌}
use lib.ListN.{length, drop}
use lib.Dec.{eqb}
use borrow.Author.Tests.{eq-eqb, ne_eqb}
use Rattle.cells.proofs.Cases.{same?}
use Rattle.cells.proofs.Places.{put-length, put_same, put-other-field, put-other-cell, put-tail, each-field}
use Rattle.cells.specs.Words.{word, put_word}
use Rattle.cells.specs.Store.{entered, wiped, release_words}
use Rattle.cells.specs.declared.store.Store.{Store}

-- The words x are w with the words g in cell c.
pub record Rewritten (w : List ℕ) (c : ℕ) (g : ℕ → ℕ) (x : List ℕ) : Type 0 where
  pub long : length x ≡ length w
  pub tail : drop (length w / 8 * 8) x ≡ drop (length w / 8 * 8) w
  pub here : (f : ℕ) → word x c f ≡ g f
  pub others : (c' f : ℕ) → c ≢ c' → word x c' f ≡ word w c' f

-- The words of a cell after one write to it; at numerals the test computes.
pub put-field :
    (w : List ℕ) (c f v f' : ℕ) → f < 8 → c < length w / 8 → word (put_word w c f v) c f' ≡ cond (eqb f f') v (word w c f')
put-field w c f v f' h k =
    same? f f'
    (λ e. rw (eq-eqb f f' e, ← e) (put_same w c f v h k))
    (λ d. rw (ne_eqb f f' d) (put-other-field w c f v c f' d))

module _ (w : List ℕ) (c : ℕ) where
  pub rewritten-none : Rewritten w c (word w c) w
  rewritten-none = record { long = refl; tail = refl; here = λ f. refl; others = λ c' f d. refl }

  -- One write more.
  pub rewritten-put :
      (g : ℕ → ℕ) (x : List ℕ) (f v : ℕ)
      → f < 8
      → c < length w / 8
      → Rewritten w c g x
      → Rewritten w c (λ (f' : ℕ). cond (eqb f f') v (g f')) (put_word x c f v)
  rewritten-put g x f v h k r =
      record {
        long = put-length x c f v ∙ r.long;
        tail = past;
        here = λ f'. put-field x c f v f' h (rw r.long k) ∙ ap (λ (y : ℕ). cond (eqb f f') v y) (r.here f');
        others = λ c' f' d. put-other-cell x c f v c' f' d ∙ r.others c' f' d;
      }
    where
      past : drop (length w / 8 * 8) (put_word x c f v) ≡ drop (length w / 8 * 8) w
      past =
          ap (λ (n : ℕ). drop (n / 8 * 8) (put_word x c f v)) (sym r.long)
          ∙ put-tail x c f v
          ∙ ap (λ (n : ℕ). drop (n / 8 * 8) x) r.long
          ∙ r.tail

  -- The words of a cell that an entry was put into.
  unfoldable pub entered_word : ℕ → ℕ → ℕ → ℕ → ℕ
  entered_word k key load f =
      cond (eqb 4 f) 0 (cond (eqb 3 f) load (cond (eqb 2 f) key (cond (eqb 1 f) k (cond (eqb 0 f) k (word w c f)))))

  pub entered-words :
      (k key load : ℕ) → c < length w / 8 → Rewritten w c (entered_word k key load) (entered w c k key load)
  unfolding entered entered_word
  entered-words k key load h =
      rewritten-put _ _ 4 0 (omega arith) h
      (rewritten-put _ _ 3 load (omega arith) h
      (rewritten-put _ _ 2 key (omega arith) h
      (rewritten-put _ _ 1 k (omega arith) h (rewritten-put _ _ 0 k (omega arith) h rewritten-none))))

  -- The words of a cell that was given back, with the old top.
  unfoldable pub released_word : ℕ → ℕ → ℕ
  released_word top f =
      cond (eqb 4 f) top
      (cond (eqb 7 f) 0
      (cond (eqb 5 f) 0 (cond (eqb 3 f) 0 (cond (eqb 2 f) 0 (cond (eqb 1 f) 0 (cond (eqb 0 f) 0 (word w c f)))))))

  pub released-words : (s : Store) → c < length w / 8 → Rewritten w c (released_word s.free) (release_words w s c)
  unfolding release_words wiped released_word
  released-words s h =
      rewritten-put _ _ 4 s.free (omega arith) h
      (rewritten-put _ _ 7 0 (omega arith) h
      (rewritten-put _ _ 5 0 (omega arith) h
      (rewritten-put _ _ 3 0 (omega arith) h
      (rewritten-put _ _ 2 0 (omega arith) h
      (rewritten-put _ _ 1 0 (omega arith) h (rewritten-put _ _ 0 0 (omega arith) h rewritten-none))))))

-- A cell that was given back keeps nothing but its link and word 6.
pub released-blank : (w : List ℕ) (c top f : ℕ) → f < 8 → f ≢ 4 → f ≢ 6 → released_word w c top f ≡ 0
unfolding released_word
released-blank w c top f h =
    each-field (λ (g : ℕ). g ≢ 4 → g ≢ 6 → released_word w c top g ≡ 0)
    (λ d k. refl)
    (λ d k. refl)
    (λ d k. refl)
    (λ d k. refl)
    (λ d k. absurd (d refl))
    (λ d k. refl)
    (λ d k. absurd (k refl))
    (λ d k. refl)
    f h

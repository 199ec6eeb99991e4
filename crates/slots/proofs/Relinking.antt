-- Links written in words: cell q follows cell p, and all else is linked as before.
-- Assumes nothing.
use Prim.Native.Nat.{ℕ, ◌/◌, ◌≤◌, ◌<◌}
use native.Mathlib.Omega.{arith}
use mathlib.Core.Bool.{cond}
use mathlib.Core.List.{List, [], ◌∷◌}
use mathlib.Core.Logic.{◌≢◌}
use mathlib.Core.Path.{◌≡◌, refl, sym, ap, ◌∙◌}
use lib.Dec.{eqb}
use lib.ListN.{length}
use borrow.Author.Tests.{eq-eqb, ne_eqb}
use Rattle.cells.proofs.Cases.{same?}
use Rattle.cells.proofs.Lists.{times-here}
use Rattle.cells.proofs.Places.{put-length, put_same, put-other-field, put-other-cell, put-tail}
use Rattle.cells.specs.Lists.{times}
use Rattle.cells.specs.Stack.{no_cell}
use Rattle.cells.specs.Words.{word, put_word}
use Rattle.slots.specs.Rings.{next, previous, relinked}
use Rattle.slots.specs.Stand.{Relinked}
use Rattle.slots.specs.declared.ring.Ends.{Ends}
use Rattle.slots.proofs.Linking.{Relinks}

-- A link of cell p is written; no cell has no links.
unfoldable link_word : List ℕ → ℕ → ℕ → ℕ → List ℕ
link_word w p f v = cond (eqb p no_cell) w (put_word w p f v)

-- By whether p is a cell.
link-none : (w : List ℕ) (p f v : ℕ) → p ≡ no_cell → link_word w p f v ≡ w
unfolding link_word
link-none w p f v e = rw (eq-eqb p no_cell e)

link-some : (w : List ℕ) (p f v : ℕ) → p ≢ no_cell → link_word w p f v ≡ put_word w p f v
unfolding link_word
link-some w p f v d = rw (ne_eqb p no_cell d)

-- The cell and the field are read as written,
link-same : (w : List ℕ) (p f v : ℕ) → f < 8 → p ≢ no_cell → p < length w / 8 → word (link_word w p f v) p f ≡ v
link-same w p f v h d k = rw (link-some w p f v d) (put_same w p f v h k)

-- and a word of another cell or another field is as it was.
link-other-cell : (w : List ℕ) (p f v c f' : ℕ) → p ≢ c → word (link_word w p f v) c f' ≡ word w c f'
link-other-cell w p f v c f' d =
    same? p no_cell
    (λ e. rw (link-none w p f v e))
    (λ e. rw (link-some w p f v e) (put-other-cell w p f v c f' d))

link-other-field : (w : List ℕ) (p f v c f' : ℕ) → f ≢ f' → word (link_word w p f v) c f' ≡ word w c f'
link-other-field w p f v c f' d =
    same? p no_cell
    (λ e. rw (link-none w p f v e))
    (λ e. rw (link-some w p f v e) (put-other-field w p f v c f' d))

-- Nothing is written where the words are the same,
pub relinked-none : (xs w : List ℕ) → Relinked xs w w
relinked-none xs w = record { size = refl; tail = refl; fields = λ c f d e. refl; others = λ c f h. refl }

-- and links that are written twice are written.
pub relinked-both : (xs w w' w'' : List ℕ) → Relinked xs w w' → Relinked xs w' w'' → Relinked xs w w''
relinked-both xs w w' w'' r s =
    record {
      size = s.size ∙ r.size;
      tail = (rw r.size at s.tail) ∙ r.tail;
      fields = λ c f d e. s.fields c f d e ∙ r.fields c f d e;
      others = λ c f h. s.others c f h ∙ r.others c f h;
    }

-- What is written in cells of a list is written in those of a longer one.
pub relinked-more : (xs ys w w' : List ℕ) → ((c : ℕ) → times c ys ≡ 0 → times c xs ≡ 0) → Relinked xs w w' → Relinked ys w w'
relinked-more xs ys w w' more r =
    record { size = r.size; tail = r.tail; fields = r.fields; others = λ c f h. r.others c f (more c h) }

-- One link of a cell of the list is written.
link-relinked :
    (xs w : List ℕ) (p f v : ℕ)
    → ((f' : ℕ) → f' ≢ 4 → f' ≢ 5 → f ≢ f')
    → (p ≢ no_cell → 1 ≤ times p xs)
    → Relinked xs w (link_word w p f v)
link-relinked xs w p f v link inside =
    same? p no_cell
    (λ e. rw (link-none w p f v e) (relinked-none xs w))
    (λ d. rw (link-some w p f v d)
    (record {
      size = put-length w p f v;
      tail = put-tail w p f v;
      fields = λ c f' d₄ d₅. put-other-field w p f v c f' (link f' d₄ d₅);
      others = λ c f' h. put-other-cell w p f v c f' (λ e. other c h e (inside d));
    }))
  where
    other : (c : ℕ) → times c xs ≡ 0 → p ≡ c → 1 ≤ times p xs → ⊥
    other c h e k = omega (arith, rw e at k)

module _ (w : List ℕ) (e : Ends) (x : ℕ) where
  -- What follows and precedes no cell are the ends, and what follows and precedes a cell stands in its words.
  pub next-none : x ≡ no_cell → next w e x ≡ e.first
  unfolding next
  next-none h = rw (eq-eqb x no_cell h)

  pub next-some : x ≢ no_cell → next w e x ≡ word w x 4
  unfolding next
  next-some d = rw (ne_eqb x no_cell d)

  pub previous-none : x ≡ no_cell → previous w e x ≡ e.last
  unfolding previous
  previous-none h = rw (eq-eqb x no_cell h)

  pub previous-some : x ≢ no_cell → previous w e x ≡ word w x 5
  unfolding previous
  previous-some d = rw (ne_eqb x no_cell d)

module _ (w : List ℕ) (e : Ends) (p q : ℕ) where
  -- The ends where q follows p.
  first-new : p ≡ no_cell → (relinked w e p q).ends.first ≡ q
  unfolding relinked
  first-new h = rw (eq-eqb p no_cell h)

  first-kept : p ≢ no_cell → (relinked w e p q).ends.first ≡ e.first
  unfolding relinked
  first-kept d = rw (ne_eqb p no_cell d)

  last-new : q ≡ no_cell → (relinked w e p q).ends.last ≡ p
  unfolding relinked
  last-new h = rw (eq-eqb q no_cell h)

  last-kept : q ≢ no_cell → (relinked w e p q).ends.last ≡ e.last
  unfolding relinked
  last-kept d = rw (ne_eqb q no_cell d)

  -- The words in which q follows p.
  relinked-words : (relinked w e p q).words ≡ link_word (link_word w p 4 q) q 5 p
  unfolding relinked link_word
  relinked-words = refl

  -- Only links of p and q are written.
  pub relinked-only :
      (xs : List ℕ)
      → (p ≢ no_cell → 1 ≤ times p xs)
      → (q ≢ no_cell → 1 ≤ times q xs)
      → Relinked xs w (relinked w e p q).words
  relinked-only xs hp hq =
      rw relinked-words
      (relinked-both xs w (link_word w p 4 q) (link_word (link_word w p 4 q) q 5 p)
      (link-relinked xs w p 4 q (λ f d₄ d₅ s. d₄ (sym s)) hp)
      (link-relinked xs (link_word w p 4 q) q 5 p (λ f d₄ d₅ s. d₅ (sym s)) hq))

  -- In them q follows p, and all else is linked as before.
  pub relinked-links :
      (p ≢ no_cell → p < length w / 8)
      → (q ≢ no_cell → q < length w / 8)
      → Relinks
      (next w e)
      (previous w e)
      (next (relinked w e p q).words (relinked w e p q).ends)
      (previous (relinked w e p q).words (relinked w e p q).ends)
      p
      q
  relinked-links hp hq =
      record { next_here = next_here; prev-here = prev-here; next-else = next-else; prev-else = prev-else }
    where
      w₁ : List ℕ
      w₁ = link_word w p 4 q

      w' : List ℕ
      w' = (relinked w e p q).words

      e' : Ends
      e' = (relinked w e p q).ends

      size : length w₁ ≡ length w
      size = (link-relinked (p ∷ []) w p 4 q (λ f d₄ d₅ s. d₄ (sym s)) (λ d. omega (arith, times-here p p [] refl))).size

      four : (x : ℕ) → word w' x 4 ≡ word w₁ x 4
      four x = ap (λ (v : List ℕ). word v x 4) relinked-words ∙ link-other-field w₁ q 5 p x 4 (λ s. omega arith)

      five : (x : ℕ) → word w₁ x 5 ≡ word w x 5
      five x = link-other-field w p 4 q x 5 (λ s. omega arith)

      next_here : next w' e' p ≡ q
      next_here =
          same? p no_cell
          (λ h. next-none w' e' p h ∙ first-new h)
          (λ d. next-some w' e' p d ∙ four p ∙ link-same w p 4 q (omega arith) d (hp d))

      prev-here : previous w' e' q ≡ p
      prev-here =
          same? q no_cell
          (λ h. previous-none w' e' q h ∙ last-new h)
          (λ d.
          previous-some w' e' q d
          ∙ ap (λ (v : List ℕ). word v q 5) relinked-words
          ∙ link-same w₁ q 5 p (omega arith) d (rw size (hq d)))

      next-else : (x : ℕ) → x ≢ p → next w' e' x ≡ next w e x
      next-else x d =
          same? x no_cell
          (λ h. next-none w' e' x h ∙ first-kept (λ s. d (h ∙ sym s)) ∙ sym (next-none w e x h))
          (λ n.
          next-some w' e' x n
          ∙ four x
          ∙ link-other-cell w p 4 q x 4 (λ s. d (sym s))
          ∙ sym (next-some w e x n))

      prev-else : (x : ℕ) → x ≢ q → previous w' e' x ≡ previous w e x
      prev-else x d =
          same? x no_cell
          (λ h. previous-none w' e' x h ∙ last-kept (λ s. d (h ∙ sym s)) ∙ sym (previous-none w e x h))
          (λ n.
          previous-some w' e' x n
          ∙ ap (λ (v : List ℕ). word v x 5) relinked-words
          ∙ link-other-cell w₁ q 5 p x 5 (λ s. d (sym s))
          ∙ five x
          ∙ sym (previous-some w e x n))

-- Each filled position holds a cell in use that knows it: so each cell in use stands at one exactly if there are as many of the one as of
-- the other.
-- Assumes nothing.
use Prim.Native.Nat.{ℕ, zero, suc, ◌+◌, ◌≤◌, ◌<◌}
use native.Mathlib.Omega.{arith}
use mathlib.Core.Bool.{Bool, true, false, cond}
use mathlib.Core.List.{List, [], ◌∷◌}
use mathlib.Core.Path.{◌≡◌, refl, sym, ap, ◌∙◌}
use lib.ListN.{length}
use Rattle.cells.specs.Lists.{All, times, sum_below}
use Rattle.cells.specs.Words.{word}
use Rattle.cells.specs.Rules.{in_use}
use Rattle.cells.specs.Stack.{is_free, frees}
use Rattle.cells.proofs.Cases.{test, same?, at_most?, clash}
use Rattle.cells.proofs.Lists.{times-here, times-past}
use Rattle.cells.proofs.Sums.{sum_below-add, sum_below-same, sum_below-ones, sum_below-pinned, length-times}
use Rattle.cells.proofs.Used.{in-use-free, not-free-used}
use Rattle.queue.specs.Rules.{SeatRule}
use Rattle.queue.specs.declared.head.Head.{Head}

-- The cells at the positions below k.
seated : List ℕ → ℕ → List ℕ
seated w zero = []
seated w (suc k) = word w k 6 ∷ seated w k

seated-length : (w : List ℕ) (k : ℕ) → length (seated w k) ≡ k
unfolding seated
seated-length w zero = refl
seated-length w (suc k) = omega (arith, seated-length w k)

-- A cell stands among them where it stands at one of the positions.
stands-seated : (w : List ℕ) (k p c : ℕ) → p < k → word w p 6 ≡ c → 1 ≤ times c (seated w k)
unfolding seated
stands-seated w zero p c h e = absurd (omega arith)
stands-seated w (suc k) p c h e = go (stands-seated w k p c)
  where
    go : (p < k → word w p 6 ≡ c → 1 ≤ times c (seated w k)) → 1 ≤ times c (word w k 6 ∷ seated w k)
    go r =
        same? (word w k 6) c
        (λ q. omega (arith, times-here c (word w k 6) (seated w k) q))
        (λ d.
        let low : p < k = same? p k (λ q. absurd (d (ap (λ (x : ℕ). word w x 6) (sym q) ∙ e))) (λ q. omega arith) in
        omega (arith, times-past c (word w k 6) (seated w k) d, r low e))

-- A cell that knows its position, one below k.
pub record Sat (w : List ℕ) (k c : ℕ) : Type 0 where
  pub low : word w c 5 < k
  pub here : word w (word w c 5) 6 ≡ c
  pub used : in_use w c ≡ true

-- One for a cell in use, none for a free one; together with the free ones they are all.
bit : List ℕ → ℕ → ℕ
bit w c = cond (is_free w c) 0 1

bits : (w : List ℕ) (n : ℕ) → sum_below (bit w) n + frees w n ≡ n
unfolding frees bit
bits w n =
    sym (sum_below-add (λ (c : ℕ). cond (is_free w c) 0 1) (λ (c : ℕ). cond (is_free w c) 1 0) n)
    ∙ sum_below-same (λ (c : ℕ). cond (is_free w c) 0 1 + cond (is_free w c) 1 0) (λ (c : ℕ). 1) n (λ c h. one (is_free w c))
    ∙ sum_below-ones n
  where
    one : (t : Bool) → cond t 0 1 + cond t 1 0 ≡ 1
    one true = refl
    one false = refl

module _ (w : List ℕ) (h : Head) (seats : (p : ℕ) → p < h.count → SeatRule w h p) where
  all-below : (k : ℕ) → k ≤ h.count → All (λ (x : ℕ). x < h.store.cells) (seated w k)
  unfolding seated
  all-below zero l = tt
  all-below (suc k) l = ((seats k (omega arith)).inside, all-below k (omega arith))

  sat : (k : ℕ) → k ≤ h.count → (c : ℕ) → 1 ≤ times c (seated w k) → Sat w k c
  unfolding seated times
  sat zero l c s = absurd (omega arith)
  sat (suc k) l c s = go (sat k (omega arith) c)
    where
      go : (1 ≤ times c (seated w k) → Sat w k c) → Sat w (suc k) c
      go r =
          same? (word w k 6) c
          (λ e.
          let rule : SeatRule w h k = seats k (omega arith) in
          let at : word w c 5 ≡ k = ap (λ (x : ℕ). word w x 5) (sym e) ∙ rule.known in
          record { low = omega arith; here = ap (λ (x : ℕ). word w x 6) at ∙ e; used = ap (in_use w) (sym e) ∙ rule.used })
          (λ d.
          let v : Sat w k c = r (omega (arith, s, times-past c (word w k 6) (seated w k) d)) in
          record { low = omega (arith, v.low); here = v.here; used = v.used })

  once : (k : ℕ) → k ≤ h.count → (c : ℕ) → times c (seated w k) ≤ 1
  unfolding seated times
  once zero l c = omega arith
  once (suc k) l c = go (once k (omega arith) c)
    where
      go : times c (seated w k) ≤ 1 → times c (word w k 6 ∷ seated w k) ≤ 1
      go r =
          same? (word w k 6) c
          (λ e.
          let at : word w c 5 ≡ k = ap (λ (x : ℕ). word w x 5) (sym e) ∙ (seats k (omega arith)).known in
          at_most? (times c (seated w k)) 0
          (λ z. omega (arith, times-here c (word w k 6) (seated w k) e))
          (λ z. absurd (omega (arith, (sat k (omega arith) c z).low))))
          (λ d. omega (arith, times-past c (word w k 6) (seated w k) d))

  at_most : (c : ℕ) → times c (seated w h.count) ≤ bit w c
  unfolding bit
  at_most c =
      test (is_free w c)
      (λ e.
      rw e
      (at_most? (times c (seated w h.count)) 0 (λ z. z) (λ z. clash e (in-use-free w c (sat h.count (omega arith) c z).used))))
      (λ e. rw e (once h.count (omega arith) c))

  -- The positions that are filled, counted cell by cell.
  counted : sum_below (λ (c : ℕ). times c (seated w h.count)) h.store.cells ≡ h.count
  counted = length-times h.store.cells (seated w h.count) (all-below h.count (omega arith)) ∙ seated-length w h.count

  -- As many cells in use: each stands at one of the positions.
  pub each-sits : h.count + frees w h.store.cells ≡ h.store.cells → (c : ℕ) → c < h.store.cells → in_use w c ≡ true
      → Sat w h.count c
  unfolding bit
  each-sits e c l u =
      let full : times c (seated w h.count) ≡ bit w c =
      sum_below-pinned (λ (x : ℕ). times x (seated w h.count)) (bit w) h.store.cells (λ x b. at_most x)
      (omega (arith, bits w h.store.cells, counted)) c l in
      sat h.count (omega arith) c (omega (arith, rw (in-use-free w c u) at full))

  -- Each stands at one of the positions: so there are as many.
  pub sits-count : ((c : ℕ) → c < h.store.cells → in_use w c ≡ true → word w c 5 < h.count)
      → ((c : ℕ) → c < h.store.cells → in_use w c ≡ true → word w (word w c 5) 6 ≡ c)
      → h.count + frees w h.store.cells ≡ h.store.cells
  unfolding bit
  sits-count placed found =
      omega (
        arith,
        bits w h.store.cells,
        counted,
        sum_below-same (λ (c : ℕ). times c (seated w h.count)) (bit w) h.store.cells (λ c l. all c l),
      )
    where
      all : (c : ℕ) → c < h.store.cells → times c (seated w h.count) ≡ bit w c
      all c l =
          test (is_free w c)
          (λ e. rw e (omega (arith, rw e at (at_most c))))
          (λ e.
          let u : in_use w c ≡ true = not-free-used w c e in
          rw e (omega (arith, rw e at (at_most c), stands-seated w h.count (word w c 5) c (placed c l u) (found c l u))))

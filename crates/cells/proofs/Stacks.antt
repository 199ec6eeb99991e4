-- The free stack: its test passes exactly if its rule holds.
-- Assumes nothing.
use Prim.Native.Nat.{ℕ, zero, suc, ◌+◌, ◌-◌, ◌≤◌, ◌<◌}
use native.Mathlib.Numerals.{add-one}
use native.Mathlib.Omega.{arith}
use mathlib.Core.Bool.{Bool, true, false, cond, ◌&&◌}
use mathlib.Core.List.{List, [], ◌∷◌}
use mathlib.Core.Logic.{◌↔◌}
use mathlib.Core.Path.{◌≡◌, refl, sym, ◌∙◌}
use lib.Dec.{ltb, eqb}
use lib.ListN.{length}
use borrow.Author.Tests.{ltb-true, eqb-true, lt-ltb, le-ltb, eq-eqb}
use Rattle.cells.proofs.Cases.{test, clash, at_most?, and-true}
use Rattle.cells.proofs.Chains.{AreCells, follow, length-follow, chain-once}
use Rattle.cells.proofs.Lists.{all_map, all-times}
use Rattle.cells.proofs.Sums.{sum_below-same, sum_below-pinned, length-times, times_none, all-standing}
use Rattle.cells.specs.Lists.{All, times, sum_below}
use Rattle.cells.specs.Stack.{no_cell, Chain, is_free, link, frees, stands, stands_as, walks, StackRule, stack_test}

-- A cell that may stand in the stack is below n, and free.
pub stands-true : (w : List ℕ) (n c : ℕ) → stands w n c ≡ true → (c < n) × (is_free w c ≡ true)
unfolding stands
stands-true w n c e = let both = and-true (ltb c n) (is_free w c) e in (ltb-true c n both.0, both.1)

module _ (w : List ℕ) (ok : ℕ → Bool) where
  -- A walk that passes is a list of linked cells, each of which passes.
  walks-linked : (c k : ℕ) → walks w ok c k ≡ true → Chain (link w) c (follow (link w) c k)
  unfolding walks follow
  walks-linked c zero e = eqb-true c no_cell e
  walks-linked c (suc k) e = (refl, walks-linked (link w c) k (and-true (ok c) (walks w ok (link w c) k) e).1)

  walks-all : (c k : ℕ) → walks w ok c k ≡ true → All (λ (x : ℕ). ok x ≡ true) (follow (link w) c k)
  unfolding walks follow
  walks-all c zero e = tt
  walks-all c (suc k) e =
      let both = and-true (ok c) (walks w ok (link w c) k) e in (both.0, walks-all (link w c) k both.1)

  -- And the other way round.
  chain-walks : (a : ℕ) (cs : List ℕ) → Chain (link w) a cs → All (λ (x : ℕ). ok x ≡ true) cs → walks w ok a (length cs) ≡ true
  unfolding walks
  chain-walks a [] h p = eq-eqb a no_cell h
  chain-walks a (c ∷ cs) h p = rw (h.0, p.0) (chain-walks (link w c) cs h.1 p.1)

  -- The steps of the code: one link more is followed, the walk ends, or a cell fails.
  pub walks-on : (c k : ℕ) → 0 < k → ok c ≡ true → walks w ok c k ≡ walks w ok (link w c) (k - 1)
  unfolding walks
  walks-on c zero h e = absurd (omega arith)
  walks-on c (suc k) h e = let one : suc k - 1 ≡ k = omega arith in rw (e, one)

  pub walks-end : (c k : ℕ) → k ≤ 0 → walks w ok c k ≡ eqb c no_cell
  unfolding walks
  walks-end c zero h = refl
  walks-end c (suc k) h = absurd (omega arith)

  pub walks-stuck : (c k : ℕ) → 0 < k → ok c ≡ false → walks w ok c k ≡ false
  unfolding walks
  walks-stuck c zero h e = absurd (omega arith)
  walks-stuck c (suc k) h e = rw e

module _ (w : List ℕ) (n : ℕ) where
  -- Each is one of the first n cells, and free.
  abbrev AllStand : List ℕ → Type 0
  AllStand cs = All (λ (c : ℕ). stands w n c ≡ true) cs

  -- As many free cells below n as there are, linked up to no cell, are all of them, once each.
  module _ (small : n ≤ no_cell) (cs : List ℕ) (p : AllStand cs) where
    below : All (λ (c : ℕ). c < n) cs
    below = all_map (λ c e. (stands-true w n c e).0) cs p

    are_cells : AreCells cs
    are_cells = all_map (λ c h. omega arith) cs below

    -- A cell stands at most as often as it is to stand.
    at_most_free : (top c : ℕ) → Chain (link w) top cs → times c cs ≤ cond (is_free w c) 1 0
    at_most_free top c h =
        test (is_free w c)
        (λ e. rw e (chain-once (link w) c top cs h are_cells))
        (λ e. rw e (omega (arith, times_none c cs (all_map (λ x s q. clash (stands-true w n x s).1 (rw q e)) cs p))))

    all_once : (top : ℕ) → Chain (link w) top cs → length cs ≡ frees w n → (c : ℕ) → times c cs ≡ cond (ltb c n && is_free w c) 1 0
    unfolding frees
    all_once top h l c =
        at_most? n c
        (λ k. rw (le-ltb c n k) (times_none c cs (all_map (λ x b q. omega arith) cs below)))
        (λ k. rw (lt-ltb c n k) (
        sum_below-pinned (λ (x : ℕ). times x cs) (λ (x : ℕ). cond (is_free w x) 1 0) n (λ x b. at_most_free top x h) (
        omega (arith, length-times n cs below)) c k))

module _ {w : List ℕ} {n top : ℕ} where
  -- Each cell of a stack that keeps the rule is free and below n.
  pub rule-stands : (r : StackRule w n top) → All (λ (c : ℕ). stands w n c ≡ true) r.cells
  unfolding stands
  rule-stands r =
      all-standing (λ (c : ℕ). stands w n c ≡ true) r.cells (λ c k. test (stands w n c) (λ e. e) (λ e. absurd (omega (arith, rw e at (r.once c)))))

  pub rule-below : (r : StackRule w n top) → All (λ (c : ℕ). c < n) r.cells
  rule-below r = all_map (λ c e. (stands-true w n c e).0) r.cells (rule-stands r)

  -- It is as long as there are free cells.
  pub rule-length : (r : StackRule w n top) → length r.cells ≡ frees w n
  unfolding frees
  rule-length r =
      sym (length-times n r.cells (rule-below r))
      ∙ sum_below-same (λ (c : ℕ). times c r.cells) (λ (c : ℕ). cond (is_free w c) 1 0) n (λ c k. rw lt-ltb at (r.once c))

-- The test passes exactly if the rule holds and each free cell passes the further test.
module _ (w : List ℕ) (n : ℕ) (also : ℕ → Bool) (top : ℕ) (small : n ≤ no_cell) where
  -- A cell of the stack is free and passes.
  as-stands : (c : ℕ) → stands_as w n also c ≡ true → (stands w n c ≡ true) × (also c ≡ true)
  unfolding stands_as
  as-stands c e = and-true (stands w n c) (also c) e

  stands-as : (c : ℕ) → stands w n c ≡ true → also c ≡ true → stands_as w n also c ≡ true
  unfolding stands_as
  stands-as c e a = rw e a

  stack_test-stack : stack_test w n also top ≡ true → StackRule w n top
  unfolding stack_test
  stack_test-stack e =
      record {
        cells = cells;
        linked = linked;
        once =
            all_once w n small cells (all_map (λ c h. (as-stands c h).0) cells (walks-all w (stands_as w n also) top (frees w n) e)) top
            linked
            (length-follow (link w) top (frees w n));
      }
    where
      cells : List ℕ
      cells = follow (link w) top (frees w n)

      linked : Chain (link w) top cells
      linked = walks-linked w (stands_as w n also) top (frees w n) e

  -- A walk over a list of linked cells shows that each of them passes.
  chain-also : (a : ℕ) (cs : List ℕ) → Chain (link w) a cs → walks w (stands_as w n also) a (length cs) ≡ true
      → All (λ (c : ℕ). also c ≡ true) cs
  unfolding walks
  chain-also a [] h e = tt
  chain-also a (c ∷ cs) h e =
      let both = and-true (stands_as w n also c) (walks w (stands_as w n also) (link w c) (length cs)) (rw h.0 at e) in
      ((as-stands c both.0).1, chain-also (link w c) cs h.1 both.1)

  stack_test-also : stack_test w n also top ≡ true → (c : ℕ) → c < n → is_free w c ≡ true → also c ≡ true
  unfolding stack_test
  stack_test-also e c h f =
      let r : StackRule w n top = stack_test-stack e in
      all-times (λ (x : ℕ). also x ≡ true) r.cells (chain-also top r.cells r.linked (rw (rule-length r) e)) c
      (rw (r.once c) (rw (lt-ltb c n h, f) (omega arith)))

  stack_test-found : StackRule w n top → ((c : ℕ) → c < n → is_free w c ≡ true → also c ≡ true) → stack_test w n also top ≡ true
  unfolding stack_test
  stack_test-found r h =
      rw (← rule-length r)
      (chain-walks w (stands_as w n also) top r.cells r.linked
      (all_map (λ c e. stands-as c e (h c (stands-true w n c e).0 (stands-true w n c e).1)) r.cells (rule-stands r)))

  pub stack_test-exactly : (stack_test w n also top ≡ true) ↔ (StackRule w n top × ((c : ℕ) → c < n → is_free w c ≡ true → also c ≡ true))
  stack_test-exactly = (λ e. (stack_test-stack e, stack_test-also e), λ r. stack_test-found r.0 r.1)

pub counts-free : (w : List ℕ) (c count : ℕ) → count ≡ frees w c → is_free w c ≡ true → count + 1 ≡ frees w (c + 1)
unfolding frees sum_below
counts-free w c count h e = rw (h, add-one c, e)

pub counts-used : (w : List ℕ) (c count : ℕ) → count ≡ frees w c → is_free w c ≡ false → count ≡ frees w (c + 1)
unfolding frees sum_below
counts-used w c count h e = rw (h, add-one c, e) (omega arith)

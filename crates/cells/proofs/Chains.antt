-- Lists of linked cells, over any links whatever.
-- Assumes nothing.
use Prim.Native.Nat.{ℕ, zero, suc, ◌≤◌, ◌<◌}
use native.Mathlib.Omega.{arith}
use mathlib.Core.List.{List, [], ◌∷◌}
use mathlib.Core.Path.{◌≡◌, refl, sym, ap, ◌∙◌}
use lib.ListN.{length}
use Rattle.cells.proofs.Cases.{same?}
use Rattle.cells.proofs.Lists.{times-here, times-past}
use Rattle.cells.specs.Lists.{All, times}
use Rattle.cells.specs.Stack.{no_cell, Chain}

-- Each is a cell's number, so that none is the mark that ends a list.
abbrev pub AreCells : List ℕ → Type 0
AreCells cs = All (λ (c : ℕ). c < no_cell) cs

-- The k cells that are passed on k links from a.
unfoldable pub follow : (ℕ → ℕ) → ℕ → ℕ → List ℕ
follow next a zero = []
follow next a (suc k) = a ∷ follow next (next a) k

module _ (next : ℕ → ℕ) where
  pub length-follow : (a k : ℕ) → length (follow next a k) ≡ k
  unfolding follow
  length-follow a zero = refl
  length-follow a (suc k) = ap suc (length-follow (next a) k)

  -- The links from one cell lead through one list only.
  pub chain_same : (a : ℕ) (cs ds : List ℕ) → Chain next a cs → Chain next a ds → AreCells cs → AreCells ds → cs ≡ ds
  chain_same a [] [] h k p q = refl
  chain_same a [] (d ∷ ds) h k p q = absurd (omega (arith, h, k.0, q.0))
  chain_same a (c ∷ cs) [] h k p q = absurd (omega (arith, h.0, k, p.0))
  chain_same a (c ∷ cs) (d ∷ ds) h k p q =
      let e : c ≡ d = sym h.0 ∙ k.0 in
      let rest : Chain next (next c) ds = rw e k.1 in
      cc (e, chain_same (next c) cs ds h.1 rest p.1 q.1)

  -- A cell from which the links lead further than a list is long does not stand in the list.
  chain-absent : (c : ℕ) (ds : List ℕ) → Chain next c ds → AreCells ds
      → (a : ℕ) (cs : List ℕ) → Chain next a cs → AreCells cs → length cs < length ds → times c cs ≡ 0
  chain-absent c ds k q a [] h p s = unfold times in refl
  chain-absent c ds k q a (x ∷ xs) h p s =
      same? x c
      (λ e. absurd (omega (arith, ap length (chain_same c (x ∷ xs) ds (sym e, h.1) k p q))))
      (λ d. times-past c x xs d ∙ chain-absent c ds k q (next x) xs h.1 p.1 (omega arith))

  -- No cell stands twice in a list that ends.
  pub chain-once : (c a : ℕ) (cs : List ℕ) → Chain next a cs → AreCells cs → times c cs ≤ 1
  chain-once c a [] h p = unfold times in omega arith
  chain-once c a (x ∷ xs) h p =
      same? x c
      (λ e. omega (arith, times-here c x xs e, chain-absent c (x ∷ xs) (sym e, h.1) p (next x) xs h.1 p.1 (omega arith)))
      (λ d. omega (arith, times-past c x xs d, chain-once c (next x) xs h.1 p.1))

-- Links that are the same at each cell of a list leave it linked.
pub chain-links : (next next' : ℕ → ℕ) (a : ℕ) (cs : List ℕ) → All (λ (c : ℕ). next c ≡ next' c) cs → Chain next a cs → Chain next' a cs
chain-links next next' a [] e h = h
chain-links next next' a (c ∷ cs) e h = (h.0, chain-links next next' (next' c) cs e.1 (rw e.0 at h.1))

-- Links through the same cells start at the same cell.
pub chain-tops : (next next' : ℕ → ℕ) (a a' : ℕ) (cs : List ℕ) → Chain next a cs → Chain next' a' cs → a ≡ a'
chain-tops next next' a a' [] h k = h ∙ sym k
chain-tops next next' a a' (c ∷ cs) h k = h.0 ∙ sym k.0

-- They are the same links.
pub chain-alike : (next next' : ℕ → ℕ) (a a' : ℕ) (cs : List ℕ) → Chain next a cs → Chain next' a' cs → All (λ (c : ℕ). next c ≡ next' c) cs
chain-alike next next' a a' [] h k = tt
chain-alike next next' a a' (c ∷ cs) h k =
    (chain-tops next next' (next c) (next' c) cs h.1 k.1, chain-alike next next' (next c) (next' c) cs h.1 k.1)

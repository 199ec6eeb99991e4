-- Lists linked both ways, over any links whatever.
-- Assumes nothing.
use Prim.Native.Nat.{ℕ, suc, ◌+◌, ◌≤◌}
use native.Mathlib.Omega.{arith}
use mathlib.Core.Bool.{cond}
use mathlib.Core.List.{List, [], ◌∷◌, ◌++◌, append-nil}
use mathlib.Core.Logic.{◌≢◌}
use mathlib.Core.Path.{◌≡◌, refl, sym, ap, subst, ◌∙◌}
use lib.Dec.{eqb}
use borrow.Author.Tests.{eq-eqb, ne_eqb}
use Rattle.cells.proofs.Cases.{same?}
use Rattle.cells.proofs.Lists.{times-here, times-past, times-append}
use Rattle.cells.specs.Lists.{times}
use Rattle.cells.specs.Stack.{no_cell, Chain}
use Rattle.slots.specs.Stand.{Linked, drop_cell}

-- A number that does not stand in a list is not its first.
pub head-not : (p a : ℕ) (xs : List ℕ) → times p (a ∷ xs) ≡ 0 → a ≢ p
head-not p a xs h e = omega (arith, times-here p a xs e)

-- The first cell is left out if it is the one, and stays otherwise.
pub drop_here : (c z : ℕ) (zs : List ℕ) → z ≡ c → drop_cell c (z ∷ zs) ≡ zs
unfolding drop_cell
drop_here c z zs e = rw (eq-eqb z c e)

pub drop_past : (c z : ℕ) (zs : List ℕ) → z ≢ c → drop_cell c (z ∷ zs) ≡ z ∷ drop_cell c zs
unfolding drop_cell
drop_past c z zs d = rw (ne_eqb z c d)

-- A list and one of its cells: what stands before it, and what stands after it.
pub record Split (c : ℕ) (zs : List ℕ) : Type 0 where
  pub before : List ℕ
  pub after : List ℕ
  pub whole : zs ≡ before ++ (c ∷ after)
  pub rest : drop_cell c zs ≡ before ++ after

-- A cell in front of a list that is split.
split-past : (c z : ℕ) (zs : List ℕ) → z ≢ c → Split c zs → Split c (z ∷ zs)
split-past c z zs d s =
    record {
      before = z ∷ s.before;
      after = s.after;
      whole = ap (λ (l : List ℕ). z ∷ l) s.whole;
      rest = drop_past c z zs d ∙ ap (λ (l : List ℕ). z ∷ l) s.rest;
    }

-- A list that holds a number is what stands before its first place, the number, and what stands after.
pub cell-split : (c : ℕ) (zs : List ℕ) → 1 ≤ times c zs → Split c zs
unfolding times
cell-split c [] h = absurd (omega arith)
cell-split c (z ∷ zs) h =
    same? z c
    (λ e. record { before = []; after = zs; whole = ap (λ (x : ℕ). x ∷ zs) e; rest = drop_here c z zs e })
    (λ d. split-past c z zs d (cell-split c zs (omega (arith, times-past c z zs d))))

-- Without cell c each other stands as often as before, and c once less.
pub times-drop : (x c : ℕ) (zs : List ℕ) → 1 ≤ times c zs → times x (drop_cell c zs) + cond (eqb c x) 1 0 ≡ times x zs
unfolding times
times-drop x c zs h =
    let s : Split c zs = cell-split c zs h in
    omega (
      arith,
      ap (λ (l : List ℕ). times x l) s.rest,
      times-append x s.before s.after,
      ap (λ (l : List ℕ). times x l) s.whole,
      times-append x s.before (c ∷ s.after),
    )

-- Links as they were, but that q follows p.
pub record Relinks (N P N' P' : ℕ → ℕ) (p q : ℕ) : Type 0 where
  pub next_here : N' p ≡ q
  pub prev-here : P' q ≡ p
  pub next-else : (x : ℕ) → x ≢ p → N' x ≡ N x
  pub prev-else : (x : ℕ) → x ≢ q → P' x ≡ P x

module _ (N P : ℕ → ℕ) where
  -- What follows the start is the end or stands in the list,
  pub linked-first : (a : ℕ) (xs : List ℕ) (b : ℕ) → Linked N P a xs b → 1 ≤ times (N a) (b ∷ xs)
  unfolding times
  linked-first a [] b h = omega (arith, times-here (N a) b [] (sym h.0))
  linked-first a (x ∷ xs) b h = omega (arith, times-here (N a) x xs (sym h.0))

  -- and what precedes the end is the start or stands in the list.
  pub linked-last : (a : ℕ) (xs : List ℕ) (b : ℕ) → Linked N P a xs b → 1 ≤ times (P b) (a ∷ xs)
  unfolding times
  linked-last a [] b h = omega (arith, times-here (P b) a [] (sym h.1))
  linked-last a (x ∷ xs) b h = omega (arith, linked-last x xs b h.2)

  -- A list is cut at one of its cells,
  pub linked-cut :
      (a : ℕ) (xs : List ℕ) (y : ℕ) (ys : List ℕ) (b : ℕ)
      → Linked N P a (xs ++ (y ∷ ys)) b
      → Linked N P a xs y × Linked N P y ys b
  linked-cut a [] y ys b h = ((h.0, h.1), h.2)
  linked-cut a (x ∷ xs) y ys b h =
      let r = linked-cut x xs y ys b h.2 in ((h.0, h.1, r.0), r.1)

  -- and put together again.
  pub linked-glue :
      (a : ℕ) (xs : List ℕ) (y : ℕ) (ys : List ℕ) (b : ℕ)
      → Linked N P a xs y
      → Linked N P y ys b
      → Linked N P a (xs ++ (y ∷ ys)) b
  linked-glue a [] y ys b h k = (h.0, h.1, k)
  linked-glue a (x ∷ xs) y ys b h k = (h.0, h.1, linked-glue x xs y ys b h.2 k)

  -- What follows a cell of the list is the end or stands in the list,
  pub linked-next-in : (a : ℕ) (xs : List ℕ) (b c : ℕ) → 1 ≤ times c xs → Linked N P a xs b → 1 ≤ times (N c) (b ∷ xs)
  unfolding times
  linked-next-in a xs b c here h =
      let s : Split c xs = cell-split c xs here in
      let parts = linked-cut a s.before c s.after b (rw s.whole at h) in
      omega (
        arith,
        linked-first c s.after b parts.1,
        ap (λ (l : List ℕ). times (N c) l) s.whole,
        times-append (N c) s.before (c ∷ s.after),
      )

  -- and what precedes it is the start or stands in the list.
  pub linked-prev-in : (a : ℕ) (xs : List ℕ) (b c : ℕ) → 1 ≤ times c xs → Linked N P a xs b → 1 ≤ times (P c) (a ∷ xs)
  unfolding times
  linked-prev-in a xs b c here h =
      let s : Split c xs = cell-split c xs here in
      let parts = linked-cut a s.before c s.after b (rw s.whole at h) in
      omega (
        arith,
        linked-last a s.before c parts.0,
        ap (λ (l : List ℕ). times (P c) l) s.whole,
        times-append (P c) s.before (c ∷ s.after),
      )

  -- Followed one way only, the cells are the same.
  pub linked-chain : (a : ℕ) (xs : List ℕ) → Linked N P a xs no_cell → Chain N (N a) xs
  linked-chain a [] h = h.0
  linked-chain a (x ∷ xs) h = (h.0, linked-chain x xs h.2)

module _ (N P N' P' : ℕ → ℕ) where
  -- Links that are the same at each cell of a list and at its ends leave it linked,
  pub linked-frame :
      (a : ℕ) (xs : List ℕ) (b : ℕ)
      → N' a ≡ N a
      → P' b ≡ P b
      → ((x : ℕ) → 1 ≤ times x xs → (N' x ≡ N x) × (P' x ≡ P x))
      → Linked N P a xs b
      → Linked N' P' a xs b
  unfolding times
  linked-frame a [] b n p same h = (n ∙ h.0, p ∙ h.1)
  linked-frame a (x ∷ xs) b n p same h =
      let here = same x (omega (arith, times-here x x xs refl)) in
      (n ∙ h.0, here.1 ∙ h.1, linked-frame x xs b here.0 p (λ y k. same y (omega arith)) h.2)

  -- and links of the same list are the same there.
  pub linked-one :
      (a : ℕ) (xs : List ℕ) (b : ℕ)
      → Linked N P a xs b
      → Linked N' P' a xs b
      → (N a ≡ N' a) × (P b ≡ P' b) × ((x : ℕ) → 1 ≤ times x xs → (N x ≡ N' x) × (P x ≡ P' x))
  linked-one a [] b h k = (h.0 ∙ sym k.0, h.1 ∙ sym k.1, λ x l. absurd (unfold times in omega arith))
  linked-one a (x ∷ xs) b h k =
      let r = linked-one x xs b h.2 k.2 in
      let at : (y : ℕ) → 1 ≤ times y (x ∷ xs) → (N y ≡ N' y) × (P y ≡ P' y) =
      λ y l.
      same? x y
      (λ e. rw (← e) (r.0, h.1 ∙ sym k.1))
      (λ d. r.2 y (omega (arith, times-past y x xs d)))
      in
      (h.0 ∙ sym k.0, r.1, at)

  module _ (p q : ℕ) (r : Relinks N P N' P' p q) where
    -- A list to which neither link belongs is as it was.
    pub linked-past :
        (a : ℕ) (xs : List ℕ) (b : ℕ)
        → times p (a ∷ xs) ≡ 0
        → times q xs ≡ 0
        → b ≢ q
        → Linked N P a xs b
        → Linked N' P' a xs b
    unfolding times
    linked-past a [] b np nq nb h = (r.next-else a (head-not p a [] np) ∙ h.0, r.prev-else b nb ∙ h.1)
    linked-past a (x ∷ xs) b np nq nb h = (
      r.next-else a (head-not p a (x ∷ xs) np) ∙ h.0,
      r.prev-else x (head-not q x xs nq) ∙ h.1,
      linked-past x xs b (omega arith) (omega arith) nb h.2,
    )

    -- Where another cell follows the last one, the list ends there.
    pub linked-end :
        (a : ℕ) (xs : List ℕ) (b : ℕ)
        → P b ≡ p
        → ((x : ℕ) → times x (a ∷ xs) ≤ 1)
        → times q xs ≡ 0
        → Linked N P a xs b
        → Linked N' P' a xs q
    unfolding times
    linked-end a [] b e once nq h =
        let s : p ≡ a = sym e ∙ h.1 in (cc (s, r.next_here), cc (s, r.prev-here))
    linked-end a (x ∷ xs) b e once nq h =
        let other : a ≢ p =
        λ s.
        let here : 1 ≤ times p (x ∷ xs) = subst (λ (k : ℕ). 1 ≤ times k (x ∷ xs)) e (linked-last N P x xs b h.2) in
        omega (arith, once p, times-here p a (x ∷ xs) s, here)
        in (
          r.next-else a other ∙ h.0,
          r.prev-else x (head-not q x xs nq) ∙ h.1,
          linked-end x xs b e (λ y. omega (arith, once y)) (omega arith) h.2,
        )

-- A cell joins at the end: it follows the last one, and the end follows it.
pub linked-join :
    (N P N₁ P₁ N₂ P₂ : ℕ → ℕ) (a : ℕ) (xs : List ℕ) (b c p : ℕ)
    → P b ≡ p
    → Relinks N P N₁ P₁ p c
    → Relinks N₁ P₁ N₂ P₂ c b
    → ((x : ℕ) → times x (a ∷ xs) ≤ 1)
    → times c (a ∷ xs) ≡ 0
    → times b xs ≡ 0
    → c ≢ b
    → Linked N P a xs b
    → Linked N₂ P₂ a (xs ++ (c ∷ [])) b
unfolding times
linked-join N P N₁ P₁ N₂ P₂ a xs b c p e r s once new end d h =
    linked-glue N₂ P₂ a xs c [] b
    (linked-past N₁ P₁ N₂ P₂ c b s a xs c new end d (linked-end N P N₁ P₁ p c r a xs b e once (omega arith) h))
    (s.next_here, s.prev-here)

-- A cell is taken out: what followed it follows what preceded it.
pub linked-leave :
    (N P N' P' : ℕ → ℕ) (a : ℕ) (xs : List ℕ) (c : ℕ) (ys : List ℕ) (b p q : ℕ)
    → P c ≡ p
    → N c ≡ q
    → Relinks N P N' P' p q
    → ((x : ℕ) → times x (a ∷ (xs ++ (c ∷ ys))) ≤ 1)
    → times b (xs ++ (c ∷ ys)) ≡ 0
    → Linked N P a (xs ++ (c ∷ ys)) b
    → Linked N' P' a (xs ++ ys) b
unfolding times
linked-leave N P N' P' a xs c [] b p q e f r once end h =
    let parts = linked-cut N P a xs c [] b h in
    let s : b ≡ q = sym parts.1.0 ∙ f in
    rw (append-nil, s)
    (linked-end N P N' P' p q r a xs c e
    (λ x. omega (arith, once x, times-append x xs (c ∷ [])))
    (rw (← s) (omega (arith, times-append b xs (c ∷ []))))
    parts.0)
linked-leave N P N' P' a xs c (y ∷ ys) b p q e f r once end h =
    let parts = linked-cut N P a xs c (y ∷ ys) b h in
    let s : y ≡ q = sym parts.1.0 ∙ f in
    let inside : 1 ≤ times p (a ∷ xs) = subst (λ (k : ℕ). 1 ≤ times k (a ∷ xs)) e (linked-last N P a xs c parts.0) in
    let there : times q (y ∷ ys) ≡ suc (times q ys) = times-here q y ys s in
    let other : b ≢ q =
    λ u. omega (arith, end, times-append b xs (c ∷ (y ∷ ys)), times-here b y ys (s ∙ sym u))
    in
    let front : Linked N' P' a xs q =
    linked-end N P N' P' p q r a xs c e
    (λ x. omega (arith, once x, times-append x xs (c ∷ (y ∷ ys))))
    (omega (arith, once q, times-append q xs (c ∷ (y ∷ ys)), there))
    parts.0
    in
    linked-glue N' P' a xs y ys b
    (rw s front)
    (linked-past N P N' P' p q r y ys b
    (omega (arith, once p, times-append p xs (c ∷ (y ∷ ys)), inside))
    (omega (arith, once q, times-append q xs (c ∷ (y ∷ ys)), there))
    other
    parts.1.2)

-- An entry that rises or sinks goes along a path of positions, and each entry that it passes takes its place.
-- Assumes nothing.
use Prim.Native.Nat.{ℕ, zero, suc, ◌+◌, ◌≤◌, ◌<◌}
use native.Mathlib.Omega.{arith}
use mathlib.Core.Bool.{cond}
use mathlib.Core.List.{List, [], ◌∷◌}
use mathlib.Core.Path.{◌≡◌, refl, ◌∙◌}
use lib.ListN.{length}
use Rattle.cells.specs.Lists.{All, times}
use Rattle.cells.proofs.Cases.{test, same?, by-arms}
use Rattle.cells.proofs.Lists.{times-here, times-past}
use Rattle.meaning.specs.Entries.{Entry}
use Rattle.meaning.specs.Heap.{parent, exchange, early, rise, earlier, child, sink, settle, steps, levels}
use Rattle.heap.proofs.Permutes.{parent-at_most, earlier-filled, early-above}
use Rattle.heap.proofs.Levels.{steps-parent, steps-levels, steps-child}
use Rattle.heap.proofs.Children.{child-below}
use Rattle.heap.proofs.Exchanges.{length-exchange}

-- The entry at the first position goes to each of the others in turn, by exchanges.
unfoldable pub along : ℕ → List ℕ → List Entry → List Entry
along p [] h = h
along p (q ∷ qs) h = along q qs (exchange p q h)

-- Where the path ends.
unfoldable pub end : ℕ → List ℕ → ℕ
end p [] = p
end p (q ∷ qs) = end q qs

-- The positions that a rise goes to.
unfoldable pub risen : ℕ → ℕ → ℕ → List Entry → List ℕ
risen d zero p h = []
risen d (suc k) p h =
    let q = parent d p in
    let r = risen d k q (exchange p q h) in
    cond (early d p h) (q ∷ r) []

-- The positions that a sink goes to.
unfoldable pub sunk : ℕ → ℕ → ℕ → List Entry → List ℕ
sunk d zero p h = []
sunk d (suc k) p h =
    let q = child d p h in
    let r = sunk d k q (exchange p q h) in
    cond (earlier h q p) (q ∷ r) []

-- The positions that an entry goes to as it settles.
unfoldable pub settled : ℕ → ℕ → List Entry → List ℕ
settled d p h = cond (early d p h) (risen d p p h) (sunk d (length h) p h)

-- A path in a heap of n entries: it stays below n, and is nowhere twice.
pub record Path (n p : ℕ) (ps : List ℕ) : Type 0 where
  pub filled : All (λ (q : ℕ). q < n) (p ∷ ps)
  pub apart : (r : ℕ) → times r (p ∷ ps) ≤ 1

-- A rise goes along its path.
pub rise-along : (d k p : ℕ) (h : List Entry) → rise d k p h ≡ along p (risen d k p h) h
unfolding rise risen along
rise-along d zero p h = refl
rise-along d (suc k) p h =
    test (early d p h) (λ e. rw e (rise-along d k (parent d p) (exchange p (parent d p) h))) (λ e. rw e)

-- A sink goes along its path.
pub sink-along : (d k p : ℕ) (h : List Entry) → sink d k p h ≡ along p (sunk d k p h) h
unfolding sink sunk along
sink-along d zero p h = refl
sink-along d (suc k) p h =
    test (earlier h (child d p h) p)
    (λ e. rw e (sink-along d k (child d p h) (exchange p (child d p h) h)))
    (λ e. rw e)

-- Settling goes along its path.
pub settle-along : (d p : ℕ) (h : List Entry) → settle d p h ≡ along p (settled d p h) h
unfolding settle settled
settle-along d p h =
    test (early d p h) (λ e. rw e (rise-along d p p h)) (λ e. rw e (sink-along d (length h) p h))

-- Each position is at least a and below b.
abbrev Within : ℕ → ℕ → List ℕ → Type 0
Within a b ps = All (λ (q : ℕ). (a ≤ q) × (q < b)) ps

within_wider : (a b c e : ℕ) (ps : List ℕ) → c ≤ a → b ≤ e → Within a b ps → Within c e ps
within_wider a b c e [] i j w = tt
within_wider a b c e (q ∷ qs) i j w = (omega (arith, w.0), within_wider a b c e qs i j w.1)

within-below : (a b n : ℕ) (ps : List ℕ) → b ≤ n → Within a b ps → All (λ (q : ℕ). q < n) ps
within-below a b n [] i w = tt
within-below a b n (q ∷ qs) i w = (omega (arith, w.0), within-below a b n qs i w.1)

in-front : (p a b : ℕ) (ps : List ℕ) → p < a → Within a b ps → times p ps ≡ 0
in-front p a b [] i w = unfold times in refl
in-front p a b (q ∷ qs) i w = times-past p q qs (λ e. omega (arith, w.0)) ∙ in-front p a b qs i w.1

behind : (p a b : ℕ) (ps : List ℕ) → b ≤ p → Within a b ps → times p ps ≡ 0
behind p a b [] i w = unfold times in refl
behind p a b (q ∷ qs) i w = times-past p q qs (λ e. omega (arith, w.0)) ∙ behind p a b qs i w.1

-- A position in front of a path that is nowhere twice, and not on it.
apart_cons : (p : ℕ) (ps : List ℕ) → times p ps ≡ 0 → ((r : ℕ) → times r ps ≤ 1) → (r : ℕ) → times r (p ∷ ps) ≤ 1
apart_cons p ps a u r =
    same? p r
    (λ e. rw (← e) (omega (arith, times-here p p ps refl)))
    (λ n. omega (arith, times-past r p ps n, u r))

-- A rise goes up one level with each step.
pub risen-levels : (d k p : ℕ) (h : List Entry)
    → length (risen d k p h) + steps d (end p (risen d k p h)) (end p (risen d k p h)) ≡ steps d p p
unfolding risen end
risen-levels d zero p h = omega arith
risen-levels d (suc k) p h =
    by-arms (λ (ps : List ℕ). length ps + steps d (end p ps) (end p ps) ≡ steps d p p) (early d p h) _ []
    (λ e.
    omega (arith, risen-levels d k (parent d p) (exchange p (parent d p) h), steps-parent d p (early-above d p h e)))
    (λ e. omega arith)

-- A rise has at most the steps from its position to the top.
pub risen-steps : (d k p : ℕ) (h : List Entry) → length (risen d k p h) ≤ steps d p p
risen-steps d k p h = omega (arith, risen-levels d k p h)

-- A rise stays in front of where it begins.
risen-front : (d k p : ℕ) (h : List Entry) → Within 0 p (risen d k p h)
unfolding risen
risen-front d zero p h = tt
risen-front d (suc k) p h =
    let q : ℕ = parent d p in
    let r : List ℕ = risen d k q (exchange p q h) in
    by-arms (λ (ps : List ℕ). Within 0 p ps) (early d p h) _ []
    (λ e.
    let up : q < p = omega (arith, parent-at_most d p, early-above d p h e) in
    (omega arith, within_wider 0 q 0 p r (omega arith) (omega arith) (risen-front d k q (exchange p q h))))
    (λ e. tt)

risen-apart : (d k p : ℕ) (h : List Entry) (r : ℕ) → times r (risen d k p h) ≤ 1
unfolding risen
risen-apart d zero p h r = unfold times in omega arith
risen-apart d (suc k) p h r =
    let q : ℕ = parent d p in
    let l : List Entry = exchange p q h in
    by-arms (λ (ps : List ℕ). times r ps ≤ 1) (early d p h) _ []
    (λ e.
    apart_cons q (risen d k q l) (behind q 0 q (risen d k q l) (omega arith) (risen-front d k q l)) (risen-apart d k q l) r)
    (λ e. unfold times in omega arith)

-- A rise goes to positions in front of where it begins.
pub risen-above : (d k p : ℕ) (h : List Entry) → All (λ (q : ℕ). q < p) (risen d k p h)
risen-above d k p h = within-below 0 p p (risen d k p h) (omega arith) (risen-front d k p h)

-- The path of a rise from a filled position.
pub risen-path : (d k p : ℕ) (h : List Entry) → p < length h → Path (length h) p (risen d k p h)
risen-path d k p h i =
    let ps : List ℕ = risen d k p h in
    let front : Within 0 p ps = risen-front d k p h in
    record {
      filled = (i, within-below 0 p (length h) ps (omega arith) front);
      apart = apart_cons p ps (behind p 0 p ps (omega arith) front) (risen-apart d k p h);
    }

module _ (d : ℕ) (some : 1 ≤ d) where
  -- A sink goes down one level with each step.
  pub sunk-levels : (k p : ℕ) (h : List Entry)
      → length (sunk d k p h) + steps d p p ≡ steps d (end p (sunk d k p h)) (end p (sunk d k p h))
  unfolding sunk end
  sunk-levels zero p h = omega arith
  sunk-levels (suc k) p h =
      let q : ℕ = child d p h in
      by-arms (λ (ps : List ℕ). length ps + steps d p p ≡ steps d (end p ps) (end p ps)) (earlier h q p) _ []
      (λ e. omega (arith, sunk-levels k q (exchange p q h), steps-child d p h some))
      (λ e. omega arith)

  -- A sink stays behind where it begins, and in the heap.
  sunk-behind : (k p : ℕ) (h : List Entry) → Within (suc p) (length h) (sunk d k p h)
  unfolding sunk
  sunk-behind zero p h = tt
  sunk-behind (suc k) p h =
      let q : ℕ = child d p h in
      let l : List Entry = exchange p q h in
      let same : length l ≡ length h = length-exchange p q h in
      by-arms (λ (ps : List ℕ). Within (suc p) (length h) ps) (earlier h q p) _ []
      (λ e.
      let down : p < q = child-below d some p h in
      let inside : q < length h = earlier-filled h q p e in (
        omega arith,
        within_wider (suc q) (length l) (suc p) (length h) (sunk d k q l) (omega arith) (omega arith) (sunk-behind k q l),
      ))
      (λ e. tt)

  sunk-apart : (k p : ℕ) (h : List Entry) (r : ℕ) → times r (sunk d k p h) ≤ 1
  unfolding sunk
  sunk-apart zero p h r = unfold times in omega arith
  sunk-apart (suc k) p h r =
      let q : ℕ = child d p h in
      let l : List Entry = exchange p q h in
      by-arms (λ (ps : List ℕ). times r ps ≤ 1) (earlier h q p) _ []
      (λ e.
      apart_cons q (sunk d k q l)
      (in-front q (suc q) (length l) (sunk d k q l) (omega arith) (sunk-behind k q l))
      (sunk-apart k q l) r)
      (λ e. unfold times in omega arith)

  -- The path of a sink from a filled position.
  pub sunk-path : (k p : ℕ) (h : List Entry) → p < length h → Path (length h) p (sunk d k p h)
  sunk-path k p h i =
      let n : ℕ = length h in
      let ps : List ℕ = sunk d k p h in
      let below : Within (suc p) n ps = sunk-behind k p h in
      record {
        filled = (i, within-below (suc p) n n ps (omega arith) below);
        apart = apart_cons p ps (in-front p (suc p) n ps (omega arith) below) (sunk-apart k p h);
      }

  -- The path of an entry that settles.
  pub settled-path : (p : ℕ) (h : List Entry) → p < length h → Path (length h) p (settled d p h)
  unfolding settled
  settled-path p h i =
      by-arms (λ (ps : List ℕ). Path (length h) p ps) (early d p h) _ _
      (λ e. risen-path d p p h i)
      (λ e. sunk-path (length h) p h i)

-- What is below a number is below a greater one.
pub below_wider : (m n : ℕ) (ps : List ℕ) → m ≤ n → All (λ (q : ℕ). q < m) ps → All (λ (q : ℕ). q < n) ps
below_wider m n [] i a = tt
below_wider m n (q ∷ qs) i a = (omega (arith, a.0), below_wider m n qs i a.1)

-- A path ends at a position of it.
end-filled : (n p : ℕ) (ps : List ℕ) → All (λ (q : ℕ). q < n) (p ∷ ps) → end p ps < n
unfolding end
end-filled n p [] a = a.0
end-filled n p (q ∷ qs) a = end-filled n q qs a.1

-- A sink has fewer steps than the heap has levels below it.
pub sunk-steps : (d : ℕ) → 1 ≤ d → (k p : ℕ) (h : List Entry) → p < length h
    → length (sunk d k p h) + steps d p p < levels d (length h)
sunk-steps d some k p h i =
    let below : end p (sunk d k p h) < length h = end-filled (length h) p _ (sunk-path d some k p h i).filled in
    omega (arith, sunk-levels d some k p h, steps-levels d (end p (sunk d k p h)) (length h) below)

-- An entry settles in fewer steps than the heap has levels.
pub settled-steps : (d : ℕ) → 1 ≤ d → (p : ℕ) (h : List Entry) → p < length h
    → length (settled d p h) < levels d (length h)
unfolding settled
settled-steps d some p h i =
    by-arms (λ (ps : List ℕ). length ps < levels d (length h)) (early d p h) _ _
    (λ e. omega (arith, risen-steps d p p h, steps-levels d p (length h) i))
    (λ e. omega (arith, sunk-steps d some (length h) p h i))

-- What a rise or a sink displaces: nothing but the entries on its path, and all of those.
-- Assumes nothing.
use Prim.Native.Nat.{ℕ, ◌≤◌, ◌<◌}
use native.Mathlib.Omega.{arith}
use mathlib.Core.List.{List, [], ◌∷◌, map}
use mathlib.Core.Path.{◌≡◌, refl, sym, ap, subst, ◌∙◌}
use lib.ListN.{length}
use Rattle.cells.specs.Lists.{All, times}
use Rattle.cells.proofs.Cases.{same?}
use Rattle.cells.proofs.Lists.{all-times, times-here, times-past}
use Rattle.meaning.specs.Entries.{Entry}
use Rattle.meaning.specs.Heap.{at, exchange, rise, settle}
use Rattle.meaning.proofs.ByPosition.{one-position}
use Rattle.heap.proofs.Permutes.{times-exchange}
use Rattle.heap.proofs.Exchanges.{length-exchange, at-exchange-first, at-exchange-second, at-exchange-other}
use Rattle.heap.proofs.Paths.{along, risen, settled, Path, rise-along, settle-along}

-- Two heaps of one length have the same entries but at the positions of a list.
pub record SameBut (ps : List ℕ) (h after : List Entry) : Type 0 where
  pub as_long : length after ≡ length h
  pub elsewhere : (r : ℕ) → times r ps ≡ 0 → at after r ≡ at h r

-- What does not stand in a list is neither its first element nor in the rest.
not_first : (r p : ℕ) (ps : List ℕ) → times r (p ∷ ps) ≡ 0 → (r ≡ p → ⊥) × (times r ps ≡ 0)
not_first r p ps z =
    let other : r ≡ p → ⊥ = λ e. omega (arith, times-here r p ps (sym e)) in
    (other, omega (arith, times-past r p ps (λ e. other (sym e))))

-- An entry that goes along a path changes nothing elsewhere.
pub along-same : (p : ℕ) (ps : List ℕ) (h : List Entry) → SameBut (p ∷ ps) h (along p ps h)
unfolding along
along-same p [] h = record { as_long = refl; elsewhere = λ r z. refl }
along-same p (q ∷ qs) h =
    let rest = along-same q qs (exchange p q h) in
    record {
      as_long = rest.as_long ∙ length-exchange p q h;
      elsewhere =
          λ r z.
          let first = not_first r p (q ∷ qs) z in
          let second = not_first r q qs first.1 in
          rest.elsewhere r first.1 ∙ at-exchange-other p q h r first.0 second.0;
    }

-- An entry that goes along a path permutes.
pub times-along : (f : Entry → ℕ) (k p : ℕ) (ps : List ℕ) (h : List Entry) → All (λ (q : ℕ). q < length h) (p ∷ ps)
    → times k (map f (along p ps h)) ≡ times k (map f h)
unfolding along
times-along f k p [] h a = refl
times-along f k p (q ∷ qs) h a =
    times-along f k q qs (exchange p q h) (subst (λ (n : ℕ). All (λ (r : ℕ). r < n) (q ∷ qs)) (sym (length-exchange p q h)) a.1)
    ∙ times-exchange f k p q h a.0 a.1.0

-- A rise displaces nothing but what stands on its path.
pub rise-same : (d k p : ℕ) (h : List Entry) → SameBut (p ∷ risen d k p h) h (rise d k p h)
rise-same d k p h = rw (rise-along d k p h) (along-same p (risen d k p h) h)

-- So with settling.
pub settle-same : (d p : ℕ) (h : List Entry) → SameBut (p ∷ settled d p h) h (settle d p h)
settle-same d p h = rw (settle-along d p h) (along-same p (settled d p h) h)

-- The entry at r came from another position of the path.
pub record Came (path : List ℕ) (h after : List Entry) (r : ℕ) : Type 0 where
  pub from : ℕ
  pub on : 1 ≤ times from path
  pub other : from ≡ r → ⊥
  pub same : at after r ≡ at h from

came-later : (p q : ℕ) (qs : List ℕ) (h after : List Entry) (r : ℕ) → q < length h
    → times p (q ∷ qs) ≡ 0 → (p ≡ r → ⊥)
    → Came (q ∷ qs) (exchange p q h) after r → Came (p ∷ (q ∷ qs)) h after r
came-later p q qs h after r i z n c =
    same? c.from q
    (λ e.
    record {
      from = p;
      on = omega (arith, times-here p p (q ∷ qs) refl);
      other = n;
      same = c.same ∙ rw e (at-exchange-second p q h i);
    })
    (λ m.
    let off : c.from ≡ p → ⊥ = λ e. omega (arith, c.on, ap (λ (x : ℕ). times x (q ∷ qs)) e) in
    record {
      from = c.from;
      on = omega (arith, c.on, times-past c.from p (q ∷ qs) (λ e. off (sym e)));
      other = c.other;
      same = c.same ∙ at-exchange-other p q h c.from off m;
    })

-- The rest of a path is a path, and does not come back to its first position.
path-rest : (n p q : ℕ) (qs : List ℕ) → Path n p (q ∷ qs) → Path n q qs × (times p (q ∷ qs) ≡ 0)
path-rest n p q qs t =
    let first : times p (q ∷ qs) ≡ 0 = omega (arith, t.apart p, times-here p p (q ∷ qs) refl) in
    let fewer : (r : ℕ) → times r (q ∷ qs) ≤ 1 =
    λ r.
    same? p r
    (λ e. rw (← e) (omega arith))
    (λ d. omega (arith, t.apart r, times-past r p (q ∷ qs) d)) in
    (record { filled = t.filled.1; apart = fewer }, first)

-- The first entry that is passed stands where the path begins.
pub along-first : (p q : ℕ) (qs : List ℕ) (h : List Entry) → Path (length h) p (q ∷ qs) → at (along p (q ∷ qs) h) p ≡ at h q
unfolding along
along-first p q qs h t =
    (along-same q qs (exchange p q h)).elsewhere p (path-rest (length h) p q qs t).1
    ∙ at-exchange-first p q h t.filled.0

came-first : (p q : ℕ) (qs : List ℕ) (h : List Entry) → Path (length h) p (q ∷ qs)
    → (r : ℕ) → p ≡ r → Came (p ∷ (q ∷ qs)) h (along q qs (exchange p q h)) r
came-first p q qs h t r e =
    let first : times p (q ∷ qs) ≡ 0 = (path-rest (length h) p q qs t).1 in
    let differ : p ≡ q → ⊥ = λ f. omega (arith, times-here p q qs (sym f)) in
    record {
      from = q;
      on = omega (arith, times-here q q qs refl, times-past q p (q ∷ qs) differ);
      other = λ f. differ (e ∙ sym f);
      same = rw (← e) (unfold along in along-first p q qs h t);
    }

-- Along a path of two positions or more every entry on it comes to another place.
pub along-came : (p q : ℕ) (qs : List ℕ) (h : List Entry) → Path (length h) p (q ∷ qs)
    → (r : ℕ) → 1 ≤ times r (p ∷ (q ∷ qs)) → Came (p ∷ (q ∷ qs)) h (along p (q ∷ qs) h) r
unfolding along
along-came p q [] h t r i =
    same? p r
    (λ e. came-first p q [] h t r e)
    (λ n.
    same? q r
    (λ e.
    record {
      from = p;
      on = omega (arith, times-here p p (q ∷ []) refl);
      other = n;
      same = rw (← e) (at-exchange-second p q h t.filled.1.0);
    })
    (λ m. absurd (unfold times in omega (arith, times-past r p (q ∷ []) n, times-past r q [] m))))
along-came p q (s ∷ ss) h t r i =
    let l : List Entry = exchange p q h in
    let rest = path-rest (length h) p q (s ∷ ss) t in
    let on : Path (length l) q (s ∷ ss) = rw (length-exchange p q h) rest.0 in
    same? p r
    (λ e. came-first p q (s ∷ ss) h t r e)
    (λ n.
    came-later p q (s ∷ ss) h _ r t.filled.1.0 rest.1 n
    (along-came q s ss l on r (omega (arith, times-past r p (q ∷ (s ∷ ss)) n))))

module _ (f : Entry → ℕ) where
  -- Where numbers differ, another stands after at every position of a path of two or more.
  pub along-differs : (p q : ℕ) (qs : List ℕ) (h : List Entry) → Path (length h) p (q ∷ qs)
      → ((k : ℕ) → times k (map f h) ≤ 1)
      → (r : ℕ) → 1 ≤ times r (p ∷ (q ∷ qs)) → f (at (along p (q ∷ qs) h) r) ≡ f (at h r) → ⊥
  along-differs p q qs h t u r i e =
      let c = along-came p q qs h t r i in
      c.other
      (one-position f h u c.from r
      (all-times (λ (x : ℕ). x < length h) (p ∷ (q ∷ qs)) t.filled c.from c.on)
      (all-times (λ (x : ℕ). x < length h) (p ∷ (q ∷ qs)) t.filled r i)
      (ap f (sym c.same) ∙ e))

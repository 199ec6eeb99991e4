-- A plain list is determined by its entries: two lists of the same entries, both in order, are one list.
-- Assumes nothing.
use Prim.Native.Nat.{ℕ, ◌≤◌}
use native.Mathlib.Omega.{arith}
use mathlib.Core.Bool.{Bool, true, false, cond, ◌&&◌}
use mathlib.Core.List.{List, [], ◌∷◌, map}
use mathlib.Core.Option.{some, none-ne-some, some-injective}
use mathlib.Core.Path.{◌≡◌, refl, sym, ap}
use lib.Dec.{eqb}
use borrow.Author.Tests.{eqb-true, eq-eqb}
use Rattle.cells.specs.Lists.{All, times}
use Rattle.cells.proofs.Cases.{test, clash, and-true}
use Rattle.cells.proofs.Lists.{all_map, all_both, times-here, times-past}
use Rattle.meaning.specs.Entries.{Entry, before, names, named, earliest, Ordered}
use Rattle.meaning.specs.Arranged.{SameEntries, arranged}
use Rattle.meaning.proofs.Behind.{before-behind, behind-self}
use Rattle.meaning.proofs.Handles.{ticket_of, names-other, named-all}
use Rattle.meaning.proofs.Same.{entry-same, same_length, named-head}
use Rattle.meaning.proofs.Arranged.{absent-all, arranged-same, arranged-ordered}

-- Two entries have the same five words.
unfoldable alike : Entry → Entry → Bool
alike x y =
    eqb x.key y.key
    && (eqb x.order y.order && (eqb x.cell y.cell && (eqb x.ticket y.ticket && eqb x.load y.load)))

-- Then they are one entry.
alike_same : (x y : Entry) → alike x y ≡ true → x ≡ y
unfolding alike
alike_same x y t =
    let a = and-true _ _ t in
    let b = and-true _ _ a.1 in
    let c = and-true _ _ b.1 in
    let d = and-true _ _ c.1 in
    entry-same x y
    (eqb-true x.key y.key a.0)
    (eqb-true x.order y.order b.0)
    (eqb-true x.cell y.cell c.0)
    (eqb-true x.ticket y.ticket d.0)
    (eqb-true x.load y.load d.1)

-- An entry has its own words.
alike_self : (x : Entry) → alike x x ≡ true
unfolding alike
alike_self x =
    rw (
      eq-eqb x.key x.key refl,
      eq-eqb x.order x.order refl,
      eq-eqb x.cell x.cell refl,
      eq-eqb x.ticket x.ticket refl,
      eq-eqb x.load x.load refl,
    )

-- A number read off an entry: 1 if it is x, 0 if it is another.
unfoldable mark : Entry → Entry → ℕ
mark x y = cond (alike x y) 1 0

-- It is 1 of x itself,
mark-self : (x : Entry) → mark x x ≡ 1
unfolding mark
mark-self x = rw (alike_self x)

-- and 0 of an entry with other words.
mark-other : (x y : Entry) → alike x y ≡ false → mark x y ≡ 0
unfolding mark
mark-other x y t = rw t

-- Behind an entry that is not x, x stands as often as with it.
mark-past : (x y : Entry) (ys : List Entry) → alike x y ≡ false → times 1 (map (mark x) (y ∷ ys)) ≡ times 1 (map (mark x) ys)
mark-past x y ys t = times-past 1 (mark x y) (map (mark x) ys) (λ q. omega (arith, mark-other x y t))

-- What holds of all entries of a list holds of one that stands in it.
all-present : (P : Entry → Type 0) (x : Entry) (ys : List Entry) → 1 ≤ times 1 (map (mark x) ys) → All P ys → P x
all-present P x [] l a = absurd (unfold times in omega arith)
all-present P x (y ∷ ys) l a =
    test (alike x y)
    (λ t. rw (alike_same x y t) a.0)
    (λ t. all-present P x ys (omega (arith, mark-past x y ys t)) a.1)

-- What holds of every entry that stands in a list holds of all of it.
present-all : (P : Entry → Type 0) (ys : List Entry) → ((x : Entry) → 1 ≤ times 1 (map (mark x) ys) → P x) → All P ys
present-all P [] h = tt
present-all P (y ∷ ys) h = (h y (omega (arith, times-here 1 (mark y y) (map (mark y) ys) (mark-self y))), present-all P ys (λ x l. h x (more x l)))
  where
    more : (x : Entry) → 1 ≤ times 1 (map (mark x) ys) → 1 ≤ times 1 (map (mark x) (y ∷ ys))
    more x l = unfold times in omega arith

-- What holds of all of some entries holds of them in any other order.
pub same-all : (P : Entry → Type 0) (xs ys : List Entry) → SameEntries xs ys → All P xs → All P ys
same-all P xs ys s a = present-all P ys (λ x l. all-present P x xs (omega (arith, s (mark x) 1)) a)

-- Of two lists in order, of the same entries, the first is not before the other's first.
first-behind : (x y : Entry) (xs ys : List Entry) → Ordered (x ∷ xs) → SameEntries (x ∷ xs) (y ∷ ys) → before y x ≡ false
first-behind x y xs ys o s =
    (same-all (λ (z : Entry). before z x ≡ false) (x ∷ xs) (y ∷ ys) s
    (behind-self x, all_map (λ z h. before-behind x z h) xs o.0)).0

-- So the two lists begin with one entry.
first-same : (x y : Entry) (xs ys : List Entry) → Ordered (x ∷ xs) → Ordered (y ∷ ys) → SameEntries (x ∷ xs) (y ∷ ys) → x ≡ y
first-same x y xs ys o u s =
    test (alike x y)
    (λ t. alike_same x y t)
    (λ t.
    let there : 1 ≤ times 1 (map (mark x) ys) =
    omega (arith, mark-past x y ys t, s (mark x) 1, times-here 1 (mark x x) (map (mark x) xs) (mark-self x)) in
    clash (all-present (λ (z : Entry). before y z ≡ true) x ys there u.0) (first-behind x y xs ys o s))

-- Two plain lists of the same entries are one list.
pub ordered-unique : (xs ys : List Entry) → Ordered xs → Ordered ys → SameEntries xs ys → xs ≡ ys
unfolding times
ordered-unique [] [] o u s = refl
ordered-unique [] (y ∷ ys) o u s = absurd (omega (arith, same_length [] (y ∷ ys) s))
ordered-unique (x ∷ xs) [] o u s = absurd (omega (arith, same_length (x ∷ xs) [] s))
ordered-unique (x ∷ xs) (y ∷ ys) o u s =
    let first : x ≡ y = first-same x y xs ys o u s in
    let rest : xs ≡ ys =
    ordered-unique xs ys o.1 u.1 (λ f k. omega (arith, s f k, ap (λ (z : Entry). times k (f z ∷ [])) first)) in
    cc

-- Entries put in their order are the one list in order of these entries.
pub arranged_is : (es os : List Entry) → SameEntries es os → Ordered os → ((k : ℕ) → times k (map (λ (e : Entry). e.order) os) ≤ 1)
    → arranged es ≡ os
arranged_is es os s o u =
    ordered-unique (arranged es) os (arranged-ordered es (λ k. omega (arith, s (λ (e : Entry). e.order) k, u k))) o
    (λ f k. omega (arith, arranged-same es f k, s f k))

-- Where tickets differ, the handle of each entry names it.
pub all_named : (es : List Entry) → ((k : ℕ) → times k (map ticket_of es) ≤ 1)
    → All (λ (e : Entry). named e.cell e.ticket es ≡ some e) es
all_named [] u = tt
all_named (x ∷ xs) u =
    let absent : times x.ticket (map ticket_of xs) ≡ 0 = omega (arith, u x.ticket, times-here x.ticket x.ticket (map ticket_of xs) refl) in (
      named-head x xs,
      all_map (λ e h. past e h.0 h.1) xs
          (all_both (λ (e : Entry). named e.cell e.ticket xs ≡ some e) (λ (e : Entry). e.ticket ≡ x.ticket → ⊥) xs
          (all_named xs (λ k. unfold times in omega (arith, u k)))
          (absent-all ticket_of x.ticket xs absent)),
    )
  where
    past : (e : Entry) → named e.cell e.ticket xs ≡ some e → (e.ticket ≡ x.ticket → ⊥) → named e.cell e.ticket (x ∷ xs) ≡ some e
    past e h d = unfold named in rw (names-other e.cell e.ticket x (λ q. d (sym q))) h

-- An entry of a list in order that no other is before is its first.
pub earliest-is : (e : Entry) (os : List Entry) → Ordered os → named e.cell e.ticket os ≡ some e → All (λ (y : Entry). before y e ≡ false) os
    → earliest os ≡ e
unfolding earliest named
earliest-is e [] o n a = absurd (none-ne-some e n)
earliest-is e (x ∷ xs) o n a =
    test (names e.cell e.ticket x)
    (λ t. let whole : some x ≡ some e = rw t at n in some-injective x e whole)
    (λ t.
    let rest : named e.cell e.ticket xs ≡ some e = rw t at n in
    clash (named-all e.cell e.ticket (λ (y : Entry). before x y ≡ true) e xs rest o.0) a.0)

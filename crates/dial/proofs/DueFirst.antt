-- The first of the due list is the first of the plain list: no deadline is below the clock, and equal deadlines stand by rising order number.
-- Assumes nothing.
use Prim.Native.Nat.{ℕ, ◌≤◌, ◌<◌}
use native.Mathlib.Omega.{arith}
use mathlib.Core.Bool.{true, false}
use mathlib.Core.List.{List, [], ◌∷◌}
use mathlib.Core.Logic.{◌≢◌}
use mathlib.Core.Option.{some}
use mathlib.Core.Path.{◌≡◌, sym, subst, ◌∙◌}
use lib.Dec.{eqb}
use borrow.Author.Tests.{eqb-true, eqb-false}
use Rattle.cells.specs.Lists.{All}
use Rattle.cells.proofs.Cases.{test, same?}
use Rattle.cells.proofs.Lists.{all_map, all_both}
use Rattle.slots.specs.Stand.{due_list}
use Rattle.meaning.specs.Entries.{Entry, before, named, earliest}
use Rattle.meaning.specs.Plain.{Plain}
use Rattle.meaning.specs.Arranged.{arranged}
use Rattle.meaning.proofs.Orders.{before-key, before-order}
use Rattle.meaning.proofs.Behind.{before-behind, behind-self}
use Rattle.meaning.proofs.Arranged.{arranged-all}
use Rattle.meaning.proofs.Unique.{all_named, earliest-is}
use Rattle.dial.specs.Joined.{listed, Stable, Valid}
use Rattle.dial.specs.Turns.{list_of}
use Rattle.dial.specs.Shows.{passing, standing}
use Rattle.dial.proofs.Listed.{listed-named}
use Rattle.dial.proofs.Facts.{facts}
use Rattle.dial.proofs.Numbers.{number-due, number-only}
use Rattle.dial.proofs.Passing.{passing-all}

-- What holds of all entries holds of the first of a list.
pub first-all : (P : Entry → Type 0) (t i : ℕ) (e : Entry) (rest es : List Entry) → standing t i es ≡ e ∷ rest → All P es → P e
unfolding standing
first-all P t i e rest es q a =
    let both : All P (e ∷ rest) = rw q at (passing-all (λ (x : Entry). eqb (list_of t x.key) i) P es a) in
    both.0

-- An entry at the clock is before all that joined after it.
clock-first : (t : ℕ) (e : Entry) (es : List Entry) → t ≡ e.key → All (λ (y : Entry). t ≤ y.key) es
    → All (λ (y : Entry). e.key ≡ y.key → e.order < y.order) es
    → All (λ (y : Entry). before y e ≡ false) es
clock-first t e es q a s =
    all_map (λ y h. before-behind e y (ahead y h.0 h.1)) es
    (all_both (λ (y : Entry). t ≤ y.key) (λ (y : Entry). e.key ≡ y.key → e.order < y.order) es a s)
  where
    ahead : (y : Entry) → t ≤ y.key → (e.key ≡ y.key → e.order < y.order) → before e y ≡ true
    ahead y l o = same? e.key y.key (λ k. before-order e y k (o k)) (λ d. before-key e y (omega arith))

-- No entry is before the first of the due list, whose deadline is the clock.
pub due-leads : (t : ℕ) (e : Entry) (rest es : List Entry) → All (λ (y : Entry). t ≤ y.key) es → Stable es → standing t due_list es ≡ e ∷ rest
    → (t ≡ e.key) × All (λ (y : Entry). before y e ≡ false) es
unfolding standing passing
due-leads t e rest [] a s q = absurd (let z : ◌≡◌ {A = ℕ} 0 1 = cc in omega arith)
due-leads t e rest (x ∷ xs) a s q =
    test (eqb (list_of t x.key) due_list)
    (λ y.
    let whole : x ∷ standing t due_list xs ≡ e ∷ rest = rw y at q in
    let same : x ≡ e = cc in
    let key : t ≡ x.key = number-only t x.key (eqb-true (list_of t x.key) due_list y) in
    subst (λ (z : Entry). (t ≡ z.key) × All (λ (y : Entry). before y z ≡ false) (x ∷ xs)) same (key, (behind-self x, clock-first t x xs key a.1 s.0)))
    (λ n.
    let further : standing t due_list xs ≡ e ∷ rest = rw n at q in
    let two = due-leads t e rest xs a.1 s.1 further in
    let other : t ≢ x.key = λ k. eqb-false (list_of t x.key) due_list n (number-due t x.key k) in
    (two.0, (before-behind e x (before-key e x (omega (arith, two.0, a.0))), two.1)))

-- The first of the due list is the first of the plain list, and its handle names it.
pub due-earliest : (m : Plain) (e : Entry) (rest : List Entry) → Valid m → standing m.clock due_list m.entries ≡ e ∷ rest
    → (earliest (arranged m.entries) ≡ e) × (named e.cell e.ticket m.entries ≡ some e)
unfolding listed
due-earliest m e rest v q =
    let known = facts m v in
    let late : All (λ (y : Entry). m.clock ≤ y.key) m.entries = all_map (λ y h. h.late) m.entries known.within in
    let own : named e.cell e.ticket m.entries ≡ some e =
    first-all (λ (y : Entry). named y.cell y.ticket m.entries ≡ some y) m.clock due_list e rest m.entries q
    (all_named m.entries known.tickets) in (
      earliest-is e (arranged m.entries) v.kept.ordered
          (sym (listed-named m v.kept e.cell e.ticket) ∙ own)
          (arranged-all (λ (y : Entry). before y e ≡ false) m.entries
          (due-leads m.clock e rest m.entries late v.stable q).1),
      own,
    )

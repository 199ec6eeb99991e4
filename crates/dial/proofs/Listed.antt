-- The wheel's model is a plain list but for its order: what a change does to entries in the order in which they joined it does to the plain list of them.
-- Assumes nothing.
use Prim.Native.Nat.{ℕ, zero, suc, ◌+◌, ◌≤◌}
use native.Mathlib.Omega.{arith}
use mathlib.Core.List.{List, [], ◌∷◌, ◌++◌, map}
use mathlib.Core.Option.{some}
use mathlib.Core.Path.{◌≡◌, refl, ap, ◌∙◌}
use lib.ListN.{take, drop}
use lib.Seq.{take-add}
use Rattle.cells.specs.Lists.{All, times}
use Rattle.cells.proofs.Lists.{times-append}
use Rattle.meaning.specs.Entries.{Entry, named, without, earliest, Ordered}
use Rattle.meaning.specs.Plain.{Plain, onto, filed, refiled, Change, stays, files, refiles, frees, hands, apply}
use Rattle.meaning.specs.Arranged.{SameEntries, arranged}
use Rattle.meaning.specs.Calls.{Call, outcome, result}
use Rattle.meaning.specs.Kept.{Kept}
use Rattle.meaning.proofs.Orders.{times-insert}
use Rattle.meaning.proofs.Handles.{ticket_of, map-append, times-without}
use Rattle.meaning.proofs.Stack.{onto-append}
use Rattle.meaning.proofs.Same.{same_length, same-named, named-head}
use Rattle.meaning.proofs.Arranged.{arranged-same, all-arranged}
use Rattle.meaning.proofs.Unique.{arranged_is}
use Rattle.meaning.proofs.Allowed.{Allowed, allowed, found}
use Rattle.meaning.proofs.Reached.{kept-apply}
use Rattle.dial.specs.Joined.{listed, remaining, joins, step}

-- A model of its parts.
abbrev plain_of : (entries : List Entry) (clock counter cells : ℕ) (free : List ℕ) → Plain
plain_of entries clock counter cells free = record { entries = entries; clock = clock; counter = counter; cells = cells; free = free }

-- Two models with the same parts are one.
pub plain-same : (s t : Plain) → s.entries ≡ t.entries → s.clock ≡ t.clock → s.counter ≡ t.counter → s.cells ≡ t.cells → s.free ≡ t.free → s ≡ t
plain-same s t a b c d e =
    let whole : plain_of s.entries s.clock s.counter s.cells s.free ≡ plain_of t.entries t.clock t.counter t.cells t.free = cc in
    whole

-- Entries at the tail of a list are as many more.
pub times-joined : (k : ℕ) (f : Entry → ℕ) (es : List Entry) (x : Entry) → times k (map f (es ++ (x ∷ []))) ≡ times k (f x ∷ map f es)
unfolding times
times-joined k f es x =
    omega (arith, ap (times k) (map-append f es (x ∷ [])), times-append k (map f es) (map f (x ∷ [])))

-- Where no entry is none is left.
remaining-none : (k : ℕ) → remaining k [] ≡ []
unfolding remaining without
remaining-none zero = refl
remaining-none (suc k) = remaining-none k

-- Without the first of the plain list the entries are the others of it.
pub rest-same : (es : List Entry) (x : Entry) (xs : List Entry) → SameEntries es (x ∷ xs) → times x.ticket (map ticket_of (x ∷ xs)) ≤ 1
    → SameEntries (without x.cell x.ticket es) xs
unfolding times
rest-same es x xs s u f j =
    let here : named x.cell x.ticket es ≡ some x = same-named es (x ∷ xs) s x.cell x.ticket u ∙ named-head x xs in
    omega (arith, s f j, times-without x.cell x.ticket j f x es here)

-- The first k of the plain list taken out one by one are the first k dropped from it.
pub remaining-same : (k : ℕ) (es os : List Entry) → SameEntries es os → Ordered os
    → ((j : ℕ) → times j (map ticket_of os) ≤ 1) → ((j : ℕ) → times j (map (λ (e : Entry). e.order) os) ≤ 1)
    → SameEntries (remaining k es) (drop k os)
unfolding remaining earliest times
remaining-same zero es os s o u v = s
remaining-same (suc k) [] [] s o u v = λ f j. rw (remaining-none (suc k))
remaining-same (suc k) (e ∷ es) [] s o u v = absurd (omega (arith, same_length (e ∷ es) [] s))
remaining-same (suc k) es (x ∷ xs) s o u v =
    let first : earliest (arranged es) ≡ x = rw (arranged_is es (x ∷ xs) s o v) refl in
    rw first
    (remaining-same k (without x.cell x.ticket es) xs
    (rest-same es x xs s (u x.ticket))
    o.1
    (λ j. omega (arith, u j))
    (λ j. omega (arith, v j)))

-- The entries are those of the plain list.
pub listed_same : (m : Plain) → SameEntries m.entries (listed m).entries
unfolding listed
listed_same m = arranged-same m.entries

-- What holds of all of the plain list holds of all entries.
pub listed-all : (P : Entry → Type 0) (m : Plain) → All P (listed m).entries → All P m.entries
unfolding listed
listed-all P m a = all-arranged P m.entries a

module _ (m : Plain) (kept : Kept (listed m)) where
  -- Tickets differ.
  pub listed-tickets : (k : ℕ) → times k (map ticket_of m.entries) ≤ 1
  listed-tickets k = omega (arith, listed_same m ticket_of k, kept.tickets k)

  -- Every handle names the same as in the plain list.
  pub listed-named : (c k : ℕ) → named c k m.entries ≡ named c k (listed m).entries
  listed-named c k = same-named m.entries (listed m).entries (listed_same m) c k (kept.tickets k)

  -- A change leaves the same entries in both.
  joins-same : (ch : Change) → Allowed ch (listed m) → SameEntries (joins ch m).entries (apply ch (listed m)).entries
  unfolding listed joins apply filed refiled times
  joins-same stays a f j = listed_same m f j
  joins-same (files key load) a f j =
      let x : Entry = filed key load (listed m) in
      omega (arith, times-joined j f m.entries x, times-insert j f x (listed m).entries, listed_same m f j)
  joins-same (refiles c k key) a f j =
      let (e, q) = found (named c k (listed m).entries) a.0 in
      let x : Entry = refiled key (listed m) e in
      rw (listed-named c k, q)
      (omega (
        arith,
        times-joined j f (without c k m.entries) x,
        times-insert j f x (without c k (listed m).entries),
        times-without c k j f e m.entries (listed-named c k ∙ q),
        times-without c k j f e (listed m).entries q,
        listed_same m f j,
      ))
  joins-same (frees c k) a f j =
      let (e, q) = found (named c k (listed m).entries) a in
      omega (
        arith,
        times-without c k j f e m.entries (listed-named c k ∙ q),
        times-without c k j f e (listed m).entries q,
        listed_same m f j,
      )
  joins-same (hands k t) a f j = remaining-same k m.entries (listed m).entries (listed_same m) kept.ordered kept.tickets kept.orders f j

  -- So the plain list of them afterwards is the plain list changed.
  pub joins-entries : (ch : Change) → Allowed ch (listed m) → arranged (joins ch m).entries ≡ (apply ch (listed m)).entries
  joins-entries ch a =
      let after : Kept (apply ch (listed m)) = kept-apply (listed m) kept ch a in
      arranged_is (joins ch m).entries (apply ch (listed m)).entries (joins-same ch a) after.ordered after.orders

-- A change of the model is that change of the plain list.
pub listed-joins : (m : Plain) (ch : Change) → Kept (listed m) → Allowed ch (listed m) → listed (joins ch m) ≡ apply ch (listed m)
unfolding listed joins apply
listed-joins m stays kept a = refl
listed-joins m (files key load) kept a = plain-same _ _ (joins-entries m kept (files key load) a) refl refl refl refl
listed-joins m (refiles c k key) kept a = plain-same _ _ (joins-entries m kept (refiles c k key) a) refl refl refl refl
listed-joins m (frees c k) kept a = plain-same _ _ (joins-entries m kept (frees c k) a) refl refl refl refl
listed-joins m (hands k t) kept a = plain-same _ _ (joins-entries m kept (hands k t) a) refl refl refl refl

-- j entries taken out and then k more are j + k of them.
remaining-add : (j k : ℕ) (es : List Entry) → remaining k (remaining j es) ≡ remaining (j + k) es
unfolding remaining
remaining-add zero k es = let none : 0 + k ≡ k = omega arith in rw none
remaining-add (suc j) k es =
    let e : Entry = earliest (arranged es) in
    let more : suc j + k ≡ suc (j + k) = omega arith in
    rw more (remaining-add j k (without e.cell e.ticket es))

module _ (m : Plain) (kept : Kept (listed m)) where
  -- The plain list of those that are left is the rest of the plain list.
  pub arranged-hands : (k : ℕ) → arranged (remaining k m.entries) ≡ drop k (arranged m.entries)
  unfolding listed joins apply
  arranged-hands k = joins-entries m kept (hands k m.clock) tt

  -- Two hand-outs are one.
  pub joins-hands : (j a k c : ℕ) → joins (hands k c) (joins (hands j a) m) ≡ joins (hands (j + k) c) m
  unfolding joins
  joins-hands j a k c =
      let os : List Entry = arranged m.entries in
      let free : onto (take k (arranged (remaining j m.entries))) (onto (take j os) m.free) ≡ onto (take (j + k) os) m.free =
      rw (arranged-hands j, take-add j k os, onto-append (take j os) (take k (drop j os)) m.free) in
      plain-same _ _ (remaining-add j k m.entries) refl refl refl free

-- A call answers as on the plain list, and leaves a model of the list afterwards.
pub step-plain : (call : Call) (m : Plain) → Kept (listed m)
    → ((step call m).answer ≡ (result 64 6 call (listed m)).answer) × (listed (step call m).next ≡ (result 64 6 call (listed m)).next)
unfolding step result
step-plain call m kept = (refl, listed-joins m (outcome 64 6 call (listed m)).change kept (allowed 64 6 (listed m) call))

-- Two lists of the same entries, in whatever order: as long, with the same tickets, and every handle names the same in both.
-- Assumes nothing.
use Prim.Native.Nat.{ℕ, suc, ◌≤◌}
use native.Mathlib.Omega.{arith}
use mathlib.Core.Bool.{true, false, cond}
use mathlib.Core.List.{List, [], ◌∷◌, map}
use mathlib.Core.Option.{Option, none, some}
use mathlib.Core.Path.{◌≡◌, refl, sym, ◌∙◌}
use lib.ListN.{length}
use borrow.Author.Tests.{eq-eqb}
use Rattle.cells.specs.Lists.{times}
use Rattle.cells.proofs.Lists.{times-here, times-past}
use Rattle.cells.proofs.Cases.{same?}
use Rattle.meaning.specs.Entries.{Entry, names, named, without}
use Rattle.meaning.specs.Arranged.{SameEntries}
use Rattle.meaning.proofs.Handles.{ticket_of, named_none, named-names, times-without, named-without-own}

-- An entry of five words.
abbrev made : (key order cell ticket load : ℕ) → Entry
made key order cell ticket load = record { key = key; order = order; cell = cell; ticket = ticket; load = load }

-- Two entries with the same words are one.
pub entry-same : (x y : Entry) → x.key ≡ y.key → x.order ≡ y.order → x.cell ≡ y.cell → x.ticket ≡ y.ticket → x.load ≡ y.load → x ≡ y
entry-same x y a b c d e =
    let whole : made x.key x.order x.cell x.ticket x.load ≡ made y.key y.order y.cell y.ticket y.load = cc in
    whole

-- A number that is 0 for every entry stands once for each.
pub times-each : (es : List Entry) → times 0 (map (λ (e : Entry). 0) es) ≡ length es
unfolding times
times-each [] = refl
times-each (e ∷ es) = omega (arith, times-each es)

-- The same entries are as many.
pub same_length : (xs ys : List Entry) → SameEntries xs ys → length xs ≡ length ys
same_length xs ys s = sym (times-each xs) ∙ s (λ (e : Entry). 0) 0 ∙ times-each ys

-- A number of an entry, where the handle names it, above 0; else 0.
unfoldable tagged : ℕ → ℕ → (Entry → ℕ) → Entry → ℕ
tagged c k g e = cond (names c k e) (suc (g e)) 0

module _ (c k : ℕ) (g : Entry → ℕ) where
  -- That of the entry that the handle names is above 0.
  tagged_is : (e : Entry) (es : List Entry) → named c k es ≡ some e → tagged c k g e ≡ suc (g e)
  unfolding tagged
  tagged_is e es h = rw (named-names c k e es h)

  -- That of an entry that it does not name is 0.
  tagged-not : (e : Entry) → names c k e ≡ false → tagged c k g e ≡ 0
  unfolding tagged
  tagged-not e h = rw h

  -- The number of the entry that the handle names is there.
  tagged-there : (e : Entry) (es : List Entry) → named c k es ≡ some e → 1 ≤ times (suc (g e)) (map (tagged c k g) es)
  tagged-there e es h =
      omega (
        arith,
        times-without c k (suc (g e)) (tagged c k g) e es h,
        times-here (suc (g e)) (tagged c k g e) (map (tagged c k g) (without c k es)) (tagged_is e es h),
      )

  -- Where the handle names nothing no number is there.
  tagged-absent : (v : ℕ) (es : List Entry) → named c k es ≡ none → times (suc v) (map (tagged c k g) es) ≡ 0
  tagged-absent v [] h = unfold times in refl
  tagged-absent v (e ∷ es) h =
      let two = named_none c k e es h in
      times-past (suc v) (tagged c k g e) (map (tagged c k g) es) (λ q. omega (arith, tagged-not e two.0))
      ∙ tagged-absent v es two.1

  -- A number that is there is that of the entry that the handle names.
  tagged-own : (v : ℕ) (e : Entry) (es : List Entry) → named c k es ≡ some e → times k (map ticket_of es) ≤ 1
      → 1 ≤ times (suc v) (map (tagged c k g) es) → v ≡ g e
  tagged-own v e es h u l =
      same? (tagged c k g e) (suc v)
      (λ q. omega (arith, tagged_is e es h))
      (λ n. absurd (omega (
        arith,
        times-without c k (suc v) (tagged c k g) e es h,
        times-past (suc v) (tagged c k g e) (map (tagged c k g) (without c k es)) n,
        tagged-absent v (without c k es) (named-without-own c k es u),
      )))

-- A handle names the same in two lists of the same entries, with tickets that differ.
pub same-named : (xs ys : List Entry) → SameEntries xs ys → (c k : ℕ) → times k (map ticket_of ys) ≤ 1 → named c k xs ≡ named c k ys
same-named xs ys s c k u = go (named c k xs) (named c k ys) refl refl
  where
    go : (a b : Option Entry) → named c k xs ≡ a → named c k ys ≡ b → a ≡ b
    go none none p q = refl
    go none (some y) p q =
        absurd (omega (
          arith,
          tagged-absent c k ticket_of y.ticket xs p,
          tagged-there c k ticket_of y ys q,
          s (tagged c k ticket_of) (suc y.ticket),
        ))
    go (some x) none p q =
        absurd (omega (
          arith,
          tagged-absent c k ticket_of x.ticket ys q,
          tagged-there c k ticket_of x xs p,
          s (tagged c k ticket_of) (suc x.ticket),
        ))
    go (some x) (some y) p q =
        let each : (g : Entry → ℕ) → g x ≡ g y =
        λ g. tagged-own c k g (g x) y ys q u (omega (arith, tagged-there c k g x xs p, s (tagged c k g) (suc (g x)))) in
        let all : x ≡ y =
        entry-same x y (each (λ e. e.key)) (each (λ e. e.order)) (each (λ e. e.cell)) (each (λ e. e.ticket)) (each (λ e. e.load)) in
        cc

-- A handle of the first entry names it.
pub named-head : (e : Entry) (es : List Entry) → named e.cell e.ticket (e ∷ es) ≡ some e
unfolding named names
named-head e es = rw (eq-eqb e.cell e.cell refl, eq-eqb e.ticket e.ticket refl)

-- A handle with an entry's cell and ticket names it.
pub names-by : (c k : ℕ) (e : Entry) → e.cell ≡ c → e.ticket ≡ k → names c k e ≡ true
unfolding names
names-by c k e p q = rw (eq-eqb e.cell c p, eq-eqb e.ticket k q)

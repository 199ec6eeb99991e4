-- One fired record behind the others, and then more, are so many records more.
-- Assumes nothing.
use Prim.Native.Nat.{ℕ, suc, ◌+◌, ◌*◌, ◌≤◌, ◌<◌}
use native.Mathlib.Omega.{arith}
use mathlib.Core.List.{List, [], ◌∷◌, ◌++◌, append_assoc, append-nil}
use mathlib.Core.Path.{◌≡◌, refl, sym, ap, ◌∙◌}
use lib.ListN.{length, take, drop, length-append, length-take, length-drop, take-append-drop, drop_of_length-le}
use lib.Seq.{take_all, take_at, drop-append-add, drop-drop, length-take-le}
use Rattle.cells.proofs.Cases.{at_most?}
use Rattle.meaning.specs.Entries.{Entry}
use Rattle.dial.specs.Turns.{recorded}
use Rattle.dial.specs.Records.{records, with_records}

-- Words xs are written behind the first a words of a list; the list may be shorter.
module _ (out xs : List ℕ) (a b : ℕ) (long : length xs ≡ b) where
  -- What is kept in front, and what is written.
  front : List ℕ
  front = take a out ++ xs

  -- With what follows it, all words.
  written : List ℕ
  written = take a out ++ (xs ++ drop (a + b) out)

  -- They are the front, and what follows.
  whole : written ≡ front ++ drop (a + b) out
  unfolding written front
  whole = sym (append_assoc (take a out) xs (drop (a + b) out))

  -- The front has a + b words, if the list is long enough.
  front_long : a ≤ length out → length front ≡ a + b
  unfolding front
  front_long h = omega (arith, length-append (take a out) xs, length-take-le a out h)

  -- At most so many in any case.
  front-most : length front ≤ a + b
  unfolding front
  front-most = omega (arith, length-append (take a out) xs, length-take a out)

  -- If it is not, nothing follows.
  no_more : length out < a → drop (a + b) out ≡ []
  no_more h = drop_of_length-le out {i = a + b} (omega arith)

  -- The words up to the last one written,
  pub written-front : take (a + b) (take a out ++ (xs ++ drop (a + b) out)) ≡ take a out ++ xs
  unfolding written front
  written-front =
      ap (take (a + b)) whole
      ∙ at_most? a (length out)
      (λ h. take_at front (drop (a + b) out) (a + b) (front_long h))
      (λ h. rw (no_more h, append-nil) (take_all (a + b) front front-most))

  -- and those behind it.
  pub written_behind : (r : ℕ) → drop (a + b + r) (take a out ++ (xs ++ drop (a + b) out)) ≡ drop (a + b + r) out
  unfolding written front
  written_behind r =
      ap (drop (a + b + r)) whole
      ∙ at_most? a (length out)
      (λ h.
      ap (λ (n : ℕ). drop (n + r) (front ++ drop (a + b) out)) (sym (front_long h))
      ∙ drop-append-add front (drop (a + b) out) r
      ∙ drop-drop r (a + b) out)
      (λ h.
      rw (no_more h, append-nil)
      (drop_of_length-le front {i = a + b + r} (omega (arith, front-most))
      ∙ sym (drop_of_length-le out {i = a + b + r} (omega arith))))

-- Without a record the output is as it was.
pub records-none : (out : List ℕ) (n : ℕ) → with_records out n [] ≡ out
unfolding with_records records
records-none out n =
    let same : (n + 0) * 4 ≡ n * 4 = omega arith in
    ap (λ (k : ℕ). take (n * 4) out ++ drop k out) same ∙ take-append-drop (n * 4) out

-- A record has four words.
pub records-length : (es : List Entry) → length (records es) ≡ length es * 4
unfolding records
records-length [] = refl
records-length (e ∷ es) = omega (arith, records-length es)

-- Records of two lists.
records-append : (es fs : List Entry) → records (es ++ fs) ≡ records es ++ records fs
unfolding records
records-append [] fs = refl
records-append (e ∷ es) fs = ap (λ (l : List ℕ). e.cell ∷ e.ticket ∷ e.key ∷ e.load ∷ l) (records-append es fs)

-- Where there is room for them the output is as long as before.
pub records-room : (out : List ℕ) (n : ℕ) (es : List Entry) → (n + length es) * 4 ≤ length out → length (with_records out n es) ≡ length out
unfolding with_records
records-room out n es h =
    omega (
      arith,
      length-append (take (n * 4) out) (records es ++ drop ((n + length es) * 4) out),
      length-append (records es) (drop ((n + length es) * 4) out),
      records-length es,
      length-take (n * 4) out,
      length-drop ((n + length es) * 4) out,
    )

-- Records, and then others behind them, are the records of both.
pub records-both : (out : List ℕ) (n : ℕ) (es fs : List Entry) → with_records (with_records out n es) (n + length es) fs ≡ with_records out n (es ++ fs)
unfolding with_records
records-both out n es fs =
    let a : ℕ = n * 4 in
    let b : ℕ = length es * 4 in
    let r : ℕ = length fs * 4 in
    let now : List ℕ = take a out ++ (records es ++ drop (a + b) out) in
    let at : (n + length es) * 4 ≡ a + b = omega arith in
    let to : (n + length es + length fs) * 4 ≡ a + b + r = omega arith in
    let end : (n + length (es ++ fs)) * 4 ≡ a + b + r = omega (arith, length-append es fs) in
    rw (at, to, end, records-append es fs, append_assoc (records es) (records fs) (drop (a + b + r) out))
    (rw (written-front out (records es) a b (records-length es), written_behind out (records es) a b (records-length es) r)
    (append_assoc (take a out) (records es) (records fs ++ drop (a + b + r) out)))

-- One record is that of one entry,
record-one : (out : List ℕ) (n : ℕ) (e : Entry) → recorded out n e.cell e.ticket e.key e.load ≡ with_records out n (e ∷ [])
unfolding recorded with_records records
record-one out n e =
    let end : n * 4 + 4 ≡ (n + 1) * 4 = omega arith in
    ap (λ (k : ℕ). take (n * 4) out ++ (e.cell ∷ e.ticket ∷ e.key ∷ e.load ∷ drop k out)) end

-- so one record, and then others behind it, are the records of all.
pub records-more :
    (out : List ℕ) (n : ℕ) (e : Entry) (es : List Entry)
    → with_records (recorded out n e.cell e.ticket e.key e.load) (suc n) es ≡ with_records out n (e ∷ es)
records-more out n e es =
    let next : suc n ≡ n + 1 = omega arith in
    ap (λ (o : List ℕ). with_records o (suc n) es) (record-one out n e)
    ∙ ap (λ (k : ℕ). with_records (with_records out n (e ∷ [])) k es) next
    ∙ records-both out n (e ∷ []) es

-- What follows from lists that stand: walking them, the first slot with cells, and that there is one way for them to stand.
-- Assumes nothing.
use Prim.Native.Nat.{ℕ, zero, suc, ◌+◌, ◌*◌, ◌/◌, ◌%◌, ◌≤◌, ◌<◌}
use native.Mathlib.Omega.{arith}
use mathlib.Core.Bool.{Bool, true, false, cond}
use mathlib.Core.List.{List, []}
use mathlib.Core.Logic.{◌≢◌}
use mathlib.Core.Path.{◌≡◌, refl, sym, ap, ◌∙◌}
use lib.ListN.{length, get_or, replicate, length-replicate}
use lib.Seq.{ext_get_or}
use borrow.Author.Tests.{eq-eqb, ne_eqb, lt-ltb, le-ltb}
use Rattle.std.specs.Prelude.{Option, Some, None}
use Rattle.cells.proofs.Cases.{at_most?, same?}
use Rattle.cells.specs.Lists.{times}
use Rattle.cells.specs.Stack.{no_cell, Chain}
use Rattle.cells.specs.Words.{word}
use Rattle.slots.specs.Rings.{next, previous, Lists, ends_of, scan, slot_marked, first_marked, slot_found}
use Rattle.slots.specs.Stand.{due_list, ends_at, has_cells, Stand}
use Rattle.slots.specs.declared.ring.Ends.{Ends}
use Rattle.slots.proofs.MarkDigits.{slot-digit}
use Rattle.slots.proofs.Binary.{zero-unmarked, marks-same}
use Rattle.slots.proofs.Changing.{stand-cells}
use Rattle.slots.proofs.Linking.{linked-one}
use Rattle.slots.proofs.OneRing.{ring-chain}
use Rattle.slots.proofs.Relinking.{next-none, next-some, previous-none, previous-some}

-- The cells of a list are found from its first by their words 4 alone.
pub walk-next :
    (l : Lists) (ls : ℕ → List ℕ)
    → Stand l ls
    → (i : ℕ)
    → i ≤ due_list
    → Chain (λ (c : ℕ). word l.words c 4) (ends_at l i).first (ls i)
walk-next l ls s i h = ring-chain l.words (ls i) (stand-cells l ls s i h) (ends_at l i) (s.rings i h)

-- The least of k numbers from i on that passes a test.
pub record Least (passes : ℕ → Bool) (k i n : ℕ) : Type 0 where
  pub least : i ≤ n
  pub most : n ≤ i + k
  pub below : (j : ℕ) → i ≤ j → j < n → passes j ≡ false
  pub there : n < i + k → passes n ≡ true

-- A scan finds it.
pub scan-least : (passes : ℕ → Bool) (k i : ℕ) → Least passes k i (scan passes k i)
unfolding scan
scan-least passes zero i =
    record { least = omega arith; most = omega arith; below = λ j h k. absurd (omega arith); there = λ h. absurd (omega arith) }
scan-least passes (suc k) i = go (passes i) refl (scan-least passes k (suc i))
  where
    go : (t : Bool) → passes i ≡ t → Least passes k (suc i) (scan passes k (suc i)) → Least passes (suc k) i (cond t i (scan passes k (suc i)))
    go true e r =
        record { least = omega arith; most = omega arith; below = λ j h k. absurd (omega arith); there = λ h. e }
    go false e r =
        record {
          least = omega (arith, r.least);
          most = omega (arith, r.most);
          below = λ j h u. same? j i (λ q. rw q e) (λ d. r.below j (omega arith) u);
          there = λ h. r.there (omega arith);
        }

-- The first slot with cells, 384 where all are empty.
pub record FirstUsed (ls : ℕ → List ℕ) (n : ℕ) : Type 0 where
  pub most : n ≤ due_list
  pub below : (i : ℕ) → i < n → has_cells (ls i) ≡ false
  pub there : n < due_list → has_cells (ls n) ≡ true

-- The first marked slot is the first with cells.
pub marked-first : (l : Lists) (ls : ℕ → List ℕ) → Stand l ls → FirstUsed ls (first_marked l.marks)
unfolding first_marked
marked-first l ls s =
    record {
      most = found.most;
      below = λ i h. sym (s.marks i (omega (arith, found.most))) ∙ found.below i (omega arith) h;
      there = λ h. sym (s.marks n h) ∙ found.there h;
    }
  where
    n : ℕ
    n = scan (slot_marked l.marks) 384 0

    found : Least (slot_marked l.marks) 384 0 n
    found = scan-least (slot_marked l.marks) 384 0

-- A slot that is found is the first marked one, and where none is found none is marked.
pub found-some : (n i : ℕ) → Some i ≡ slot_found n → (i ≡ n) × (i < due_list)
unfolding slot_found
found-some n i e =
    at_most? 384 n
    (λ k. let h : ◌≡◌ {A = Option ℕ} (Some i) None = e ∙ rw (le-ltb n 384 k) in cc)
    (λ k. let h : Some i ≡ Some n = e ∙ rw (lt-ltb n 384 k) in let same : i ≡ n = cc in (same, omega arith))

pub found-none : (marks : List ℕ) → None ≡ slot_found (first_marked marks) → first_marked marks ≡ due_list
unfolding slot_found first_marked
found-none marks e =
    let n : ℕ = scan (slot_marked marks) 384 0 in
    at_most? 384 n
    (λ k. omega (arith, (scan-least (slot_marked marks) 384 0).most))
    (λ k. let h : ◌≡◌ {A = Option ℕ} None (Some n) = e ∙ rw (lt-ltb n 384 k) in cc)

-- The ends of a slot stand in the arrays.
pub slot-first : (l : Lists) (i : ℕ) → i ≢ due_list → (ends_at l i).first ≡ get_or l.first i no_cell
unfolding ends_at ends_of
slot-first l i d = rw (ne_eqb i due_list d)

slot-last : (l : Lists) (i : ℕ) → i ≢ due_list → (ends_at l i).last ≡ get_or l.last i no_cell
unfolding ends_at ends_of
slot-last l i d = rw (ne_eqb i due_list d)

-- The ends of the due list stand beside them.
due-first : (l : Lists) (i : ℕ) → i ≡ due_list → (ends_at l i).first ≡ l.due.first
unfolding ends_at
due-first l i e = rw (eq-eqb i due_list e)

due-last : (l : Lists) (i : ℕ) → i ≡ due_list → (ends_at l i).last ≡ l.due.last
unfolding ends_at
due-last l i e = rw (eq-eqb i due_list e)

-- Ends and lists with equal parts are equal.
ends_same : (a b a' b' : ℕ) → a ≡ a' → b ≡ b' → ◌≡◌ {A = Ends} (record { first = a; last = b }) (record { first = a'; last = b' })
ends_same a b a' b' p q = rw (p, q)

lists-same : (w f a m w' f' a' m' : List ℕ) (e e' : Ends) → w ≡ w' → f ≡ f' → a ≡ a' → m ≡ m' → e ≡ e'
    → ◌≡◌ {A = Lists}
    (record { words = w; first = f; last = a; marks = m; due = e })
    (record { words = w'; first = f'; last = a'; marks = m'; due = e' })
lists-same w f a m w' f' a' m' e e' p q r s t = rw (p, q, r, s, t)

-- Arrays, marks and ends are the same.
pub record OneLists (l l' : Lists) : Type 0 where
  pub first : l.first ≡ l'.first
  pub last : l.last ≡ l'.last
  pub marks : l.marks ≡ l'.marks
  pub due : l.due ≡ l'.due

module _ (l l' : Lists) (ls : ℕ → List ℕ) (s : Stand l ls) (s' : Stand l' ls) where
  -- The same lists are linked alike.
  links : (i : ℕ) → i ≤ due_list
      → (next l.words (ends_at l i) no_cell ≡ next l'.words (ends_at l' i) no_cell)
      × (previous l.words (ends_at l i) no_cell ≡ previous l'.words (ends_at l' i) no_cell)
      × ((c : ℕ) → 1 ≤ times c (ls i)
      → (next l.words (ends_at l i) c ≡ next l'.words (ends_at l' i) c)
      × (previous l.words (ends_at l i) c ≡ previous l'.words (ends_at l' i) c))
  links i h =
      linked-one (next l.words (ends_at l i)) (previous l.words (ends_at l i))
      (next l'.words (ends_at l' i)) (previous l'.words (ends_at l' i)) no_cell (ls i) no_cell (s.rings i h) (s'.rings i h)

  -- They have the same ends,
  one-first : (i : ℕ) → i ≤ due_list → (ends_at l i).first ≡ (ends_at l' i).first
  one-first i h =
      sym (next-none l.words (ends_at l i) no_cell refl) ∙ (links i h).0 ∙ next-none l'.words (ends_at l' i) no_cell refl

  one_last : (i : ℕ) → i ≤ due_list → (ends_at l i).last ≡ (ends_at l' i).last
  one_last i h =
      sym (previous-none l.words (ends_at l i) no_cell refl) ∙ (links i h).1 ∙ previous-none l'.words (ends_at l' i) no_cell refl

  -- and the same links of each cell in them.
  pub one-links : (i c : ℕ) → i ≤ due_list → 1 ≤ times c (ls i)
      → (word l.words c 4 ≡ word l'.words c 4) × (word l.words c 5 ≡ word l'.words c 5)
  one-links i c h k =
      let cell : c ≢ no_cell = λ e. omega (arith, s.inside i c h k, s.room) in
      let both = (links i h).2 c k in (
        sym (next-some l.words (ends_at l i) c cell) ∙ both.0 ∙ next-some l'.words (ends_at l' i) c cell,
        sym (previous-some l.words (ends_at l i) c cell) ∙ both.1 ∙ previous-some l'.words (ends_at l' i) c cell,
      )

  -- The same lists stand in one way only.
  pub one-lists : OneLists l l'
  unfolding ends_at
  one-lists =
      record {
        first =
            ext_get_or no_cell l.first l'.first (s.firsts ∙ sym s'.firsts)
            (λ i h.
            sym (slot-first l i (λ e. omega (arith, s.firsts)))
            ∙ one-first i (omega (arith, s.firsts))
            ∙ slot-first l' i (λ e. omega (arith, s.firsts)));
        last =
            ext_get_or no_cell l.last l'.last (s.lasts ∙ sym s'.lasts)
            (λ i h.
            sym (slot-last l i (λ e. omega (arith, s.lasts)))
            ∙ one_last i (omega (arith, s.lasts))
            ∙ slot-last l' i (λ e. omega (arith, s.lasts)));
        marks = ext_get_or 0 l.marks l'.marks (s.levels ∙ sym s'.levels) level;
        due =
            ends_same l.due.first l.due.last l'.due.first l'.due.last
            (one-first due_list (omega arith))
            (one_last due_list (omega arith));
      }
    where
      level : (p : ℕ) → p < length l.marks → get_or l.marks p 0 ≡ get_or l'.marks p 0
      level p h =
          marks-same 64 (get_or l.marks p 0) (get_or l'.marks p 0) (s.narrow p) (s'.narrow p)
          (λ t k.
          let slot : p * 64 + t < due_list = omega (arith, s.levels) in
          sym (slot-digit l.marks p t k)
          ∙ s.marks (p * 64 + t) slot
          ∙ sym (s'.marks (p * 64 + t) slot)
          ∙ slot-digit l'.marks p t k)

  -- In the same words they are the same altogether.
  pub one_state : l.words ≡ l'.words → l ≡ l'
  one_state e =
      lists-same l.words l.first l.last l.marks l'.words l'.first l'.last l'.marks l.due l'.due
      e one-lists.first one-lists.last one-lists.marks one-lists.due

-- A read of equal numbers, or outside them, finds that number.
get_or-same : (n i a : ℕ) → get_or (replicate n a) i a ≡ a
get_or-same zero i a = refl
get_or-same (suc n) zero a = refl
get_or-same (suc n) (suc i) a = get_or-same n i a

-- Empty lists stand in arrays of n ends and m words of marks, for n slots on m levels.
fresh : (n m : ℕ) (l : Lists) → n ≡ 384 → m ≡ 6 → l.first ≡ replicate n no_cell → l.last ≡ replicate n no_cell → l.marks ≡ replicate m 0
    → l.due.first ≡ no_cell
    → l.due.last ≡ no_cell
    → length l.words / 8 ≤ 4096
    → Stand l (λ (i : ℕ). [])
unfolding times has_cells ends_at ends_of slot_marked next previous
fresh n m l en em f a k df da room =
    record {
      firsts = ap length f ∙ length-replicate n no_cell ∙ en;
      lasts = ap length a ∙ length-replicate n no_cell ∙ en;
      levels = ap length k ∙ length-replicate m 0 ∙ em;
      room = room;
      rings = λ i h.
          same? i due_list
          (λ e. (due-first l i e ∙ df, due-last l i e ∙ da))
          (λ d. (slot-first l i d ∙ rw f (get_or-same n i no_cell), slot-last l i d ∙ rw a (get_or-same n i no_cell)));
      marks = λ i h. rw (k, get_or-same m (i / 64) 0) (zero-unmarked (i % 64));
      narrow = λ p. rw (k, get_or-same m p 0) (omega arith);
      inside = λ i c h t. absurd (omega arith);
      once = λ i c h. omega arith;
      apart = λ i j c h u t. absurd (omega arith);
    }

-- Arrays in which every slot and the due list are empty.
pub fresh-stands : (l : Lists) → l.first ≡ replicate 384 no_cell → l.last ≡ replicate 384 no_cell → l.marks ≡ replicate 6 0
    → l.due.first ≡ no_cell
    → l.due.last ≡ no_cell
    → length l.words / 8 ≤ 4096
    → Stand l (λ (i : ℕ). [])
fresh-stands l = fresh 384 6 l refl refl

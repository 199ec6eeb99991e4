-- What an exchange of two entries leaves where, and the lengths that the heap's steps leave.
-- Assumes nothing.
use Prim.Native.Nat.{ℕ, zero, suc, ◌-◌, ◌<◌}
use native.Mathlib.Omega.{arith}
use mathlib.Core.Bool.{Bool, true, false, cond}
use mathlib.Core.List.{List, [], ◌∷◌, ◌++◌}
use mathlib.Core.Logic.{◌≢◌}
use mathlib.Core.Path.{◌≡◌, refl, ◌∙◌}
use lib.Dec.{eqb}
use lib.ListN.{length, take, set, length-set, length-append, get_or-append}
use lib.Seq.{get_or-set_same, get_or-set_other, get_or-take, get_or-append_seam, lt-length-set, length-take-le}
use Rattle.cells.proofs.Cases.{same?}
use Rattle.meaning.specs.Entries.{Entry, nobody}
use Rattle.meaning.specs.Heap.{at, parent, exchange, early, rise, earlier, child, sink, settle, heap_put, heap_remove, heap_rekey}

-- A filled position that is set holds what it was set to.
pub at_set : (h : List Entry) (p : ℕ) (e : Entry) → p < length h → at (set h p e) p ≡ e
unfolding at
at_set h p e l = get_or-set_same h p e nobody l

-- Another position holds what it held.
pub at_set_other : (h : List Entry) (p r : ℕ) (e : Entry) → r ≢ p → at (set h p e) r ≡ at h r
unfolding at
at_set_other h p r e n = get_or-set_other h p r e nobody n

-- A list cut short holds what it held.
pub at_take : (n : ℕ) (h : List Entry) (p : ℕ) → p < n → at (take n h) p ≡ at h p
unfolding at
at_take n h p l = get_or-take n h p nobody l

-- A list with an entry put at its end holds what it held.
pub at-append : (h : List Entry) (e : Entry) (p : ℕ) → p < length h → at (h ++ (e ∷ [])) p ≡ at h p
unfolding at
at-append h e p l = get_or-append h (e ∷ []) nobody p l

-- At its end it holds that entry.
pub at-append-last : (h : List Entry) (e : Entry) → at (h ++ (e ∷ [])) (length h) ≡ e
unfolding at
at-append-last h e = get_or-append_seam h e [] nobody

-- The first position of an exchange holds what the second held.
pub at-exchange-first : (p q : ℕ) (h : List Entry) → p < length h → at (exchange p q h) p ≡ at h q
unfolding exchange
at-exchange-first p q h l =
    same? p q
    (λ e. rw (← e) (at_set (set h p (at h p)) p (at h p) (lt-length-set h p (at h p) l)))
    (λ n. at_set_other (set h p (at h q)) q p (at h p) n ∙ at_set h p (at h q) l)

-- The second holds what the first held.
pub at-exchange-second : (p q : ℕ) (h : List Entry) → q < length h → at (exchange p q h) q ≡ at h p
unfolding exchange
at-exchange-second p q h l = at_set (set h p (at h q)) q (at h p) (lt-length-set h p (at h q) l)

-- Every other position holds what it held.
pub at-exchange-other : (p q : ℕ) (h : List Entry) (r : ℕ) → r ≢ p → r ≢ q → at (exchange p q h) r ≡ at h r
unfolding exchange
at-exchange-other p q h r n m = at_set_other (set h p (at h q)) q r (at h p) m ∙ at_set_other h p r (at h q) n

-- An exchange keeps the number of entries.
pub length-exchange : (p q : ℕ) (h : List Entry) → length (exchange p q h) ≡ length h
unfolding exchange
length-exchange p q h = simp length-set

-- What a list g holds that is h with the entries at p and q exchanged.
pub record Exchanged (p q : ℕ) (h g : List Entry) : Type 0 where
  pub same : length g ≡ length h
  pub first : at g p ≡ at h q
  pub second : at g q ≡ at h p
  pub other : (r : ℕ) → r ≢ p → r ≢ q → at g r ≡ at h r

-- An exchange of two filled positions gives such a list.
pub exchanged : (p q : ℕ) (h : List Entry) → p < length h → q < length h → Exchanged p q h (exchange p q h)
exchanged p q h l k = record {
  same = length-exchange p q h;
  first = at-exchange-first p q h l;
  second = at-exchange-second p q h k;
  other = at-exchange-other p q h;
}

-- A rise keeps the number of entries.
pub length-rise : (d k p : ℕ) (h : List Entry) → length (rise d k p h) ≡ length h
unfolding rise
length-rise d zero p h = refl
length-rise d (suc k) p h = go (early d p h) (length-rise d k (parent d p) (exchange p (parent d p) h))
  where
    go : (t : Bool) → length (rise d k (parent d p) (exchange p (parent d p) h)) ≡ length (exchange p (parent d p) h)
        → length (cond t (rise d k (parent d p) (exchange p (parent d p) h)) h) ≡ length h
    go true r = r ∙ length-exchange p (parent d p) h
    go false r = refl

-- A sink keeps the number of entries.
pub length-sink : (d k p : ℕ) (h : List Entry) → length (sink d k p h) ≡ length h
unfolding sink
length-sink d zero p h = refl
length-sink d (suc k) p h = go (earlier h (child d p h) p) (length-sink d k (child d p h) (exchange p (child d p h) h))
  where
    go : (t : Bool) → length (sink d k (child d p h) (exchange p (child d p h) h)) ≡ length (exchange p (child d p h) h)
        → length (cond t (sink d k (child d p h) (exchange p (child d p h) h)) h) ≡ length h
    go true r = r ∙ length-exchange p (child d p h) h
    go false r = refl

-- So does an entry that settles.
pub length-settle : (d p : ℕ) (h : List Entry) → length (settle d p h) ≡ length h
unfolding settle
length-settle d p h = go (early d p h)
  where
    go : (t : Bool) → length (cond t (rise d p p h) (sink d (length h) p h)) ≡ length h
    go true = length-rise d p p h
    go false = length-sink d (length h) p h

-- A put adds one entry.
pub length-heap_put : (d : ℕ) (e : Entry) (h : List Entry) → length (heap_put d e h) ≡ suc (length h)
unfolding heap_put
length-heap_put d e h = simp (length-rise, length-append) (omega arith)

-- A remove takes one entry away.
pub length-heap_remove : (d p : ℕ) (h : List Entry) → length (heap_remove d p h) ≡ length h - 1
unfolding heap_remove
length-heap_remove d p h = go (eqb p (length h - 1))
  where
    short : length (take (length h - 1) h) ≡ length h - 1
    short = length-take-le (length h - 1) h (omega arith)

    go : (t : Bool) → length (cond t (take (length h - 1) h) (settle d p (set (take (length h - 1) h) p (at h (length h - 1))))) ≡ length h - 1
    go true = short
    go false = simp (length-settle, length-set) short

-- A rekey keeps the number of entries.
pub length-heap_rekey : (d p : ℕ) (e : Entry) (h : List Entry) → length (heap_rekey d p e h) ≡ length h
unfolding heap_rekey
length-heap_rekey d p e h = simp (length-settle, length-set)

-- What one seat taken in lent words comes to: an entry steps into the hole and leaves another, or the last entry fills it.
-- Assumes nothing.
use Prim.Native.Nat.{ℕ, zero, suc, ◌*◌, ◌/◌, ◌<◌}
use native.Mathlib.Omega.{arith}
use mathlib.Core.List.{List, [], ◌∷◌}
use mathlib.Core.Logic.{◌≢◌}
use mathlib.Core.Path.{◌≡◌, sym, ap, ◌∙◌}
use lib.ListN.{length, drop, set}
use Rattle.cells.specs.Lists.{All, times}
use Rattle.cells.specs.Words.{word, put_word}
use Rattle.cells.proofs.Cases.{same?}
use Rattle.cells.proofs.Lists.{all_map}
use Rattle.cells.proofs.Places.{put-length, put_same, put-other-field, put-other-cell, put-tail}
use Rattle.meaning.specs.Entries.{Entry}
use Rattle.meaning.specs.Heap.{at, exchange}
use Rattle.meaning.proofs.ByPosition.{all-at, at-stands, one-position}
use Rattle.heap.specs.Seats.{seated}
use Rattle.heap.specs.Stands.{Stands, StandsBut, Ranks, Apart, Reseated, cells_of}
use Rattle.heap.proofs.Exchanges.{Exchanged, exchanged, length-exchange}
use Rattle.heap.proofs.Permutes.{times-exchange}

-- What is asked of the words while the entry at i looks for its place: all but that position stands, and each entry's cell holds its rank and is its own.
pub record Hole (i : ℕ) (w : List ℕ) (h : List Entry) : Type 0 where
  pub but : StandsBut i w h
  pub ranks : All (Ranks w) h
  pub apart : Apart w h

module _ (P : Entry → Type 0) where
  -- An entry written over another needs what all have.
  pub all_set : (h : List Entry) (p : ℕ) (e : Entry) → P e → All P h → All P (set h p e)
  all_set [] p e m a = tt
  all_set (x ∷ xs) zero e m a = (m, a.1)
  all_set (x ∷ xs) (suc p) e m a = (a.0, all_set xs p e m a.1)

  -- An exchange keeps what holds of all entries.
  pub all-exchange : (p q : ℕ) (h : List Entry) → p < length h → q < length h → All P h → All P (exchange p q h)
  unfolding exchange
  all-exchange p q h l k a = all_set (set h p (at h q)) q (at h p) (all-at P h a p l) (all_set h p (at h q) (all-at P h a q k) a)

module _ (w : List ℕ) (p c : ℕ) where
  -- A seat taken keeps the number of words.
  pub seated-size : length (seated w p c) ≡ length w
  unfolding seated
  seated-size = put-length (put_word w p 6 c) c 5 p ∙ put-length w p 6 c

  -- It leaves the words past the last cell.
  pub seated-tail : drop (length w / 8 * 8) (seated w p c) ≡ drop (length w / 8 * 8) w
  unfolding seated
  seated-tail =
      let second = put-tail (put_word w p 6 c) c 5 p in
      rw (put-length w p 6 c) at second ∙ put-tail w p 6 c

  -- It leaves every other field of every cell.
  pub seated-fields : (b f : ℕ) → f ≢ 5 → f ≢ 6 → word (seated w p c) b f ≡ word w b f
  unfolding seated
  seated-fields b f n m =
      put-other-field (put_word w p 6 c) c 5 p b f (λ e. n (sym e)) ∙ put-other-field w p 6 c b f (λ e. m (sym e))

  -- The position has the cell.
  pub seated-table : p < length w / 8 → word (seated w p c) p 6 ≡ c
  unfolding seated
  seated-table l = put-other-field (put_word w p 6 c) c 5 p p 6 (omega arith) ∙ put_same w p 6 c (omega arith) l

  -- Every other position has the cell that it had.
  pub seated-table-other : (q : ℕ) → q ≢ p → word (seated w p c) q 6 ≡ word w q 6
  unfolding seated
  seated-table-other q n =
      put-other-field (put_word w p 6 c) c 5 p q 6 (omega arith) ∙ put-other-cell w p 6 c q 6 (λ e. n (sym e))

  -- The cell knows the position.
  pub seated-place : c < length w / 8 → word (seated w p c) c 5 ≡ p
  unfolding seated
  seated-place l = put_same (put_word w p 6 c) c 5 p (omega arith) (rw (put-length w p 6 c) l)

  -- Every other cell knows the position that it knew.
  pub seated-place-other : (b : ℕ) → b ≢ c → word (seated w p c) b 5 ≡ word w b 5
  unfolding seated
  seated-place-other b n =
      put-other-cell (put_word w p 6 c) c 5 p b 5 (λ e. n (sym e)) ∙ put-other-field w p 6 c b 5 (omega arith)

-- A filled position taken by an entry of the heap writes nothing but the heap's own words.
pub seat-reseats : (h : List Entry) (w : List ℕ) (i q : ℕ) → i < length h → q < length h → Reseated h w (seated w i (at h q).cell)
seat-reseats h w i q l k =
    let c : ℕ = (at h q).cell in
    record {
      size = seated-size w i c;
      tail = seated-tail w i c;
      fields = seated-fields w i c;
      table = λ p m. seated-table-other w i c p (omega arith);
      places =
          λ b z.
          let other : b ≢ c =
          λ e. omega (arith, at-stands (λ (x : Entry). x.cell) h q k, ap (λ (x : ℕ). times x (cells_of h)) e) in
          seated-place-other w i c b other;
    }

-- What writes nothing but the words of a heap with the same cells may follow.
pub reseats-on : {w v u : List ℕ} (h g : List Entry) → length g ≡ length h → ((c : ℕ) → times c (cells_of g) ≡ times c (cells_of h))
    → Reseated h w v → Reseated g v u → Reseated h w u
reseats-on h g long same a b = record {
  size = b.size ∙ a.size;
  tail = rw a.size at b.tail ∙ a.tail;
  fields = λ c f n m. b.fields c f n m ∙ a.fields c f n m;
  table = λ p m. b.table p (omega arith) ∙ a.table p m;
  places = λ c z. b.places c (same c ∙ z) ∙ a.places c z;
}

-- What writes nothing but the heap's own words leaves an entry's rank.
pub ranks-reseated : {h : List Entry} {w v : List ℕ} → Reseated h w v → (es : List Entry) → All (Ranks w) es → All (Ranks v) es
ranks-reseated r es a =
    all_map
    (λ e m.
    record {
      order = r.fields e.cell 1 (omega arith) (omega arith) ∙ m.order;
      key = r.fields e.cell 2 (omega arith) (omega arith) ∙ m.key;
    })
    es a

-- Entries of different positions have different cells.
cells-differ : (w : List ℕ) (h : List Entry) → Apart w h → (p r : ℕ) → p < length h → r < length h → p ≢ r → (at h p).cell ≢ (at h r).cell
cells-differ w h a p r lp lr n e = n (one-position (λ (x : Entry). x.cell) h a.apart p r lp lr e)

-- An exchange keeps the cells.
pub cells-exchange : (i q : ℕ) (h : List Entry) → i < length h → q < length h
    → (c : ℕ) → times c (cells_of (exchange i q h)) ≡ times c (cells_of h)
cells-exchange i q h l k c = times-exchange (λ (x : Entry). x.cell) c i q h l k

-- A heap's cells are apart in words that have been reseated, after an exchange too.
apart-exchange : (i q : ℕ) (h : List Entry) (w v : List ℕ) → i < length h → q < length h
    → Reseated h w v → Apart w h → Apart v (exchange i q h)
apart-exchange i q h w v l k r a = record {
  room = rw (length-exchange i q h, r.size) a.room;
  inside = rw r.size (all-exchange (λ (e : Entry). e.cell < length w / 8) i q h l k a.inside);
  apart = λ c. rw (cells-exchange i q h l k c) (a.apart c);
}

-- The entry that is carried takes the hole for its place.
pub hole-fills : (i : ℕ) (h : List Entry) (w : List ℕ) → i < length h → Hole i w h → Stands (seated w i (at h i).cell) h
hole-fills i h w l o = record { table = table'; place = place' }
  where
    c : ℕ
    c = (at h i).cell

    table' : (p : ℕ) → p < length h → word (seated w i c) p 6 ≡ (at h p).cell
    table' p m =
        same? p i
        (λ e. rw e (seated-table w i c (omega (arith, o.apart.room))))
        (λ n. seated-table-other w i c p n ∙ o.but.table p m n)

    place' : (p : ℕ) → p < length h → word (seated w i c) (at h p).cell 5 ≡ p
    place' p m =
        same? p i
        (λ e. rw e (seated-place w i c (all-at (λ (x : Entry). x.cell < length w / 8) h o.apart.inside i l)))
        (λ n. seated-place-other w i c (at h p).cell (cells-differ w h o.apart p i m l n) ∙ o.but.place p m n)

module _ (i q : ℕ) (h : List Entry) (w : List ℕ) (l : i < length h) (k : q < length h) (o : Hole i w h) where
  -- The entry at q steps into the hole, and all but q stands.
  but-steps : (g : List Entry) → Exchanged i q h g → StandsBut q (seated w i (at h q).cell) g
  but-steps g x = record { table = table'; place = place' }
    where
      c : ℕ
      c = (at h q).cell

      table' : (p : ℕ) → p < length g → p ≢ q → word (seated w i c) p 6 ≡ (at g p).cell
      table' p m d =
          same? p i
          (λ e. rw (e, x.first) (seated-table w i c (omega (arith, o.apart.room))))
          (λ f. rw (x.other p f d) (seated-table-other w i c p f ∙ o.but.table p (omega arith) f))

      place' : (p : ℕ) → p < length g → p ≢ q → word (seated w i c) (at g p).cell 5 ≡ p
      place' p m d =
          same? p i
          (λ e. rw (e, x.first) (seated-place w i c (all-at (λ (y : Entry). y.cell < length w / 8) h o.apart.inside q k)))
          (λ f.
          let other = cells-differ w h o.apart p q (omega arith) k d in
          rw (x.other p f d) (seated-place-other w i c (at h p).cell other ∙ o.but.place p (omega arith) f))

  -- The entry at q steps into the hole, and q is the hole.
  pub hole-steps : Hole q (seated w i (at h q).cell) (exchange i q h)
  hole-steps =
      let v : List ℕ = seated w i (at h q).cell in
      let r : Reseated h w v = seat-reseats h w i q l k in
      record {
        but = but-steps (exchange i q h) (exchanged i q h l k);
        ranks = all-exchange (Ranks v) i q h l k (ranks-reseated r h o.ranks);
        apart = apart-exchange i q h w v l k r o.apart;
      }

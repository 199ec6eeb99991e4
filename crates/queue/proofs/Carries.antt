-- What the cells of entries hold once one more entry stands in a cell, and once the heap has been reseated.
-- Assumes nothing.
use Prim.Native.Nat.{ℕ, ◌/◌, ◌<◌}
use native.Mathlib.Omega.{arith}
use mathlib.Core.List.{List, [], ◌∷◌, ◌++◌}
use mathlib.Core.Logic.{◌≢◌}
use mathlib.Core.Path.{◌≡◌, refl, sym, ◌∙◌}
use lib.ListN.{length}
use Rattle.cells.specs.Lists.{All, times}
use Rattle.cells.specs.Words.{word}
use Rattle.cells.specs.Store.{entered}
use Rattle.cells.proofs.Cases.{same?}
use Rattle.cells.proofs.Lists.{all_map, times-append}
use Rattle.cells.proofs.Rows.{entered_word, entered-words}
use Rattle.meaning.specs.Entries.{Entry}
use Rattle.meaning.proofs.Handles.{map-append}
use Rattle.heap.specs.Stands.{cells_of, Reseated}
use Rattle.queue.specs.Shows.{Carried}

-- What writes nothing but positions leaves each entry in its cell.
pub carried-reseated : {h : List Entry} {w v : List ℕ} → Reseated h w v → (es : List Entry) → All (Carried w) es → All (Carried v) es
carried-reseated r es a =
    all_map
    (λ e m.
    record {
      ticket = r.fields e.cell 0 (omega arith) (omega arith) ∙ m.ticket;
      order = r.fields e.cell 1 (omega arith) (omega arith) ∙ m.order;
      key = r.fields e.cell 2 (omega arith) (omega arith) ∙ m.key;
      load = r.fields e.cell 3 (omega arith) (omega arith) ∙ m.load;
      unlinked = r.fields e.cell 4 (omega arith) (omega arith) ∙ m.unlinked;
      unused = r.fields e.cell 7 (omega arith) (omega arith) ∙ m.unused;
    })
    es a

-- A cell stands as often among the cells with one more at the end as with it in front.
pub cells-last : (c : ℕ) (xs : List Entry) (e : Entry) → times c (cells_of (xs ++ (e ∷ []))) ≡ times c (e.cell ∷ cells_of xs)
unfolding times
cells-last c xs e =
    rw (map-append (λ (x : Entry). x.cell) xs (e ∷ [])) (omega (arith, times-append c (cells_of xs) (e.cell ∷ [])))

module _ (w : List ℕ) (c k key load : ℕ) (inside : c < length w / 8) where
  -- A field that is none of the entry's own keeps its words, in every cell.
  entered-keeps : (x f : ℕ) → entered_word w c k key load f ≡ word w c f → word (entered w c k key load) x f ≡ word w x f
  entered-keeps x f e =
      let r = entered-words w c k key load inside in
      same? c x
      (λ q. rw (← q) (r.here f ∙ e))
      (λ d. r.others x f d)

  -- So do the positions that cells know.
  pub entered-places : (x : ℕ) → word (entered w c k key load) x 5 ≡ word w x 5
  unfolding entered_word
  entered-places x = entered-keeps x 5 refl

  -- So does the position table.
  pub entered-table : (x : ℕ) → word (entered w c k key load) x 6 ≡ word w x 6
  unfolding entered_word
  entered-table x = entered-keeps x 6 refl

  -- A new entry's cell holds it.
  pub entered-carried : (e : Entry) → e.cell ≡ c → e.ticket ≡ k → e.order ≡ k → e.key ≡ key → e.load ≡ load → word w c 7 ≡ 0
      → Carried (entered w c k key load) e
  unfolding entered_word
  entered-carried e p t o y l z =
      let r = entered-words w c k key load inside in
      rw p
      (record {
        ticket = r.here 0 ∙ sym t;
        order = r.here 1 ∙ sym o;
        key = r.here 2 ∙ sym y;
        load = r.here 3 ∙ sym l;
        unlinked = r.here 4;
        unused = r.here 7 ∙ z;
      })

  -- An entry of another cell stands as before.
  pub entered-others : (e : Entry) → e.cell ≢ c → Carried w e → Carried (entered w c k key load) e
  entered-others e d v =
      let r = entered-words w c k key load inside in
      let past : (f : ℕ) → word (entered w c k key load) e.cell f ≡ word w e.cell f =
      λ f. r.others e.cell f (λ q. d (sym q)) in
      record {
        ticket = past 0 ∙ v.ticket;
        order = past 1 ∙ v.order;
        key = past 2 ∙ v.key;
        load = past 3 ∙ v.load;
        unlinked = past 4 ∙ v.unlinked;
        unused = past 7 ∙ v.unused;
      }

-- The lists, the entries' words and the free stack together: how they take a cell that leaves its list, is rewritten, goes on the free stack or comes from it, or joins a list.
-- Assumes nothing.
use Prim.Native.Nat.{ℕ, ◌+◌, ◌/◌, ◌≤◌, ◌<◌}
use native.Mathlib.Omega.{arith}
use mathlib.Core.List.{List, [], ◌∷◌, ◌++◌, map}
use mathlib.Core.Logic.{◌≢◌}
use mathlib.Core.Option.{some}
use mathlib.Core.Path.{◌≡◌, refl, sym, ap, ◌∙◌}
use lib.ListN.{length}
use Rattle.cells.specs.Lists.{All, times}
use Rattle.cells.specs.Stack.{Chain, link}
use Rattle.cells.specs.Words.{word}
use Rattle.cells.proofs.Cases.{same?}
use Rattle.cells.proofs.Chains.{chain-links}
use Rattle.cells.proofs.Lists.{all_map, all_both, times-here, times-past, times-append, all_append}
use Rattle.cells.proofs.Rows.{Rewritten}
use Rattle.cells.proofs.Sums.{all-standing}
use Rattle.meaning.specs.Entries.{Entry, named, without}
use Rattle.meaning.proofs.Arranged.{absent-all}
use Rattle.meaning.proofs.Handles.{map-append, all_without, times-without}
use Rattle.meaning.proofs.Stack.{cell_of}
use Rattle.slots.specs.Rings.{Lists}
use Rattle.slots.specs.Stand.{join_at, leave_at, Stand, Relinked}
use Rattle.slots.proofs.AllRings.{join_stands, leave-stands}
use Rattle.slots.proofs.Changing.{stand-same, stand-frame}
use Rattle.dial.specs.Turns.{list_of, with_words}
use Rattle.dial.specs.Shows.{cells_at, Carried}
use Rattle.dial.proofs.Numbers.{number-most}
use Rattle.dial.proofs.CellLists.{list_at, cells-most, cells-join, cells-leave, named-cell, named-alone}

-- What lists, clock and top of the free stack show of a model: entries and free cells.
pub record Holds (l : Lists) (t top : ℕ) (es : List Entry) (free : List ℕ) : Type 0 where
  -- No two of them have one cell.
  pub once : (c : ℕ) → times c (map cell_of es) + times c free ≤ 1
  pub chain : Chain (link l.words) top free
  pub blank : (c f : ℕ) → 1 ≤ times c free → f ≢ 4 → word l.words c f ≡ 0
  pub entries : All (Carried l.words) es
  pub lists : Stand l (cells_at t es)

-- A cell that is no entry's and not free.
abbrev pub Loose : ℕ → List Entry → List ℕ → Type 0
Loose c es free = times c (map cell_of es) + times c free ≡ 0

-- An entry's words are all but the two links.
pub carried-frame :
    (w w' : List ℕ) (e : Entry)
    → ((f : ℕ) → f ≢ 4 → f ≢ 5 → word w' e.cell f ≡ word w e.cell f)
    → Carried w e
    → Carried w' e
carried-frame w w' e same h =
    record {
      ticket = same 0 (omega arith) (omega arith) ∙ h.ticket;
      order = same 1 (omega arith) (omega arith) ∙ h.order;
      deadline = same 2 (omega arith) (omega arith) ∙ h.deadline;
      load = same 3 (omega arith) (omega arith) ∙ h.load;
      unowned = same 6 (omega arith) (omega arith) ∙ h.unowned;
      unused = same 7 (omega arith) (omega arith) ∙ h.unused;
    }

-- Other words in which the free cells' links are the same hold the same free stack.
chain-kept : (w w' : List ℕ) (top : ℕ) (free : List ℕ)
    → ((c : ℕ) → 1 ≤ times c free → word w' c 4 ≡ word w c 4)
    → Chain (link w) top free
    → Chain (link w') top free
chain-kept w w' top free same h =
    chain-links (link w) (link w') top free (all-standing (λ (c : ℕ). link w c ≡ link w' c) free (λ c k. sym (same c k))) h

module _ (l : Lists) (t top : ℕ) (es : List Entry) (free : List ℕ) (h : Holds l t top es free) where
  -- A free cell stands in no list,
  free-unlisted : (c i : ℕ) → 1 ≤ times c free → times c (cells_at t es i) ≡ 0
  free-unlisted c i k = omega (arith, h.once c, cells-most t c i es)

  -- nor does one that is loose.
  loose-unlisted : (c i : ℕ) → Loose c es free → times c (cells_at t es i) ≡ 0
  loose-unlisted c i n = omega (arith, cells-most t c i es)

  -- The words of a loose cell may be anything.
  pub holds-rewritten :
      (c : ℕ) (g : ℕ → ℕ) (w : List ℕ) → Loose c es free → Rewritten l.words c g w → Holds (with_words l w) t top es free
  unfolding with_words
  holds-rewritten c g w n r =
      record {
        once = h.once;
        chain = chain-kept l.words w top free (λ x k. r.others x 4 (free_other x k)) h.chain;
        blank = λ x f k d. r.others x f (free_other x k) ∙ h.blank x f k d;
        entries =
            all_map (λ e p. carried-frame l.words w e (λ f d d'. r.others e.cell f (λ s. p.1 (sym s))) p.0) es
            (all_both (Carried l.words) (λ (e : Entry). e.cell ≢ c) es h.entries (absent-all cell_of c es (omega arith)));
        lists =
            stand-frame l (cells_at t es) w r.long
            (λ i x u k.
            let other : c ≢ x = λ s. omega (arith, k, loose-unlisted c i n, ap (λ (y : ℕ). times y (cells_at t es i)) s) in
            (r.others x 4 other, r.others x 5 other))
            h.lists;
      }
    where
      free_other : (x : ℕ) → 1 ≤ times x free → c ≢ x
      free_other x k s = omega (arith, k, n, ap (λ (y : ℕ). times y free) s)

  -- A loose cell that is blank but for its link to the top becomes the top.
  pub holds-freed : (c : ℕ) → Loose c es free → word l.words c 4 ≡ top → ((f : ℕ) → f ≢ 4 → word l.words c f ≡ 0)
      → Holds l t c es (c ∷ free)
  holds-freed c n link-is zeros =
      record {
        once = λ x.
            same? c x
            (λ s. omega (arith, times-here x c free s, rw s at n))
            (λ d. omega (arith, times-past x c free d, h.once x));
        chain = (refl, rw link-is h.chain);
        blank = λ x f k d.
            same? c x (λ s. rw (← s) (zeros f d)) (λ o. h.blank x f (omega (arith, times-past x c free o)) d);
        entries = h.entries;
        lists = h.lists;
      }

  -- A loose cell that holds an entry joins the list of the entry's place.
  module _ (e : Entry) (n : Loose e.cell es free) (k : e.cell < length l.words / 8) (p : Carried l.words e) where
    -- The lists after it joined.
    joined : Lists
    joined = join_at l (list_of t e.key) e.cell

    -- As the slots' law has it.
    join-law :
        Stand joined (cells_at t (es ++ (e ∷ []))) × Relinked (e.cell ∷ cells_at t es (list_of t e.key)) l.words joined.words
    unfolding joined
    join-law =
        let r =
        join_stands l (cells_at t es) h.lists (list_of t e.key) e.cell (number-most t e.key) k
        (λ j u. loose-unlisted e.cell j n) in
        (stand-same joined _ (cells_at t (es ++ (e ∷ []))) (λ i u. cells-join t e es i) r.0, r.1)

    -- There are as many words as before.
    joins-size : length (join_at l (list_of t e.key) e.cell).words ≡ length l.words
    unfolding joined
    joins-size = join-law.1.size

    -- A free cell keeps its words.
    join_free : (c f : ℕ) → 1 ≤ times c free → word joined.words c f ≡ word l.words c f
    join_free c f u =
        join-law.1.others c f
        (times-past c e.cell (cells_at t es (list_of t e.key)) (λ s. omega (arith, u, n, ap (λ (y : ℕ). times y free) s))
        ∙ free-unlisted c (list_of t e.key) u)

    -- Entries and free cells are held with it.
    holds-joined : Holds (join_at l (list_of t e.key) e.cell) t top (es ++ (e ∷ [])) free
    unfolding joined times
    holds-joined =
        record {
          once = λ x.
              let parts : times x (map cell_of (es ++ (e ∷ []))) ≡ times x (map cell_of es) + times x (e.cell ∷ []) =
              ap (times x) (map-append cell_of es (e ∷ [])) ∙ times-append x (map cell_of es) (e.cell ∷ []) in
              same? e.cell x
              (λ s. omega (arith, parts, times-here x e.cell [] s, rw s at n))
              (λ d. omega (arith, parts, times-past x e.cell [] d, h.once x));
          chain = chain-kept l.words joined.words top free (λ x u. join_free x 4 u) h.chain;
          blank = λ x f u d. join_free x f u ∙ h.blank x f u d;
          entries =
              all_map (λ x. carried-frame l.words joined.words x (λ f d d'. join-law.1.fields x.cell f d d')) (es ++ (e ∷ []))
              (all_append (Carried l.words) es (e ∷ []) h.entries (p, tt));
          lists = join-law.0;
        }

  -- An entry's cell leaves the list of the entry's place.
  module _ (c k : ℕ) (e : Entry) (here : named c k es ≡ some e) where
    -- The lists after it left.
    left : Lists
    left = leave_at l (list_of t e.key) c

    -- No other entry has the cell.
    alone : times c (map cell_of es) ≤ 1
    alone = omega (arith, h.once c)

    -- As the slots' law has it.
    leave-law : Stand left (cells_at t (without c k es)) × Relinked (cells_at t es (list_of t e.key)) l.words left.words
    unfolding left
    leave-law =
        let r =
        leave-stands l (cells_at t es) h.lists (list_of t e.key) c (number-most t e.key) (list_at t c k e es here) in
        (stand-same left _ (cells_at t (without c k es)) (λ i u. cells-leave t c k e es here alone i) r.0, r.1)

    -- Only links of that list are written.
    pub leaves-only : Relinked (cells_at t es (list_of t e.key)) l.words (leave_at l (list_of t e.key) c).words
    unfolding left
    leaves-only = leave-law.1

    -- The cell is one of the words.
    pub leaves-inside : c < length l.words / 8
    leaves-inside = h.lists.inside (list_of t e.key) c (number-most t e.key) (list_at t c k e es here)

    -- It is no entry's any more, and not free.
    pub leaves-loose : Loose c (without c k es) free
    leaves-loose = omega (arith, h.once c, named-cell c k e es here, named-alone c k e es here alone)

    -- A free cell keeps its words.
    leave-free : (x f : ℕ) → 1 ≤ times x free → word left.words x f ≡ word l.words x f
    leave-free x f u = leave-law.1.others x f (free-unlisted x (list_of t e.key) u)

    -- The other entries and the free cells are held.
    pub holds-left : Holds (leave_at l (list_of t e.key) c) t top (without c k es) free
    unfolding left times
    holds-left =
        record {
          once = λ x. omega (arith, h.once x, times-without c k x cell_of e es here);
          chain = chain-kept l.words left.words top free (λ x u. leave-free x 4 u) h.chain;
          blank = λ x f u d. leave-free x f u ∙ h.blank x f u d;
          entries =
              all_map (λ x. carried-frame l.words left.words x (λ f d d'. leave-law.1.fields x.cell f d d')) (without c k es)
              (all_without c k (Carried l.words) es h.entries);
          lists = leave-law.0;
        }

-- The top of the free stack is taken.
module _ (l : Lists) (t top c : ℕ) (es : List Entry) (free : List ℕ) (h : Holds l t top es (c ∷ free)) where
  -- It is no entry's, and not free any more.
  pub taken-loose : Loose c es free
  taken-loose = omega (arith, h.once c, times-here c c free refl)

  -- The others are held.
  pub holds-taken : Holds l t (word l.words c 4) es free
  unfolding times
  holds-taken =
      record {
        once = λ x. omega (arith, h.once x);
        chain = h.chain.1;
        blank = λ x f k d. h.blank x f (omega arith) d;
        entries = h.entries;
        lists = h.lists;
      }

-- A loose cell is given the words of an entry, and joins the list of the entry's place.
module _ (l : Lists) (t top : ℕ) (es : List Entry) (free : List ℕ) (h : Holds l t top es free) (e : Entry) (g : ℕ → ℕ) (w : List ℕ)
    (n : Loose e.cell es free) (k : e.cell < length l.words / 8) (r : Rewritten l.words e.cell g w) (p : Carried w e) where
  -- It lies in those words.
  filed-inside : e.cell < length w / 8
  filed-inside = rw r.long k

  -- Entries and free cells are held with it,
  pub holds-filed : Holds (join_at (with_words l w) (list_of t e.key) e.cell) t top (es ++ (e ∷ [])) free
  unfolding with_words
  holds-filed =
      holds-joined (with_words l w) t top es free (holds-rewritten l t top es free h e.cell g w n r) e n filed-inside p

  -- in as many words.
  pub filed-size : length (join_at (with_words l w) (list_of t e.key) e.cell).words ≡ length l.words
  unfolding with_words
  filed-size =
      joins-size (with_words l w) t top es free (holds-rewritten l t top es free h e.cell g w n r) e n filed-inside p ∙ r.long

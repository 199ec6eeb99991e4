-- A walk along the cells of a list that stand in no list any more: each joins the list of its deadline at the clock.
-- Assumes nothing.
use Prim.Native.Nat.{ℕ, zero, suc, ◌+◌, ◌/◌, ◌≤◌, ◌<◌}
use native.Mathlib.Omega.{arith}
use mathlib.Core.Bool.{cond}
use mathlib.Core.List.{List, [], ◌∷◌, ◌++◌, map, append-nil, append_assoc}
use mathlib.Core.Logic.{◌≢◌}
use mathlib.Core.Path.{◌≡◌, refl, sym, ◌∙◌}
use lib.Dec.{eqb}
use lib.ListN.{length}
use Rattle.cells.proofs.Lists.{all_map, times-here, times-past, times-append}
use Rattle.cells.proofs.Sums.{all-standing}
use Rattle.cells.proofs.Chains.{chain-links}
use Rattle.cells.specs.Lists.{All, times, sum_of}
use Rattle.cells.specs.Stack.{no_cell, Chain, link}
use Rattle.cells.specs.Words.{word}
use Rattle.slots.specs.Stand.{due_list, join_at, put_list, Stand, Relinked}
use Rattle.slots.proofs.Relinking.{relinked-none, relinked-both, relinked-more}
use Rattle.slots.proofs.Changing.{put?, stand-same}
use Rattle.slots.proofs.AllRings.{join_stands}
use Rattle.meaning.specs.Entries.{Entry}
use Rattle.meaning.proofs.Stack.{cell_of}
use Rattle.dial.specs.Turns.{list_of, State, refile, walk}
use Rattle.dial.specs.Shows.{passing, standing, cells_at}
use Rattle.dial.proofs.Numbers.{number-most, due-test}
use Rattle.dial.proofs.CellLists.{standing_here, standing-past}
use Rattle.dial.proofs.FileSteps.{walk-stop, walk-on}

-- What is to be walked: lists that stand, and from cell c on the cells of the entries ws, linked by their words 4, which stand in no list. All are cells of xs.
pub record ToWalk (z : State) (ls : ℕ → List ℕ) (xs : List ℕ) (c : ℕ) (ws : List Entry) : Type 0 where
  pub stands : Stand z.lists ls
  pub linked : Chain (link z.lists.words) c (map cell_of ws)
  pub deadlines : All (λ (e : Entry). word z.lists.words e.cell 2 ≡ e.key) ws
  pub once : (x : ℕ) → times x (map cell_of ws) ≤ 1
  pub inside : (x : ℕ) → 1 ≤ times x (map cell_of ws) → x < length z.lists.words / 8
  pub apart : (j x : ℕ) → j ≤ due_list → 1 ≤ times x (map cell_of ws) → times x (ls j) ≡ 0
  pub walked : (x : ℕ) → times x xs ≡ 0 → times x (map cell_of ws) ≡ 0
  pub listed : (j x : ℕ) → j ≤ due_list → times x xs ≡ 0 → times x (ls j) ≡ 0

-- What a walk has done: each entry stands behind those that were in the list of its place, in their order, and only links were written.
pub record Walked (z z' : State) (ls : ℕ → List ℕ) (xs : List ℕ) (ws : List Entry) : Type 0 where
  pub stands : Stand z'.lists (λ (j : ℕ). ls j ++ cells_at z.clock ws j)
  pub relinked : Relinked xs z.lists.words z'.lists.words
  pub clock : z'.clock ≡ z.clock
  pub store : z'.store ≡ z.store
  pub out : z'.out ≡ z.out
  pub fired : z'.fired ≡ z.fired
  -- "Each of the latter is one move; going to the due list .. is none."
  pub moves : z'.moves ≡ z.moves + sum_of (λ (e : Entry). cond (eqb e.key z.clock) 0 1) ws

-- The lists after an entry joined that of its place.
unfoldable joined_to : ℕ → Entry → (ℕ → List ℕ) → ℕ → List ℕ
joined_to t e ls = put_list ls (list_of t e.key) (ls (list_of t e.key) ++ (e.cell ∷ []))

-- One after the other joins what all join.
joined-more :
    (t : ℕ) (e : Entry) (ws : List Entry) (ls : ℕ → List ℕ) (j : ℕ)
    → joined_to t e ls j ++ cells_at t ws j ≡ ls j ++ cells_at t (e ∷ ws) j
unfolding joined_to
joined-more t e ws ls j =
    put? ls i (ls i ++ (e.cell ∷ [])) j (λ (ys : List ℕ). ys ++ cells_at t ws j ≡ ls j ++ cells_at t (e ∷ ws) j)
    (λ s.
    rw (standing_here t j e ws (sym s), ← s) (append_assoc (ls j) (e.cell ∷ []) (cells_at t ws j)))
    (λ d. rw (standing-past t j e ws (λ s. d (sym s))))
  where
    i : ℕ
    i = list_of t e.key

module _ (z : State) (ls : ℕ → List ℕ) (xs : List ℕ) (e : Entry) (ws : List Entry) (ahead : ToWalk z ls xs e.cell (e ∷ ws)) where
  -- The entry's cell is walked,
  here : 1 ≤ times e.cell (map cell_of (e ∷ ws))
  here = omega (arith, times-here e.cell e.cell (map cell_of ws) refl)

  -- and so is each behind it.
  rest : (x : ℕ) → times x (map cell_of ws) ≤ times x (map cell_of (e ∷ ws))
  unfolding times
  rest x = omega arith

  behind : (x : ℕ) → 1 ≤ times x (map cell_of ws) → 1 ≤ times x (map cell_of (e ∷ ws))
  behind x h = omega (arith, rest x)

  -- The cell joins the list of the entry's place.
  refile-lists : (refile e.cell z).lists ≡ join_at z.lists (list_of z.clock e.key) e.cell
  unfolding refile
  refile-lists = rw ahead.deadlines.0

  refile-moves : (refile e.cell z).moves ≡ z.moves + cond (eqb e.key z.clock) 0 1
  unfolding refile
  refile-moves = rw (ahead.deadlines.0, due-test z.clock e.key)

  -- The lists stand with it there, and only links of it and of that list are written.
  joins : Stand (refile e.cell z).lists (joined_to z.clock e ls)
      × Relinked (e.cell ∷ ls (list_of z.clock e.key)) z.lists.words (refile e.cell z).lists.words
  unfolding joined_to
  joins =
      rw refile-lists
      (join_stands z.lists ls ahead.stands (list_of z.clock e.key) e.cell (number-most z.clock e.key)
      (ahead.inside e.cell here)
      (λ j u. ahead.apart j e.cell u here))

  -- Of a cell in no use no link is written,
  used-only : Relinked xs z.lists.words (refile e.cell z).lists.words
  used-only =
      relinked-more (e.cell ∷ ls (list_of z.clock e.key)) xs z.lists.words (refile e.cell z).lists.words
      (λ x h.
      times-past x e.cell (ls (list_of z.clock e.key))
      (λ s. omega (arith, ahead.walked x h, times-here x e.cell (map cell_of ws) s))
      ∙ ahead.listed (list_of z.clock e.key) x (number-most z.clock e.key) h)
      joins.1

  -- and no cell that is still to be walked is the entry's, or stands in the list that it joins.
  not-joined : (x : ℕ) → 1 ≤ times x (map cell_of ws) → times x (e.cell ∷ ls (list_of z.clock e.key)) ≡ 0
  not-joined x h =
      times-past x e.cell (ls (list_of z.clock e.key))
      (λ s. omega (arith, ahead.once x, times-here x e.cell (map cell_of ws) s))
      ∙ ahead.apart (list_of z.clock e.key) x (number-most z.clock e.key) (behind x h)

  -- What stands in none of the lists, and is not the entry's cell, stands in none afterwards.
  joined-none :
      (j x : ℕ)
      → e.cell ≢ x
      → ((k : ℕ) → k ≤ due_list → times x (ls k) ≡ 0)
      → j ≤ due_list
      → times x (joined_to z.clock e ls j) ≡ 0
  unfolding joined_to times
  joined-none j x d none u =
      put? ls i (ls i ++ (e.cell ∷ [])) j (λ (ys : List ℕ). times x ys ≡ 0)
      (λ s.
      omega (
        arith,
        times-append x (ls i) (e.cell ∷ []),
        times-past x e.cell [] d,
        none i (number-most z.clock e.key),
      ))
      (λ n. none j u)
    where
      i : ℕ
      i = list_of z.clock e.key

  -- So the entries behind it are to be walked next.
  next-ahead : ToWalk (refile e.cell z) (joined_to z.clock e ls) xs (word z.lists.words e.cell 4) ws
  next-ahead =
      record {
        stands = joins.0;
        linked =
            chain-links (link z.lists.words) (link (refile e.cell z).lists.words) (word z.lists.words e.cell 4)
            (map cell_of ws)
            (all-standing (λ (x : ℕ). link z.lists.words x ≡ link (refile e.cell z).lists.words x) (map cell_of ws)
            (λ x h. sym (joins.1.others x 4 (not-joined x h))))
            ahead.linked.1;
        deadlines = all_map (λ x d. joins.1.fields x.cell 2 (λ s. omega arith) (λ s. omega arith) ∙ d) ws ahead.deadlines.1;
        once = λ x. omega (arith, ahead.once x, rest x);
        inside = λ x h. rw joins.1.size (ahead.inside x (behind x h));
        apart = λ j x u h.
            joined-none j x (λ s. omega (arith, ahead.once x, times-here x e.cell (map cell_of ws) s))
            (λ k v. ahead.apart k x v (behind x h)) u;
        walked = λ x h. omega (arith, ahead.walked x h, rest x);
        listed = λ j x u h.
            joined-none j x (λ s. omega (arith, ahead.walked x h, times-here x e.cell (map cell_of ws) s))
            (λ k v. ahead.listed k x v h) u;
      }

-- Nothing to walk.
walked_none : (z : State) (ls : ℕ → List ℕ) (xs : List ℕ) → Stand z.lists ls → Walked z z ls xs []
unfolding standing passing sum_of
walked_none z ls xs s =
    record {
      stands = stand-same z.lists ls (λ (j : ℕ). ls j ++ []) (λ j h. sym (append-nil (ls j))) s;
      relinked = relinked-none xs z.lists.words;
      clock = refl;
      store = refl;
      out = refl;
      fired = refl;
      moves = omega arith;
    }

-- The first entry, and then the others.
walked_more :
    (z z' : State) (ls : ℕ → List ℕ) (xs : List ℕ) (e : Entry) (ws : List Entry)
    → ToWalk z ls xs e.cell (e ∷ ws)
    → Walked (refile e.cell z) z' (joined_to z.clock e ls) xs ws
    → Walked z z' ls xs (e ∷ ws)
unfolding refile sum_of
walked_more z z' ls xs e ws ahead more =
    record {
      stands =
          stand-same z'.lists (λ (j : ℕ). joined_to z.clock e ls j ++ cells_at z.clock ws j)
          (λ (j : ℕ). ls j ++ cells_at z.clock (e ∷ ws) j)
          (λ j h. joined-more z.clock e ws ls j)
          more.stands;
      relinked =
          relinked-both xs z.lists.words (refile e.cell z).lists.words z'.lists.words
          (used-only z ls xs e ws ahead)
          more.relinked;
      clock = more.clock;
      store = more.store;
      out = more.out;
      fired = more.fired;
      moves = omega (arith, more.moves, refile-moves z ls xs e ws ahead);
    }

-- The walk of the entries that are to be walked, with fuel for as many.
pub walk-walked :
    (ws : List Entry) (k c : ℕ) (z : State) (ls : ℕ → List ℕ) (xs : List ℕ)
    → ToWalk z ls xs c ws
    → length ws ≤ k
    → Walked z (walk k c z) ls xs ws
walk-walked [] k c z ls xs ahead h = rw (ahead.linked, walk-stop k no_cell z refl) (walked_none z ls xs ahead.stands)
walk-walked (e ∷ ws) zero c z ls xs ahead h = absurd (omega arith)
walk-walked (e ∷ ws) (suc k) c z ls xs ahead h =
    let first : c ≡ e.cell = ahead.linked.0 in
    let this : ToWalk z ls xs e.cell (e ∷ ws) = rw first at ahead in
    let cell : e.cell ≢ no_cell = λ s. omega (arith, this.inside e.cell (here z ls xs e ws this), this.stands.room) in
    rw (first, walk-on (suc k) k e.cell z (omega arith) cell refl refl)
    (walked_more z (walk k (word z.lists.words e.cell 4) (refile e.cell z)) ls xs e ws this
    (walk-walked ws k (word z.lists.words e.cell 4) (refile e.cell z) (joined_to z.clock e ls) xs
    (next-ahead z ls xs e ws this)
    (omega arith)))

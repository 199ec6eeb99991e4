-- The tests by which the shared audit decides its rules; that they do is proved in `proofs/Audits.antt`.
-- Assumes nothing.
use Rattle.std.specs.Prelude.{ℕ, zero, suc, ◌/◌, Bool, true, cond, not, ◌&&◌, ◌||◌, List, [], ◌∷◌, ◌++◌, leb, ltb, eqb, length}
use Rattle.cells.specs.Words.{word}
use Rattle.cell_sort.specs.Sorted.{sort_by, cell_leq, neighbours_differ}
use Rattle.cells.specs.Rules.{in_use, in_mask}
use Rattle.cells.specs.Stack.{is_free, stack_test}
use Rattle.cells.specs.declared.store.Store.{Store}

-- A test passes at each number below n.
unfoldable pub all_below : ℕ → (ℕ → Bool) → Bool
all_below zero p = true
all_below (suc n) p = all_below n p && p n

-- "unused words are zero": of one field, and of the fields of a mask
unfoldable pub field_test : List ℕ → ℕ → ℕ → ℕ → Bool
field_test w m c f = not (in_mask m f) || eqb (word w c f) 0

unfoldable pub blank_test : List ℕ → ℕ → ℕ → Bool
blank_test w m c = all_below 8 (field_test w m c)

-- "each entry has 1 <= ticket <= order number < counter": a ticket that is not 0 is at least 1.
unfoldable pub numbered_test : List ℕ → ℕ → ℕ → Bool
numbered_test w counter c = leb (word w c 0) (word w c 1) && ltb (word w c 1) counter

-- The rules of an entry: of cell c, if it is in use.
unfoldable pub used_test : List ℕ → ℕ → ℕ → ℕ → Bool
used_test w counter used c = is_free w c || (numbered_test w counter c && blank_test w used c)

-- The cells in use among the first n, by rising number.
unfoldable pub used_below : List ℕ → ℕ → List ℕ
used_below w zero = []
used_below w (suc n) = used_below w n ++ cond (in_use w n) (n ∷ []) []

-- "N is floor(L/8), 1 to 4,096; the counter is at least 1", of L words
unfoldable pub size_test : ℕ → Store → Bool
size_test l s = eqb s.cells (l / 8) && (leb 1 s.cells && (leb s.cells 4096 && leb 1 s.counter))

-- Tickets and order numbers as they are tested: sorted by the one, no neighbours are equal; sorted by the other, none are.
unfoldable pub differ_test : List ℕ → List ℕ → Bool
differ_test w a =
    neighbours_differ w 0 (sort_by (cell_leq w 0 0) a)
    && neighbours_differ w 1 (sort_by (cell_leq w 1 1) (sort_by (cell_leq w 0 0) a))

-- The rules that every engine shares, all of them.
unfoldable pub shared_test : List ℕ → Store → ℕ → ℕ → Bool
shared_test w s used free =
    size_test (length w) s
    && (all_below s.cells (used_test w s.counter used)
    && (stack_test w s.cells (blank_test w free) s.free && differ_test w (used_below w s.cells)))

-- The tests by which the wheel's audit decides its rules; that they do is proved in `proofs/Audits.antt`.
-- Assumes nothing.
use Rattle.std.specs.Prelude.{ℕ, zero, suc, ◌+◌, ◌-◌, ◌/◌, ◌≤◌, Bool, true, cond, not, ◌&&◌, ◌||◌, List, [], ◌∷◌, ◌++◌, ◌≡◌, leb, ltb, eqb, length, get_or, take, is_some, IfSome}
use Rattle.std.specs.declared.option.Option.{Option}
use Rattle.cells.specs.Words.{word}
use Rattle.cells.specs.Stack.{no_cell, is_free, frees, link}
use Rattle.cell_sort.specs.Sorted.{sort_by, cell_leq}
use Rattle.audits.specs.AuditTests.{shared_test, all_below}
use Rattle.places.specs.Ticks.{last_tick}
use Rattle.slots.specs.Rings.{Lists, slot_marked}
use Rattle.slots.specs.Stand.{due_list}
use Rattle.slots.specs.declared.ring.Ends.{Ends}
use Rattle.dial.specs.Turns.{list_of}
use Rattle.wheel_rules.specs.Rules.{used_mask, free_mask}
use Rattle.dial.specs.declared.state.Dial.{Dial}
use Rattle.wheel_rules.specs.declared.walk.Noted.{Noted}

-- "clock .. at most the last tick", and a counter of 64 bits, which any head in memory has
unfoldable pub dial_test : Dial → Bool
dial_test d = leb d.store.counter 18446744073709551615 && leb d.clock (last_tick 64 6)

-- "six levels of 64 slots, 384 in all"
unfoldable pub arrays_test : List ℕ → List ℕ → List ℕ → Bool
arrays_test first last marks = eqb (length first) 384 && (eqb (length last) 384 && eqb (length marks) 6)

-- "a slot is marked occupied exactly if its list isn't empty": of slot i, by its first cell. Its word of marks has 64 bits, as any in
-- memory has.
unfoldable pub mark_test : List ℕ → List ℕ → ℕ → Bool
mark_test first marks i =
    leb (get_or marks (i / 64) 0) 18446744073709551615
    && cond (slot_marked marks i) (not (eqb (get_or first i no_cell) no_cell)) (eqb (get_or first i no_cell) no_cell)

-- "no deadline is below the clock", "deadlines are at most the last tick", "each entry stands once in the list of its place": of deadline e
-- and list i
unfoldable pub stands_in : ℕ → ℕ → ℕ → Bool
stands_in t i e = leb t e && (leb e (last_tick 64 6) && eqb (list_of t e) i)

-- Cell c may stand behind p in list i: one of the first n, in use, linked back to p, and of a deadline that stands there.
unfoldable pub stand_test : List ℕ → ℕ → ℕ → ℕ → ℕ → ℕ → Bool
stand_test w n t i p c = ltb c n && (not (is_free w c) && (eqb (word w c 5) p && stands_in t i (word w c 2)))

-- The cells from c on, the first behind p, as far as they pass the test, at most k.
unfoldable pub walked : (ℕ → ℕ → Bool) → (ℕ → ℕ) → ℕ → ℕ → ℕ → List ℕ
walked ok next zero p c = []
walked ok next (suc k) p c = cond (ok p c) (c ∷ walked ok next k c (next c)) []

-- Behind them is no cell, and the last of them is the cell `last`.
unfoldable pub closes : (ℕ → ℕ → Bool) → (ℕ → ℕ) → ℕ → ℕ → ℕ → ℕ → Bool
closes ok next last zero p c = eqb c no_cell && eqb p last
closes ok next last (suc k) p c = cond (ok p c) (closes ok next last k c (next c)) (eqb c no_cell && eqb p last)

-- The cells of list i with these ends, at most k.
unfoldable pub list_cells : List ℕ → ℕ → ℕ → ℕ → Ends → ℕ → List ℕ
list_cells w n t i e k = walked (stand_test w n t i) (link w) k no_cell e.first

-- Whether they are all of it.
unfoldable pub ring_test : List ℕ → ℕ → ℕ → ℕ → Ends → ℕ → Bool
ring_test w n t i e k = closes (stand_test w n t i) (link w) e.last k no_cell e.first

-- The ends of list i: of a slot in arrays, or of the due list.
unfoldable pub ends_in : List ℕ → List ℕ → Ends → ℕ → Ends
ends_in first last due i = cond (eqb i due_list) due (record { first = get_or first i no_cell; last = get_or last i no_cell })

-- The cells of the lists below k, one list behind the other, at most n in all.
unfoldable pub noted : List ℕ → ℕ → ℕ → (ℕ → Ends) → ℕ → List ℕ
noted w n t ends zero = []
noted w n t ends (suc i) =
    noted w n t ends i ++ list_cells w n t i (ends i) (n - length (noted w n t ends i))

-- List i is linked both ways, and its cells may stand there.
unfoldable pub list_test : List ℕ → ℕ → ℕ → (ℕ → Ends) → ℕ → Bool
list_test w n t ends i = ring_test w n t i (ends i) (n - length (noted w n t ends i))

-- Every list passes its test, and there are at most 4,096 cells.
unfoldable pub walk_test : List ℕ → ℕ → ℕ → (ℕ → Ends) → Bool
walk_test w n t ends = leb n no_cell && all_below 385 (list_test w n t ends)

-- Order numbers rise along the cells, the first of them above x.
unfoldable pub climbs : List ℕ → ℕ → List ℕ → Bool
climbs w x [] = true
climbs w x (c ∷ cs) = ltb x (word w c 1) && climbs w (word w c 1) cs

-- Order numbers rise along list i from its head on. No rule asks it: a wheel that was used has it, and it is seen while the list is walked.
unfoldable pub list_climbs : List ℕ → ℕ → ℕ → (ℕ → Ends) → ℕ → Bool
list_climbs w n t ends i = climbs w 0 (list_cells w n t i (ends i) (n - length (noted w n t ends i)))

-- "entries of equal deadline stand by rising order number": of two cells
unfoldable pub rise_test : List ℕ → ℕ → ℕ → Bool
rise_test w c d = not (eqb (word w c 2) (word w d 2)) || ltb (word w c 1) (word w d 1)

-- Each two neighbours rise.
unfoldable pub neighbours_rise : List ℕ → List ℕ → Bool
neighbours_rise w [] = true
neighbours_rise w (x ∷ []) = true
neighbours_rise w (x ∷ (y ∷ ys)) = rise_test w x y && neighbours_rise w (y ∷ ys)

-- As it is tested: sorted by deadline, neighbours rise. The sort is stable, so that cells of equal deadline keep their order.
unfoldable pub order_test : List ℕ → List ℕ → Bool
order_test w xs = neighbours_rise w (sort_by (cell_leq w 2 2) xs)

-- Every list passes its test, and cells of equal deadline rise.
unfoldable pub sort_test : List ℕ → ℕ → ℕ → (ℕ → Ends) → Bool
sort_test w n t ends = walk_test w n t ends && order_test w (noted w n t ends 385)

-- All lists: each by itself, as many cells in them as are in use, and the order.
unfoldable pub lists_test : List ℕ → ℕ → ℕ → (ℕ → Ends) → Bool
lists_test w n t ends =
    all_below 385 (list_test w n t ends)
    && (eqb (length (noted w n t ends 385) + frees w n) n && order_test w (noted w n t ends 385))

-- All that the audit tests.
unfoldable pub audit_test : Lists → Dial → Bool
audit_test l d =
    dial_test d
    && (shared_test l.words d.store used_mask free_mask
    && (arrays_test l.first l.last l.marks
    && (all_below 384 (mark_test l.first l.marks)
    && lists_test l.words d.store.cells d.clock (ends_in l.first l.last l.due))))

-- What the walk through list i finds, and leaves, of the first m cells noted in a: more cells in a', r.count in all.
pub record ListNoted (w : List ℕ) (n t i : ℕ) (e : Ends) (m : ℕ) (a : List ℕ) (r : Option Noted) (a' : List ℕ) : Type 0 where
  pub sound : is_some r ≡ ring_test w n t i e (n - m)
  pub few : IfSome r (λ f. f.count ≤ n)
  pub list : IfSome r (λ f. take f.count a' ≡ take m a ++ list_cells w n t i e (n - m))
  pub rise : IfSome r (λ f. f.rise ≡ climbs w 0 (list_cells w n t i e (n - m)))

-- What a walk through all lists finds: whether all are sound, and then how many cells they have, and whether order numbers rise along each.
pub record WalkFound (w : List ℕ) (n t : ℕ) (ends : ℕ → Ends) (r : Option Noted) : Type 0 where
  pub sound : is_some r ≡ walk_test w n t ends
  pub count : IfSome r (λ f. f.count ≡ length (noted w n t ends 385))
  pub rise : IfSome r (λ f. f.rise ≡ all_below 385 (list_climbs w n t ends))

-- What it leaves besides: their cells.
pub record AllNoted (w : List ℕ) (n t : ℕ) (ends : ℕ → Ends) (r : Option Noted) (a' : List ℕ) : Type 0 where
  pub found : WalkFound w n t ends r
  pub list : IfSome r (λ f. take f.count a' ≡ noted w n t ends 385)

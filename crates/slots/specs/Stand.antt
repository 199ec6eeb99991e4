-- When lists of cells stand in lent words and arrays: 384 slots by number, and the due list as number 384.
-- Assumes nothing.
use Rattle.std.specs.Prelude.{ℕ, ◌*◌, ◌/◌, ◌^◌, ◌≤◌, ◌<◌, Bool, true, false, cond, List, [], ◌∷◌, ◌≢◌, ◌≡◌, eqb, length, get_or, drop}
use Rattle.cells.specs.Lists.{times}
use Rattle.cells.specs.Stack.{no_cell}
use Rattle.cells.specs.Words.{word}
use Rattle.slots.specs.Rings.{next, previous, Lists, ends_of, join_slot, leave_slot, join_due, leave_due, slot_marked}
use Rattle.slots.specs.declared.ring.Ends.{Ends}

-- From a the cells xs follow each other up to b, linked both ways by N and P.
abbrev pub Linked : (ℕ → ℕ) → (ℕ → ℕ) → ℕ → List ℕ → ℕ → Type 0
Linked N P a [] b = (N a ≡ b) × (P b ≡ a)
Linked N P a (x ∷ xs) b = (N a ≡ x) × (P x ≡ a) × Linked N P x xs b

-- The list with these ends has the cells xs, "linked both ways".
abbrev pub RingOf : List ℕ → Ends → List ℕ → Type 0
RingOf w e xs = Linked (next w e) (previous w e) no_cell xs no_cell

-- The number of the due list.
abbrev pub due_list : ℕ
due_list = 384

unfoldable pub ends_at : Lists → ℕ → Ends
ends_at l i = cond (eqb i due_list) l.due (ends_of l i)

unfoldable pub join_at : Lists → ℕ → ℕ → Lists
join_at l i c = cond (eqb i due_list) (join_due l c) (join_slot l i c)

unfoldable pub leave_at : Lists → ℕ → ℕ → Lists
leave_at l i c = cond (eqb i due_list) (leave_due l c) (leave_slot l i c)

unfoldable pub has_cells : List ℕ → Bool
has_cells [] = false
has_cells (x ∷ xs) = true

-- The lists with list i another.
unfoldable pub put_list : (ℕ → List ℕ) → ℕ → List ℕ → ℕ → List ℕ
put_list ls i xs j = cond (eqb j i) xs (ls j)

-- The list without cell c.
unfoldable pub drop_cell : ℕ → List ℕ → List ℕ
drop_cell c [] = []
drop_cell c (x ∷ xs) = cond (eqb x c) xs (x ∷ drop_cell c xs)

pub record Stand (l : Lists) (ls : ℕ → List ℕ) : Type 0 where
  -- "six levels of 64 slots, 384 in all"
  pub firsts : length l.first ≡ 384
  pub lasts : length l.last ≡ 384
  pub levels : length l.marks ≡ 6
  pub room : length l.words / 8 ≤ 4096
  -- "linked both ways"
  pub rings : (i : ℕ) → i ≤ due_list → RingOf l.words (ends_at l i) (ls i)
  -- "a slot is marked occupied exactly if its list isn't empty"; a word of marks has 64 digits
  pub marks : (i : ℕ) → i < due_list → slot_marked l.marks i ≡ has_cells (ls i)
  pub narrow : (p : ℕ) → get_or l.marks p 0 < 2 ^ 64
  -- Each cell stands once in one list.
  pub inside : (i c : ℕ) → i ≤ due_list → 1 ≤ times c (ls i) → c < length l.words / 8
  pub once : (i c : ℕ) → i ≤ due_list → times c (ls i) ≤ 1
  pub apart : (i j c : ℕ) → i ≤ due_list → j ≤ due_list → 1 ≤ times c (ls i) → 1 ≤ times c (ls j) → i ≡ j

-- Only links of the cells xs are written anew.
pub record Relinked (xs : List ℕ) (w w' : List ℕ) : Type 0 where
  pub size : length w' ≡ length w
  pub tail : drop (length w / 8 * 8) w' ≡ drop (length w / 8 * 8) w
  pub fields : (c f : ℕ) → f ≢ 4 → f ≢ 5 → word w' c f ≡ word w c f
  pub others : (c f : ℕ) → times c xs ≡ 0 → word w' c f ≡ word w c f

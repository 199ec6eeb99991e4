-- Lists of cells in lent words, linked both ways, on any words whatever.
-- Assumes nothing.
use Rattle.std.specs.Prelude.{ℕ, zero, suc, ◌+◌, ◌-◌, ◌/◌, ◌%◌, ◌^◌, Bool, cond, ◌&&◌, List, Option, Some, None, ltb, eqb, length, get_or, set}
use Rattle.cells.specs.Stack.{no_cell}
use Rattle.cells.specs.Words.{word, put_word}
use Rattle.slots.specs.declared.ring.Ends.{Ends}

-- The words and the ends of one list.
pub record Ring : Type 0 where
  pub words : List ℕ
  pub ends : Ends

-- What follows and what precedes a cell; no cell stands for the list itself.
unfoldable pub next : List ℕ → Ends → ℕ → ℕ
next w e a = cond (eqb a no_cell) e.first (word w a 4)

unfoldable pub previous : List ℕ → Ends → ℕ → ℕ
previous w e b = cond (eqb b no_cell) e.last (word w b 5)

-- Cell b follows a.
unfoldable pub relinked : List ℕ → Ends → ℕ → ℕ → Ring
relinked w e a b =
    let w₁ = cond (eqb a no_cell) w (put_word w a 4 b) in
    record {
      words = cond (eqb b no_cell) w₁ (put_word w₁ b 5 a);
      ends = record { first = cond (eqb a no_cell) b e.first; last = cond (eqb b no_cell) a e.last };
    }

-- "New, moved and cascaded entries join at the tail."
unfoldable pub joined : List ℕ → Ends → ℕ → Ring
joined w e c = relinked (relinked w e e.last c).words (relinked w e e.last c).ends c no_cell

-- The cells before and behind c follow each other.
unfoldable pub left : List ℕ → Ends → ℕ → Ring
left w e c = relinked w e (word w c 5) (word w c 4)

-- A mark for slot s in the word m of its level: digit s of m to the base 2.
unfoldable pub is_marked : ℕ → ℕ → Bool
is_marked m s = eqb (m / 2 ^ s % 2) 1

unfoldable pub marked : ℕ → ℕ → ℕ
marked m s = cond (is_marked m s) m (m + 2 ^ s)

unfoldable pub unmarked : ℕ → ℕ → ℕ
unmarked m s = cond (is_marked m s) (m - 2 ^ s) m

-- All lists: the words, the first and the last cell of each slot, a word of marks for each level, and the ends of the due list.
pub record Lists : Type 0 where
  pub words : List ℕ
  pub first : List ℕ
  pub last : List ℕ
  pub marks : List ℕ
  pub due : Ends

-- Slot i of all, level by level: there are arrays for it.
unfoldable pub has_slot : Lists → ℕ → Bool
has_slot l i = ltb i (length l.first) && ltb i (length l.last) && ltb (i / 64) (length l.marks)

-- The ends of slot i.
unfoldable pub ends_of : Lists → ℕ → Ends
ends_of l i = record { first = get_or l.first i no_cell; last = get_or l.last i no_cell }

-- The list of slot i is that ring, and is marked or not. Ends are kept in 16 bits: no cell number is larger than 4,096.
unfoldable pub with_ring : Lists → ℕ → Ring → (ℕ → ℕ → ℕ) → Lists
with_ring l i r mark =
    record {
      words = r.words;
      first = set l.first i (r.ends.first % 65536);
      last = set l.last i (r.ends.last % 65536);
      marks = set l.marks (i / 64) (mark (get_or l.marks (i / 64) 0) (i % 64));
      due = l.due;
    }

-- Cell c joins slot i at the tail, and the slot is marked; nothing is done where there is no such slot.
unfoldable pub join_slot : Lists → ℕ → ℕ → Lists
join_slot l i c = cond (has_slot l i) (with_ring l i (joined l.words (ends_of l i) c) marked) l

-- Cell c leaves slot i; the mark goes with the last cell.
unfoldable pub leave_slot : Lists → ℕ → ℕ → Lists
leave_slot l i c =
    let r = left l.words (ends_of l i) c in
    cond (has_slot l i) (with_ring l i r (λ (m s : ℕ). cond (eqb r.ends.first no_cell) (unmarked m s) m)) l

-- Slot i is emptied: its cells stand in no list, but keep their words.
unfoldable pub empty_slot : Lists → ℕ → Lists
empty_slot l i =
    cond (has_slot l i) (with_ring l i (record { words = l.words; ends = record { first = no_cell; last = no_cell } }) unmarked) l

-- The due list is that ring.
unfoldable pub with_due : Lists → Ring → Lists
with_due l r = record { words = r.words; first = l.first; last = l.last; marks = l.marks; due = r.ends }

unfoldable pub join_due : Lists → ℕ → Lists
join_due l c = with_due l (joined l.words l.due c)

unfoldable pub leave_due : Lists → ℕ → Lists
leave_due l c = with_due l (left l.words l.due c)

-- The least of k numbers from i on that passes a test, else the number behind them.
unfoldable pub scan : (ℕ → Bool) → ℕ → ℕ → ℕ
scan passes zero i = i
scan passes (suc k) i = cond (passes i) i (scan passes k (suc i))

-- Slot i is marked.
unfoldable pub slot_marked : List ℕ → ℕ → Bool
slot_marked marks i = is_marked (get_or marks (i / 64) 0) (i % 64)

-- The first marked slot, level by level; 384 where none is.
unfoldable pub first_marked : List ℕ → ℕ
first_marked marks = scan (slot_marked marks) 384 0

-- The slot of that number, if it is one of the 384.
unfoldable pub slot_found : ℕ → Option ℕ
slot_found i = cond (ltb i 384) (Some i) None

-- Lists as they are lent to a function of the slots, which has no due list.
abbrev pub lent : List ℕ → List ℕ → List ℕ → List ℕ → Lists
lent w first last marks = record { words = w; first = first; last = last; marks = marks; due = record { first = no_cell; last = no_cell } }

-- The first cell of slot i; none where there is no such slot.
unfoldable pub first_cell : Lists → ℕ → ℕ
first_cell l i = cond (has_slot l i) (ends_of l i).first no_cell

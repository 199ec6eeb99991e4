-- Entries, their order, and handles. Above each definition stands the sentence of document 01 that it states.
-- Assumes nothing.
use Rattle.std.specs.Prelude.{ℕ, Bool, true, cond, ◌&&◌, ◌||◌, List, [], ◌∷◌, ◌≡◌, ltb, eqb}
use Rattle.std.proofs.Math.Option.{Option, none, some}
use Rattle.cells.specs.Lists.{All}

-- "a list of entries (key or deadline, order number, cell, ticket, load)"
pub record Entry : Type 0 where
  pub key : ℕ
  pub order : ℕ
  pub cell : ℕ
  pub ticket : ℕ
  pub load : ℕ

-- "Entry x is before y if its key or deadline is smaller, or equal with the smaller order number."
unfoldable pub before : Entry → Entry → Bool
before x y = ltb x.key y.key || (eqb x.key y.key && ltb x.order y.order)

-- The list is in that order: each entry is before all that follow it.
abbrev pub Ordered : List Entry → Type 0
Ordered [] = Unit {0}
Ordered (x ∷ xs) = All (λ (y : Entry). before x y ≡ true) xs × Ordered xs

-- "a plain list ordered by key or deadline, then by order number": an entry goes in front of the first that it is before.
unfoldable pub insert : Entry → List Entry → List Entry
insert x [] = x ∷ []
insert x (y ∷ ys) = cond (before x y) (x ∷ y ∷ ys) (y ∷ insert x ys)

-- "A handle is (cell, ticket). It names an entry exactly if the cell .. is in use, and holds that ticket."
unfoldable pub names : ℕ → ℕ → Entry → Bool
names c k e = eqb e.cell c && eqb e.ticket k

-- The entry that a handle names, if it names one.
unfoldable pub named : ℕ → ℕ → List Entry → Option Entry
named c k [] = none
named c k (e ∷ es) = cond (names c k e) (some e) (named c k es)

-- The list without the entry that a handle names.
unfoldable pub without : ℕ → ℕ → List Entry → List Entry
without c k [] = []
without c k (e ∷ es) = cond (names c k e) es (e ∷ without c k es)

-- Stands for no entry where a list has none: of no entry is any word known.
abbrev pub nobody : Entry
nobody = record { key = 0; order = 0; cell = 0; ticket = 0; load = 0 }

-- "the entry before all others", of a list in order
unfoldable pub earliest : List Entry → Entry
earliest [] = nobody
earliest (e ∷ es) = e

-- The slots' lists as lent slices hold them.
-- Assumes nothing.
use Rattle.std.specs.Prelude.{◌≡◌}
use Rattle.slots.specs.Rings.{Lists, lent}
use Rattle.slots.specs.declared.slots.Lists.{Lists as Slices}

-- What the slices hold.
abbrev pub held : Slices → Lists
held l = lent l.words.now l.first.now l.last.now l.marks.now

-- The slices are the same ones, whatever they hold.
abbrev pub same_slices : Slices → Slices → Type 0
same_slices l m =
    (l.words.ghost_name ≡ m.words.ghost_name) × (l.first.ghost_name ≡ m.first.ghost_name) × (l.last.ghost_name ≡ m.last.ghost_name)
    × (l.marks.ghost_name ≡ m.marks.ghost_name)

-- What is written on a page of lent bytes.
-- Assumes nothing.
use Rattle.std.specs.Prelude.{ℕ, List, ◌≡◌, length}
use Rattle.script.specs.Answers.{Laid}
use Rattle.script.specs.declared.writing.Page.{Page}

-- The bytes are the same ones, and as many, whatever they are.
abbrev pub same_bytes : Page → Page → Type 0
same_bytes p q = (p.bytes.ghost_name ≡ q.bytes.ghost_name) × (length p.bytes.now ≡ length q.bytes.now)

-- A text is laid where the page's text ended, and the page's text ends where it does.
abbrev pub Written : Page → List ℕ → Page → Type 0
Written p text q = Laid p.bytes.now p.end text q.bytes.now q.end

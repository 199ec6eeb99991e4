-- Where a run stands: the words it has, and whether it goes on.
-- Assumes nothing.
use Rattle.std.specs.Prelude.{ℕ, Bool, true, false}
use Rattle.script.specs.declared.session.Session.{Session}
use Rattle.script.specs.declared.session.Session.TheVariants as session

-- How many of the words the engine has.
unfoldable pub words_of : {H : Type 0} → Session H → ℕ
words_of session.Fresh = 0
words_of (session.Open n h) = n
words_of session.Over = 0

-- "A first line that is bad or refused .. ends the run."
unfoldable pub goes_on : {H : Type 0} → Session H → Bool
goes_on session.Fresh = true
goes_on (session.Open n h) = true
goes_on session.Over = false

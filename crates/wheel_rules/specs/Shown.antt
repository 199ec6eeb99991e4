-- When lists and a head's numbers show a model.
-- Assumes nothing.
use Rattle.meaning.specs.Plain.{Plain}
use Rattle.slots.specs.Rings.{Lists}
use Rattle.dial.specs.Shows.{Shows}
use Rattle.dial.specs.declared.state.Dial.{Dial}

-- Lists and numbers are a model.
abbrev pub DialShows : Lists → Dial → Plain → Type 0
DialShows l d m = Shows l d.clock d.store m

-- Numbers given out and handed back over a run of calls.
-- Assumes nothing.
use Rattle.std.specs.Prelude.{ℕ, List, [], ◌∷◌, ◌++◌, map, take}
use Rattle.meaning.specs.Entries.{Entry}
use Rattle.meaning.specs.Plain.{Plain, Change, stays, files, refiles, frees, hands}
use Rattle.meaning.specs.Calls.{Call, Answer, Shown, outcome, result}
use Rattle.promises.specs.Demand3.{reports, joined}

-- The order number that a change takes, "the counter's value".
unfoldable pub takes_order : Change → Plain → List ℕ
takes_order stays s = []
takes_order (files key load) s = s.counter ∷ []
takes_order (refiles c k key) s = s.counter ∷ []
takes_order (frees c k) s = []
takes_order (hands m t) s = []

-- The ticket that a change gives out: a move or rekey gives none.
unfoldable pub gives_ticket : Change → Plain → List ℕ
gives_ticket stays s = []
gives_ticket (files key load) s = s.counter ∷ []
gives_ticket (refiles c k key) s = []
gives_ticket (frees c k) s = []
gives_ticket (hands m t) s = []

-- The tickets of the entries that a change hands out or gives back.
unfoldable pub ends_tickets : Change → Plain → List ℕ
ends_tickets stays s = []
ends_tickets (files key load) s = []
ends_tickets (refiles c k key) s = []
ends_tickets (frees c k) s = k ∷ []
ends_tickets (hands m t) s = map (λ (e : Entry). e.ticket) (take m s.entries)

-- Such numbers over a run, in order.
unfoldable pub over : (Change → Plain → List ℕ) → ℕ → ℕ → List Call → Plain → List ℕ
over f b n [] s = []
over f b n (call ∷ calls) s = f (outcome b n call s).change s ++ over f b n calls (result b n call s).next

-- The tickets of all records that answers told fired.
unfoldable pub fired_tickets : List Answer → List ℕ
fired_tickets told = map (λ (x : Shown). x.ticket) (joined (reports told))

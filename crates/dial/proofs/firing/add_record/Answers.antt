-- `dial::firing::add_record` meets its contract. Assumes nothing.
use Rattle.dial.proofs.FireSteps.{recorded-is}
use Rattle.dial.proofs.firing.add_record.Goals as goal

pub returns : goal.returns
returns c = recorded-is _ _ _ _ _ _ _ _ c.fill_record.ensures c.get-k.ensures c.get-e.ensures c.get-x.ensures

-- `dial::turns::once` meets its contract: by whether something is due behind the last record. Assumes nothing.
use Rattle.std.proofs.Common.{[], arith}
use Rattle.dial.specs.Lent.{ending_of}
use Rattle.dial.proofs.FireSteps.{handed-keeps}
use Rattle.dial.proofs.TurnSteps.{once-onward, once_more}
use Rattle.dial.proofs.turns.once.Goals as goal

pub onward-requires : goal.onward-requires
onward-requires c = omega (arith, handed-keeps _ (c.hand_out-handed.ensures [] [] []), c.requires)

pub returns-then-handed-eq4096-clause-ended : goal.returns-then-handed-eq4096-clause-ended
returns-then-handed-eq4096-clause-ended c =
    once-onward _ _ _ (c.hand_out-handed.ensures _ _ _) c.if-handed-eq4096.true (c.onward.ensures.ended _)

pub returns-clause-ended : goal.returns-clause-ended
unfolding ending_of
returns-clause-ended c = once_more _ _ _ (c.hand_out-handed.ensures _ _ _) c.if-handed-eq4096.false

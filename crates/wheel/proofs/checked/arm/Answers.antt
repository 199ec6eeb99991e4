-- `wheel::checked::arm` meets its contract: the audit fails, or it passes and the call is made.
use Rattle.std.proofs.Common.{rules}
use Rattle.wheel.specs.Answers.{told_arm}
use Rattle.wheel.proofs.Checking.{refused-broken, passed-sound}
use Rattle.wheel.proofs.checked.arm.Goals as goal

pub returns-in_err-audited : goal.returns-in_err-audited
unfolding told_arm
returns-in_err-audited c = refused-broken _ _ _ _ _ _ c.in_err-audited.ensures (search rules)

pub returns : goal.returns
returns c = passed-sound _ _ _ _ _ _ _ c.in_ok-audited.ensures c.arm.ensures

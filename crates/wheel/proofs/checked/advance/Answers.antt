-- `wheel::checked::advance` meets its contract: the audit fails, or it passes and the call is made.
use Rattle.std.proofs.Common.{rules}
use Rattle.wheel.proofs.Checking.{advance-broken, advance-sound}
use Rattle.wheel.proofs.checked.advance.Goals as goal

pub returns-in_err-audited : goal.returns-in_err-audited
returns-in_err-audited c = advance-broken _ _ _ _ _ _ c.in_err-audited.ensures (search rules)

pub returns : goal.returns
returns c = advance-sound _ _ _ _ _ _ _ _ _ c.in_ok-audited.ensures c.advance.ensures

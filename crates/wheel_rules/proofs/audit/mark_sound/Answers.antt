-- By the slot's mark and its first cell. Assumes nothing.
use Rattle.std.proofs.Common.{rules}
use Rattle.slots.specs.Rings.{slot_marked, is_marked, ends_of}
use Rattle.wheel_rules.specs.AuditTests.{mark_test}
use Rattle.wheel_rules.proofs.audit.mark_sound.Goals as goal

pub returns : goal.returns
unfolding mark_test slot_marked is_marked ends_of
returns c = search rules

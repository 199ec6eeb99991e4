-- One cell more, which `note` puts behind the others if it is in use. Assumes nothing.
use Rattle.std.proofs.Common.{arith, refl, ◌∙◌}
use Rattle.audits.specs.AuditTests.{used_below}
use Rattle.audits.proofs.Steps.{used-length, gather-count, gather-step}
use Rattle.audits.proofs.differ.gather.Goals as goal

pub loop-c-init : goal.loop-c-init
unfolding used_below
loop-c-init c = record { count = refl; list = refl }

pub note-m-requires : goal.note-m-requires
note-m-requires c =
    (omega arith, omega (arith, used-length c.args.w.now c.loop-c.c, c.loop-c.invariant.count, c.loop-c.auto.a))

pub loop-c-preserved : goal.loop-c-preserved
loop-c-preserved c =
    let at = c.loop-c.invariant in
    record {
      count = c.note-m.ensures.next ∙ gather-count _ _ _ at.count;
      list =
          gather-step _ _ _ _ _ _ _ at.count (omega (arith, used-length c.args.w.now c.loop-c.c)) at.list
          c.note-m.ensures.next c.note-m.ensures.list;
    }

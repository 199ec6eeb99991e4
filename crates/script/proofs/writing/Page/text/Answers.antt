-- What fits of the text is laid by one copy; where the text begins at or past the end, nothing is.
use Rattle.std.proofs.Common.{arith, refl}
use Rattle.script.proofs.Laying.{laid-part, laid-past}
use Rattle.script.proofs.writing.Page.text.Goals.{then-at-end, else-at-end}
use Rattle.script.proofs.writing.Page.text.Goals as goal

pub returns-clause-written : goal.returns-clause-written
returns-clause-written c =
    elim c.if-at-end.branch [
      | then-at-end w ↦ rw (w.self-is) (laid-part _ _ _ _ _ _ (omega arith) c.text_end-end.ensures w.copy_from_slice.ensures.after refl)
      | else-at-end w ↦ rw (w.self-is) (laid-past _ _ _ _ (omega arith) c.text_end-end.ensures)
    ]

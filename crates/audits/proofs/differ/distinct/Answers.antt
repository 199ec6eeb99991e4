-- The lengths are equal, so the list is sorted. Assumes nothing.
use Rattle.std.proofs.Common.{ap, rules, ◌∙◌}
use Rattle.cell_sort.specs.Sorted.{neighbours_differ}
use Rattle.cell_sort.proofs.CellSort.{list-fits}
use Rattle.audits.proofs.differ.distinct.Goals as goal

pub returns-clause-differ : goal.returns-clause-differ
returns-clause-differ c =
    c.all_differ.ensures ∙ ap (neighbours_differ _ _) (c.sort.ensures.list ∙ list-fits _ _ _ _ _ (search rules))

pub returns-clause-list : goal.returns-clause-list
returns-clause-list c = c.sort.ensures.list ∙ list-fits _ _ _ _ _ (search rules)

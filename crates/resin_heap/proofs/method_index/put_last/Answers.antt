use Rattle.std.proofs.Common.{◌∙◌}
use Rattle.resin_heap.proofs.Method_trees.{names_grown, number_given}
use Rattle.resin_heap.proofs.method_index.put_last.Goals as goal

pub returns-clause-grown : goal.returns-clause-grown
returns-clause-grown c = names_grown _ _ c.args.name.now _ tt (c.kept.ensures ∙ c.in_ok-clone.ensures.cases) c.requires c.in_ok-insert.ensures.entries

pub returns-clause-number : goal.returns-clause-number
returns-clause-number c = number_given _ _ c.args.name.now _ tt (c.kept.ensures ∙ c.in_ok-clone.ensures.cases) c.requires c.in_ok-insert.ensures.entries _ c.len-number.ensures.len

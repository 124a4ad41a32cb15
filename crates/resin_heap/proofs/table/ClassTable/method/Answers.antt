use Rattle.std.proofs.Common.{ap, ◌∙◌}
use Rattle.resin_heap.specs.Classes.{method_of}
use Rattle.resin_heap.proofs.Lines.{all_there}
use Rattle.resin_heap.proofs.table.ClassTable.method.Goals as goal

pub returns-clause-value : goal.returns-clause-value
returns-clause-value c =
    c.find.ensures
    ∙ (c.self.invariant.methods c.args.c c.class_at.result.now c.class_at.ensures).finds c.args.name.now
    ∙ ap (λ t. method_of t c.args.c c.args.name.now) c.self.view_is

pub returns-clause-there : goal.returns-clause-there
returns-clause-there c = all_there c.args.self.now c.args.c c.args.name.now c.find.result (returns-clause-value c)

use Rattle.std.proofs.Common.{ap, ◌∙◌}
use Rattle.resin_heap.specs.Classes.{parent_of}
use Rattle.resin_heap.proofs.table.ClassTable.parent.Goals as goal

pub returns : goal.returns
returns c = (c.self.invariant.stand c.args.c _ c.class_at.ensures).parent ∙ ap (λ t. parent_of t c.args.c) c.self.view_is

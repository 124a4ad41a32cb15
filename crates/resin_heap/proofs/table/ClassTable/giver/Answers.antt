use Rattle.std.proofs.Common.{[], sym, ap, ◌∙◌}
use Rattle.std.specs.Option.{option_map_or}
use Rattle.resin_heap.specs.Classes.{properties_of}
use Rattle.resin_heap.proofs.table.ClassTable.giver.Goals as goal

pub returns-clause-all : goal.returns-clause-all
returns-clause-all c =
    let stands = c.self.invariant.stand c.args.c c.class_at.result.now c.class_at.ensures in
    ap (λ t. properties_of t c.args.c) (sym c.self.view_is) ∙ stands.giver ∙ ap (λ t. option_map_or (properties_of t) c.class_at.result.now.standing.giver []) c.self.view_is

pub returns-clause-near : goal.returns-clause-near
returns-clause-near c = (c.self.invariant.stand c.args.c c.class_at.result.now c.class_at.ensures).near

use Rattle.resin_meaning_forms.specs.Sources.{declare_all}
use Rattle.resin_step_parts.proofs.Steps.{Leaves}
use Rattle.std.proofs.Common.{drop}
use Rattle.resin_step_parts.proofs.declarations.declare_all.Given as goal

abbrev pub invariant-loop-item : goal.invariant-loop-item
invariant-loop-item l =
    Leaves (declare_all l.items) l.fn.m (declare_all (drop l.item-index l.items)) l.m

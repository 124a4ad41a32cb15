use Rattle.resin_meaning_forms.specs.Statements.{bind_all}
use Rattle.resin_step_parts.proofs.Steps.{Leaves}
use Rattle.std.proofs.Common.{drop}
use Rattle.resin_step_parts.proofs.statements.bind_all.Given as goal

abbrev pub invariant-loop-name : goal.invariant-loop-name
invariant-loop-name l =
    Leaves (bind_all l.names) l.fn.m (bind_all (drop l.name-index l.names)) l.m

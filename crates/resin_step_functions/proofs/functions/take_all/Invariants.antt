use Rattle.resin_step_parts.specs.Under.meaning_forms.Functions.{take_all}
use Rattle.resin_step_parts.proofs.Steps.{Leaves}
use Rattle.resin_step_parts.specs.Under.value.Seen.{trees_of}
use Rattle.std.proofs.Common.{drop}
use Rattle.resin_step_functions.proofs.functions.take_all.Given as goal

abbrev pub invariant-loop-v : goal.invariant-loop-v
invariant-loop-v l =
    Leaves (take_all (trees_of l.vs)) l.fn.m (take_all (trees_of (drop l.v-index l.vs))) l.m

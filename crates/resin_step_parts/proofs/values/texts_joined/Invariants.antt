use Rattle.resin_meaning_forms.specs.Expressions.{joined}
use Rattle.resin_step_parts.proofs.Steps.{Leaves}
use Rattle.resin_meaning_forms.specs.Under.value.Seen.{trees_of}
use Rattle.std.proofs.Common.{[], drop}
use Rattle.resin_step_parts.proofs.values.texts_joined.Given as goal

abbrev pub invariant-loop-v : goal.invariant-loop-v
invariant-loop-v l =
    Leaves (joined [] (trees_of l.vs)) l.fn.m (joined l.text (trees_of (drop l.v-index l.vs))) l.m

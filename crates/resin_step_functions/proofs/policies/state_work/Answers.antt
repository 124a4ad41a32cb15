use Rattle.resin_step_functions.proofs.Marks.{no_arguments, one_argument, throw_there, two_arguments}
use Rattle.resin_step_parts.specs.Under.heap.declared.prelude.PreludeClass.TheVariants.{ArgumentCountError}
use Rattle.resin_step_parts.proofs.Steps.{runs_as}
use Rattle.std.proofs.Common.{arith}
use Rattle.resin_step_functions.proofs.policies.state_work.Goals as goal

pub returns-in-empty : goal.returns-in-empty
returns-in-empty c =
    throw_there _ ArgumentCountError _ _ _ (no_arguments c.args.f c.args.args.now (omega (arith, c.in-empty.len_below))) c.throw.ensures.acts

pub returns-in-len1 : goal.returns-in-len1
returns-in-len1 c =
    runs_as _ _ _ _ _ (one_argument c.args.f c.args.args.now c.first-item.result (omega (arith, c.in-len1.len_at_least, c.in-len1.len_below)) c.first-item.is) c.work_on_one.ensures

pub returns-in-len2-up : goal.returns-in-len2-up
returns-in-len2-up c =
    runs_as _ _ _ _ _ (two_arguments c.args.f c.args.args.now c.first-item-2.result c.second-item.result c.in-len2-up.len_at_least c.first-item-2.is c.second-item.is) c.work_on_two.ensures

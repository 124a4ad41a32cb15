use Rattle.resin_step_parts.specs.Under.heap.declared.prelude.PreludeClass.TheVariants.{ArgumentCountError}
use Rattle.resin_step_functions.proofs.Marks.{one_missing, throw_there}
use Rattle.resin_step_parts.specs.Under.value.Seen.{tree_of}
use Rattle.resin_step_functions.proofs.policies.work_on_one.Goals as goal

pub returns-in-PolicyGet : goal.returns-in-PolicyGet
returns-in-PolicyGet c =
    rw c.in-PolicyGet.is c.policy_list.ensures

pub returns-in-GetClass : goal.returns-in-GetClass
returns-in-GetClass c =
    rw c.in-GetClass.is c.class_name.ensures

pub returns-in_default : goal.returns-in_default
returns-in_default c =
    throw_there _ ArgumentCountError _ _ _ (one_missing c.args.f (tree_of c.args.first.now) c.in_default.not-PolicyGet c.in_default.not-GetClass) c.throw.ensures.acts

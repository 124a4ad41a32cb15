use Rattle.resin_step_functions.proofs.Marks.{under_none, under_one}
use Rattle.resin_step_parts.specs.Under.value.Seen.{tree_of}
use Rattle.resin_step_functions.proofs.policies.object_under.Goals as goal

pub returns-then-not-is_object_under : goal.returns-then-not-is_object_under
returns-then-not-is_object_under c =
    under_none c.args.class (tree_of c.args.v.now) c.args.m.now c.is_object_under.result _ c.is_object_under.ensures (cc c.if-not-is_object_under.true) c.fault.ensures

pub returns : goal.returns
returns c =
    under_one c.args.class (tree_of c.args.v.now) c.args.m.now c.is_object_under.result _ c.is_object_under.ensures (cc c.if-not-is_object_under.false) c.number_in.ensures

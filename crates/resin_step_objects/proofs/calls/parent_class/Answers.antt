use Rattle.resin_step_objects.proofs.Found.{parent_found, parent_missing}
use Rattle.resin_step_objects.proofs.calls.parent_class.Goals as goal

pub returns-in-Some : goal.returns-in-Some
returns-in-Some c =
    parent_found c.args.m.now _ _ c.class_above_running.ensures c.in-Some.is

pub returns-in-None : goal.returns-in-None
returns-in-None c =
    parent_missing c.args.m.now _ _ c.class_above_running.ensures c.in-None.is c.fault.ensures

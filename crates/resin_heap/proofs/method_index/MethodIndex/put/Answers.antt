use Rattle.std.proofs.Common.{refl}
use Rattle.resin_heap.proofs.Method_trees.{kept_grown, kept_named, made_root, made_reached}
use Rattle.resin_heap.proofs.method_index.MethodIndex.put.Goals as goal

pub returns-in_err-number-clause-keeps : goal.returns-in_err-number-clause-keeps
returns-in_err-number-clause-keeps c =
    kept_named _ _ _ c.self.view_is c.number_of.ensures.grown refl

pub returns-clause-keeps : goal.returns-clause-keeps
returns-clause-keeps c =
    kept_grown _ _ _ c.self.view_is c.put.ensures.closed c.number_of.ensures.grown c.put.ensures.grown

pub returns-clause-root : goal.returns-clause-root
returns-clause-root c =
    made_root _ _ _ _ c.args.tree c.args.name.now _ c.args.method c.self.view_is c.requires c.number_of.ensures.grown c.in_ok-number.ensures.number c.put.ensures.within c.put.ensures.put

pub returns-clause-put : goal.returns-clause-put
returns-clause-put c =
    made_reached _ _ _ _ c.args.tree c.args.name.now _ c.args.method c.self.view_is c.requires c.number_of.ensures.grown c.in_ok-number.ensures.number c.put.ensures.within c.put.ensures.put

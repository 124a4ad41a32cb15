use Rattle.std.proofs.Common.{sym, subst, IfOk, ◌≡◌}
use Rattle.resin_ops.specs.Under.value.declared.value.Value.{Value}
use Rattle.resin_target.proofs.Indexed.{value_there, if_ok}
use Rattle.resin_target.proofs.reads.value_at.Goals as goal

pub returns-in-Some : goal.returns-in-Some
returns-in-Some c =
    subst (λ (x : Value). IfOk c.clone.result (λ v. v ≡ x)) (sym (value_there c.args.key.now c.in-Some.value.now c.args.array.now c.in-Some.ensures))
    (if_ok _ _ c.clone.result c.clone.ensures.cases)

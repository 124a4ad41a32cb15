use Rattle.resin_eval_merges.specs.Under.meaning_forms.Functions.{kinds_of}
use Rattle.resin_eval_merges.proofs.eval_nested_lemmas.Arms.{does_given, does_no, does_yes}
use Rattle.resin_eval_functions.proofs.Counts.{other_count, same_count}
use Rattle.resin_eval_merges.proofs.meaning_lemmas.Composition.{does_act, does_exit, does_next}
use Rattle.resin_eval_merges.specs.Under.value.Values.{value_of-tree_of}
use Rattle.std.proofs.Common.{ap, length, sym}
use Rattle.resin_eval_functions.proofs.arguments.Builtins.state_function.Goals as goal

pub returns-then-as_slice-kinds : goal.returns-then-as_slice-kinds
returns-then-as_slice-kinds g c =
    does_no _ _ _ (other_count c.args.args.now (kinds_of c.args.f) _ _ (ap length c.as_slice.ensures) (ap length c.kinds_of-kinds.ensures) c.if-as_slice-kinds.true) (c.miscounted.ensures _ _ _)

pub returns-in_err-turned : goal.returns-in_err-turned
returns-in_err-turned g c =
    does_yes _ _ _ (same_count c.args.args.now (kinds_of c.args.f) _ _ (ap length c.as_slice.ensures) (ap length c.kinds_of-kinds.ensures) c.if-as_slice-kinds.false) (does_exit _ _ _ c.from_residual.ensures.1 (rw (c.kinds_of-kinds.ensures, c.as_slice-2.ensures) at c.in_err-turned.ensures))

pub returns-in_err-take_all : goal.returns-in_err-take_all
returns-in_err-take_all g c =
    does_yes _ _ _ (same_count c.args.args.now (kinds_of c.args.f) _ _ (ap length c.as_slice.ensures) (ap length c.kinds_of-kinds.ensures) c.if-as_slice-kinds.false) (does_next _ _ (rw (c.kinds_of-kinds.ensures, c.as_slice-2.ensures) at c.in_ok-turned.ensures) (does_exit _ _ _ c.from_residual-in_err-take_all.ensures.1 ((rw (c.as_slice-3.ensures) at c.in_err-take_all.ensures) _ _ _)))

pub returns-in_err-answer : goal.returns-in_err-answer
returns-in_err-answer g c =
    does_yes _ _ _ (same_count c.args.args.now (kinds_of c.args.f) _ _ (ap length c.as_slice.ensures) (ap length c.kinds_of-kinds.ensures) c.if-as_slice-kinds.false) (does_next _ _ (rw (c.kinds_of-kinds.ensures, c.as_slice-2.ensures) at c.in_ok-turned.ensures) (does_next _ _ ((rw (c.as_slice-3.ensures) at c.in_ok-take_all.ensures) _ _ _) (does_exit _ _ _ c.from_residual-in_err-answer.ensures.1 ((rw (c.as_slice-4.ensures) at c.in_err-answer.ensures) _ _ _))))

pub returns-in_err-charge : goal.returns-in_err-charge
returns-in_err-charge g c =
    does_yes _ _ _ (same_count c.args.args.now (kinds_of c.args.f) _ _ (ap length c.as_slice.ensures) (ap length c.kinds_of-kinds.ensures) c.if-as_slice-kinds.false) (does_next _ _ (rw (c.kinds_of-kinds.ensures, c.as_slice-2.ensures) at c.in_ok-turned.ensures) (does_next _ _ ((rw (c.as_slice-3.ensures) at c.in_ok-take_all.ensures) _ _ _) (does_next _ _ ((rw (c.as_slice-4.ensures) at c.in_ok-answer.ensures) _ _ _) (does_exit _ _ _ c.from_residual-in_err-charge.ensures.1 (does_act _ _ _ _ (rw (c.cost.ensures) at c.in_err-charge.ensures.acts))))))

pub returns : goal.returns
returns g c =
    does_yes _ _ _ (same_count c.args.args.now (kinds_of c.args.f) _ _ (ap length c.as_slice.ensures) (ap length c.kinds_of-kinds.ensures) c.if-as_slice-kinds.false) (does_next _ _ (rw (c.kinds_of-kinds.ensures, c.as_slice-2.ensures) at c.in_ok-turned.ensures) (does_next _ _ ((rw (c.as_slice-3.ensures) at c.in_ok-take_all.ensures) _ _ _) (does_next _ _ ((rw (c.as_slice-4.ensures) at c.in_ok-answer.ensures) _ _ _) (does_next _ _ (does_act _ _ _ _ (rw (c.cost.ensures) at c.in_ok-charge.ensures.acts)) (does_given _ _ (sym (value_of-tree_of _)))))))

use Rattle.resin_eval_queries.specs.Under.meaning_forms.Channels.{is_count}
use Rattle.resin_eval_queries.proofs.eval_nested_lemmas.Arms.{does_no, does_yes}
use Rattle.resin_eval_queries.proofs.eval_nested_lemmas.Arguments.{counted_as}
use Rattle.resin_eval_queries.proofs.meaning_lemmas.Composition.{does_exit, does_next}
use Rattle.std.proofs.Common.{ap, length}
use Rattle.resin_eval_channels.proofs.channels.Sender.channel_function.Goals as goal

pub returns-in_err-may_run : goal.returns-in_err-may_run
returns-in_err-may_run g c =
    does_exit _ _ _ c.from_residual.ensures.1 ((c.in_err-may_run.ensures) _ _ _)

pub returns-then-not-is_count : goal.returns-then-not-is_count
returns-then-not-is_count g c =
    does_next _ _ ((c.in_ok-may_run.ensures) _ _ _) (does_no _ _ _ (counted_as (λ n. is_count c.args.f n) c.args.args.now _ _ _ c.is_count.ensures (ap length c.as_slice.ensures) c.if-not-is_count.true) (c.miscounted.ensures _ _ _))

pub returns-in_err-turned : goal.returns-in_err-turned
returns-in_err-turned g c =
    does_next _ _ ((c.in_ok-may_run.ensures) _ _ _) (does_yes _ _ _ (counted_as (λ n. is_count c.args.f n) c.args.args.now _ _ _ c.is_count.ensures (ap length c.as_slice.ensures) c.if-not-is_count.false) (does_exit _ _ _ c.from_residual-in_err-turned.ensures.1 (rw (c.channel_kinds-kinds.ensures, c.as_slice-2.ensures) at c.in_err-turned.ensures)))

pub returns-in_err-charge_all : goal.returns-in_err-charge_all
returns-in_err-charge_all g c =
    does_next _ _ ((c.in_ok-may_run.ensures) _ _ _) (does_yes _ _ _ (counted_as (λ n. is_count c.args.f n) c.args.args.now _ _ _ c.is_count.ensures (ap length c.as_slice.ensures) c.if-not-is_count.false) (does_next _ _ (rw (c.channel_kinds-kinds.ensures, c.as_slice-2.ensures) at c.in_ok-turned.ensures) (does_exit _ _ _ c.from_residual-in_err-charge_all.ensures.1 ((rw (c.as_slice-3.ensures) at c.in_err-charge_all.ensures) _ _ _))))

pub returns-in_err-answer : goal.returns-in_err-answer
returns-in_err-answer g c =
    does_next _ _ ((c.in_ok-may_run.ensures) _ _ _) (does_yes _ _ _ (counted_as (λ n. is_count c.args.f n) c.args.args.now _ _ _ c.is_count.ensures (ap length c.as_slice.ensures) c.if-not-is_count.false) (does_next _ _ (rw (c.channel_kinds-kinds.ensures, c.as_slice-2.ensures) at c.in_ok-turned.ensures) (does_next _ _ ((rw (c.as_slice-3.ensures) at c.in_ok-charge_all.ensures) _ _ _) (does_exit _ _ _ c.from_residual-in_err-answer.ensures.1 (rw (c.as_slice-4.ensures) at c.in_err-answer.ensures)))))

pub returns : goal.returns
returns g c =
    does_next _ _ ((c.in_ok-may_run.ensures) _ _ _) (does_yes _ _ _ (counted_as (λ n. is_count c.args.f n) c.args.args.now _ _ _ c.is_count.ensures (ap length c.as_slice.ensures) c.if-not-is_count.false) (does_next _ _ (rw (c.channel_kinds-kinds.ensures, c.as_slice-2.ensures) at c.in_ok-turned.ensures) (does_next _ _ ((rw (c.as_slice-3.ensures) at c.in_ok-charge_all.ensures) _ _ _) (does_next _ _ (rw (c.as_slice-4.ensures) at c.in_ok-answer.ensures) (c.given.ensures _ _ _)))))

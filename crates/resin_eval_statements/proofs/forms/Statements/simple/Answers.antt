use Rattle.std.proofs.Common.{sym, ap}
use Rattle.resin_eval_writes.proofs.meaning_lemmas.Composition.{does_next, does_exit, does_act, does_give}
use Rattle.resin_eval_statements.proofs.Arms.{does_exited}
use Rattle.resin_eval_writes.proofs.eval_nested_lemmas.Exits.{does_is}
use Rattle.resin_eval_writes.specs.Under.meaning_forms.Programs.{evals}
use Rattle.resin_eval_writes.specs.Under.meaning_forms.Statements.{returned, echo_all, unset_all, simple_form}
use Rattle.resin_eval_statements.proofs.forms.Statements.simple.Goals as goal

pub returns-in_err-inline-in-Inline : goal.returns-in_err-inline-in-Inline
returns-in_err-inline-in-Inline g c =
    does_is (ap (simple_form (evals c.args.self.now.by.now.room)) c.in-Inline.is) (does_exit _ _ _ c.from_residual.ensures.1 (rw (c.as_slice.ensures) at c.in_err-inline-in-Inline.ensures))

pub returns-in_ok-inline-in-Inline : goal.returns-in_ok-inline-in-Inline
returns-in_ok-inline-in-Inline g c =
    does_is (ap (simple_form (evals c.args.self.now.by.now.room)) c.in-Inline.is) (does_next _ _ (rw (c.as_slice.ensures) at c.in_ok-inline-in-Inline.ensures) (does_give _ _))

pub returns-in_err-_v-in-Do : goal.returns-in_err-_v-in-Do
returns-in_err-_v-in-Do g c =
    does_is (ap (simple_form (evals c.args.self.now.by.now.room)) c.in-Do.is) (does_exit _ _ _ c.from_residual-in_err-_v-in-Do.ensures.1 (c.in_err-_v-in-Do.ensures.does))

pub returns-in_ok-_v-in-Do : goal.returns-in_ok-_v-in-Do
returns-in_ok-_v-in-Do g c =
    does_is (ap (simple_form (evals c.args.self.now.by.now.room)) c.in-Do.is) (does_next _ _ (c.in_ok-_v-in-Do.ensures.does) (does_give _ _))

pub returns-in-Echo : goal.returns-in-Echo
returns-in-Echo g c =
    does_is (ap (simple_form (evals c.args.self.now.by.now.room)) c.in-Echo.is) (does_is (ap (echo_all (evals c.args.self.now.by.now.room)) (sym c.as_slice-in-Echo.ensures)) c.echo_all.ensures)

pub returns-in-None : goal.returns-in-None
returns-in-None g c =
    does_is (ap (simple_form (evals c.args.self.now.by.now.room)) c.in-Return.is) (does_is (ap (returned (evals c.args.self.now.by.now.room)) c.in-None.is) (does_give _ _))

pub returns-in_err-v-in-Some : goal.returns-in_err-v-in-Some
returns-in_err-v-in-Some g c =
    does_is (ap (simple_form (evals c.args.self.now.by.now.room)) c.in-Return.is) (does_is (ap (returned (evals c.args.self.now.by.now.room)) c.in-Some.is) (does_exit _ _ _ c.from_residual-in_err-v-in-Some.ensures.1 (c.in_err-v-in-Some.ensures.does)))

pub returns-in_ok-v-in-Some : goal.returns-in_ok-v-in-Some
returns-in_ok-v-in-Some g c =
    does_is (ap (simple_form (evals c.args.self.now.by.now.room)) c.in-Return.is) (does_is (ap (returned (evals c.args.self.now.by.now.room)) c.in-Some.is) (does_next _ _ (c.in_ok-v-in-Some.ensures.does) (does_give _ _)))

pub returns-in_err-v-in-Throw : goal.returns-in_err-v-in-Throw
returns-in_err-v-in-Throw g c =
    does_is (ap (simple_form (evals c.args.self.now.by.now.room)) c.in-Throw.is) (does_exit _ _ _ c.from_residual-in_err-v-in-Throw.ensures.1 (c.in_err-v-in-Throw.ensures.does))

pub returns-in_ok-v-in-Throw : goal.returns-in_ok-v-in-Throw
returns-in_ok-v-in-Throw g c =
    does_is (ap (simple_form (evals c.args.self.now.by.now.room)) c.in-Throw.is) (does_next _ _ (c.in_ok-v-in-Throw.ensures.does) (c.throw.ensures _ _ _))

pub returns-in-Break : goal.returns-in-Break
returns-in-Break g c =
    does_is (ap (simple_form (evals c.args.self.now.by.now.room)) c.in-Break.is) (does_give _ _)

pub returns-in-Continue : goal.returns-in-Continue
returns-in-Continue g c =
    does_is (ap (simple_form (evals c.args.self.now.by.now.room)) c.in-Continue.is) (does_give _ _)

pub returns-in-Unset : goal.returns-in-Unset
returns-in-Unset g c =
    does_is (ap (simple_form (evals c.args.self.now.by.now.room)) c.in-Unset.is) (does_is (ap (unset_all (evals c.args.self.now.by.now.room)) (sym c.as_slice-in-Unset.ensures)) c.unset_all.ensures)

pub returns-in-Global : goal.returns-in-Global
returns-in-Global g c =
    does_is (ap (simple_form (evals c.args.self.now.by.now.room)) c.in-Global.is) ((rw (c.as_slice-in-Global.ensures) at c.bind_all.ensures) _ _ _)

pub returns-in_err-awake-in-Exit : goal.returns-in_err-awake-in-Exit
returns-in_err-awake-in-Exit g c =
    does_is (ap (simple_form (evals c.args.self.now.by.now.room)) c.in-Exit.is) (does_exit _ _ _ c.from_residual-in_err-awake-in-Exit.ensures.1 (does_act _ _ _ _ c.in_err-awake-in-Exit.ensures.acts))

pub returns-in_ok-awake-in-Exit : goal.returns-in_ok-awake-in-Exit
returns-in_ok-awake-in-Exit g c =
    does_is (ap (simple_form (evals c.args.self.now.by.now.room)) c.in-Exit.is) (does_next _ _ (does_act _ _ _ _ c.in_ok-awake-in-Exit.ensures.acts) (does_exited _))

use Rattle.std.proofs.Common.{sym, ap, ◌∙◌}
use Rattle.std.specs.Prelude.{not}
use Rattle.resin_eval_calls.proofs.meaning_lemmas.Composition.{does_next, does_exit, does_give}
use Rattle.resin_eval_calls.proofs.eval_nested_lemmas.Arms.{does_given, does_yes, does_no}
use Rattle.resin_eval_calls.proofs.eval_nested_lemmas.Exits.{does_is}
use Rattle.resin_interp.proofs.Shapes.{and_means, or_means, coalesce_means, choice_means, either_means, isset_means, empty_means}
use Rattle.resin_eval_calls.specs.Under.meaning_forms.Programs.{evals}
use Rattle.resin_eval_calls.specs.Under.value.declared.value.Value.TheVariants.{Bool as Boolean}
use Rattle.resin_eval_calls.specs.Under.meaning_forms.Expressions.{all_set}
use Rattle.resin_interp.proofs.run.Interpreter.test.Goals as goal

pub returns-in_err-x-in-And : goal.returns-in_err-x-in-And
returns-in_err-x-in-And g c =
    does_is (and_means (evals c.args.self.now.by.now.room) c.args.t.now _ _ c.in-And.is) (does_exit _ _ _ c.from_residual.ensures.1 (does_is (ap (evals c.args.self.now.by.now.room).expr (sym c.get.ensures)) c.in_err-x-in-And.ensures.does))

pub returns-then-not-truth : goal.returns-then-not-truth
returns-then-not-truth g c =
    does_is (and_means (evals c.args.self.now.by.now.room) c.args.t.now _ _ c.in-And.is) (does_next _ _ (does_is (ap (evals c.args.self.now.by.now.room).expr (sym c.get.ensures)) c.in_ok-x-in-And.ensures.does) (does_no _ _ _ (sym c.truth.ensures ∙ c.if-not-truth.true) (does_give _ _)))

pub returns-in_err-y-in-And : goal.returns-in_err-y-in-And
returns-in_err-y-in-And g c =
    does_is (and_means (evals c.args.self.now.by.now.room) c.args.t.now _ _ c.in-And.is) (does_next _ _ (does_is (ap (evals c.args.self.now.by.now.room).expr (sym c.get.ensures)) c.in_ok-x-in-And.ensures.does) (does_yes _ _ _ (sym c.truth.ensures ∙ c.if-not-truth.false) (does_exit _ _ _ c.from_residual-in_err-y-in-And.ensures.1 (does_is (ap (evals c.args.self.now.by.now.room).expr (sym c.get-in-And.ensures)) c.in_err-y-in-And.ensures.does))))

pub returns-in_ok-y-in-And : goal.returns-in_ok-y-in-And
returns-in_ok-y-in-And g c =
    does_is (and_means (evals c.args.self.now.by.now.room) c.args.t.now _ _ c.in-And.is) (does_next _ _ (does_is (ap (evals c.args.self.now.by.now.room).expr (sym c.get.ensures)) c.in_ok-x-in-And.ensures.does) (does_yes _ _ _ (sym c.truth.ensures ∙ c.if-not-truth.false) (does_next _ _ (does_is (ap (evals c.args.self.now.by.now.room).expr (sym c.get-in-And.ensures)) c.in_ok-y-in-And.ensures.does) (does_given _ _ (ap Boolean c.truth-in-And.ensures)))))

pub returns-in_err-x-in-Or : goal.returns-in_err-x-in-Or
returns-in_err-x-in-Or g c =
    does_is (or_means (evals c.args.self.now.by.now.room) c.args.t.now _ _ c.in-Or.is) (does_exit _ _ _ c.from_residual-in_err-x-in-Or.ensures.1 (does_is (ap (evals c.args.self.now.by.now.room).expr (sym c.get-in-Or.ensures)) c.in_err-x-in-Or.ensures.does))

pub returns-then-truth : goal.returns-then-truth
returns-then-truth g c =
    does_is (or_means (evals c.args.self.now.by.now.room) c.args.t.now _ _ c.in-Or.is) (does_next _ _ (does_is (ap (evals c.args.self.now.by.now.room).expr (sym c.get-in-Or.ensures)) c.in_ok-x-in-Or.ensures.does) (does_yes _ _ _ (sym c.truth-in-Or.ensures ∙ c.if-truth.true) (does_give _ _)))

pub returns-in_err-y-in-Or : goal.returns-in_err-y-in-Or
returns-in_err-y-in-Or g c =
    does_is (or_means (evals c.args.self.now.by.now.room) c.args.t.now _ _ c.in-Or.is) (does_next _ _ (does_is (ap (evals c.args.self.now.by.now.room).expr (sym c.get-in-Or.ensures)) c.in_ok-x-in-Or.ensures.does) (does_no _ _ _ (sym c.truth-in-Or.ensures ∙ c.if-truth.false) (does_exit _ _ _ c.from_residual-in_err-y-in-Or.ensures.1 (does_is (ap (evals c.args.self.now.by.now.room).expr (sym c.get-in-Or-2.ensures)) c.in_err-y-in-Or.ensures.does))))

pub returns-in_ok-y-in-Or : goal.returns-in_ok-y-in-Or
returns-in_ok-y-in-Or g c =
    does_is (or_means (evals c.args.self.now.by.now.room) c.args.t.now _ _ c.in-Or.is) (does_next _ _ (does_is (ap (evals c.args.self.now.by.now.room).expr (sym c.get-in-Or.ensures)) c.in_ok-x-in-Or.ensures.does) (does_no _ _ _ (sym c.truth-in-Or.ensures ∙ c.if-truth.false) (does_next _ _ (does_is (ap (evals c.args.self.now.by.now.room).expr (sym c.get-in-Or-2.ensures)) c.in_ok-y-in-Or.ensures.does) (does_given _ _ (ap Boolean c.truth-in-Or-2.ensures)))))

pub returns-in_err-x-in-Coalesce : goal.returns-in_err-x-in-Coalesce
returns-in_err-x-in-Coalesce g c =
    does_is (coalesce_means (evals c.args.self.now.by.now.room) c.args.t.now _ _ c.in-Coalesce.is) (does_exit _ _ _ c.from_residual-in_err-x-in-Coalesce.ensures.1 (does_is (ap (evals c.args.self.now.by.now.room).soft (sym c.get-in-Coalesce.ensures)) c.in_err-x-in-Coalesce.ensures))

pub returns-then-is_nothing : goal.returns-then-is_nothing
returns-then-is_nothing g c =
    does_is (coalesce_means (evals c.args.self.now.by.now.room) c.args.t.now _ _ c.in-Coalesce.is) (does_next _ _ (does_is (ap (evals c.args.self.now.by.now.room).soft (sym c.get-in-Coalesce.ensures)) c.in_ok-x-in-Coalesce.ensures) (does_yes _ _ _ (sym c.is_nothing.ensures ∙ c.if-is_nothing.true) (does_is (ap (evals c.args.self.now.by.now.room).expr (sym c.get-then-is_nothing.ensures)) c.expr-then-is_nothing.ensures.does)))

pub returns-else-is_nothing : goal.returns-else-is_nothing
returns-else-is_nothing g c =
    does_is (coalesce_means (evals c.args.self.now.by.now.room) c.args.t.now _ _ c.in-Coalesce.is) (does_next _ _ (does_is (ap (evals c.args.self.now.by.now.room).soft (sym c.get-in-Coalesce.ensures)) c.in_ok-x-in-Coalesce.ensures) (does_no _ _ _ (sym c.is_nothing.ensures ∙ c.if-is_nothing.false) (does_give _ _)))

pub returns-in_err-x-in-Choice : goal.returns-in_err-x-in-Choice
returns-in_err-x-in-Choice g c =
    does_is (choice_means (evals c.args.self.now.by.now.room) c.args.t.now _ _ _ c.in-Choice.is) (does_exit _ _ _ c.from_residual-in_err-x-in-Choice.ensures.1 (does_is (ap (evals c.args.self.now.by.now.room).expr (sym c.get-in-Choice.ensures)) c.in_err-x-in-Choice.ensures.does))

pub returns-then-truth-2 : goal.returns-then-truth-2
returns-then-truth-2 g c =
    does_is (choice_means (evals c.args.self.now.by.now.room) c.args.t.now _ _ _ c.in-Choice.is) (does_next _ _ (does_is (ap (evals c.args.self.now.by.now.room).expr (sym c.get-in-Choice.ensures)) c.in_ok-x-in-Choice.ensures.does) (does_yes _ _ _ (sym c.truth-in-Choice.ensures ∙ c.if-truth-2.true) (does_is (ap (evals c.args.self.now.by.now.room).expr (sym c.get-then-truth-2.ensures)) c.expr-then-truth-2.ensures.does)))

pub returns-else-truth-2 : goal.returns-else-truth-2
returns-else-truth-2 g c =
    does_is (choice_means (evals c.args.self.now.by.now.room) c.args.t.now _ _ _ c.in-Choice.is) (does_next _ _ (does_is (ap (evals c.args.self.now.by.now.room).expr (sym c.get-in-Choice.ensures)) c.in_ok-x-in-Choice.ensures.does) (does_no _ _ _ (sym c.truth-in-Choice.ensures ∙ c.if-truth-2.false) (does_is (ap (evals c.args.self.now.by.now.room).expr (sym c.get-in-Choice-2.ensures)) c.expr-in-Choice-2.ensures.does)))

pub returns-in_err-x-in-Either : goal.returns-in_err-x-in-Either
returns-in_err-x-in-Either g c =
    does_is (either_means (evals c.args.self.now.by.now.room) c.args.t.now _ _ c.in-Either.is) (does_exit _ _ _ c.from_residual-in_err-x-in-Either.ensures.1 (does_is (ap (evals c.args.self.now.by.now.room).expr (sym c.get-in-Either.ensures)) c.in_err-x-in-Either.ensures.does))

pub returns-then-truth-3 : goal.returns-then-truth-3
returns-then-truth-3 g c =
    does_is (either_means (evals c.args.self.now.by.now.room) c.args.t.now _ _ c.in-Either.is) (does_next _ _ (does_is (ap (evals c.args.self.now.by.now.room).expr (sym c.get-in-Either.ensures)) c.in_ok-x-in-Either.ensures.does) (does_yes _ _ _ (sym c.truth-in-Either.ensures ∙ c.if-truth-3.true) (does_give _ _)))

pub returns-else-truth-3 : goal.returns-else-truth-3
returns-else-truth-3 g c =
    does_is (either_means (evals c.args.self.now.by.now.room) c.args.t.now _ _ c.in-Either.is) (does_next _ _ (does_is (ap (evals c.args.self.now.by.now.room).expr (sym c.get-in-Either.ensures)) c.in_ok-x-in-Either.ensures.does) (does_no _ _ _ (sym c.truth-in-Either.ensures ∙ c.if-truth-3.false) (does_is (ap (evals c.args.self.now.by.now.room).expr (sym c.get-in-Either-2.ensures)) c.expr-in-Either-2.ensures.does)))

pub returns-in-Isset : goal.returns-in-Isset
returns-in-Isset g c =
    does_is (isset_means (evals c.args.self.now.by.now.room) c.args.t.now _ c.in-Isset.is) (does_is (ap (all_set (evals c.args.self.now.by.now.room)) (sym c.as_slice.ensures)) c.all_set.ensures)

pub returns-in_err-x-in-Empty : goal.returns-in_err-x-in-Empty
returns-in_err-x-in-Empty g c =
    does_is (empty_means (evals c.args.self.now.by.now.room) c.args.t.now _ c.in-Empty.is) (does_exit _ _ _ c.from_residual-in_err-x-in-Empty.ensures.1 (does_is (ap (evals c.args.self.now.by.now.room).soft (sym c.get-in-Empty.ensures)) c.in_err-x-in-Empty.ensures))

pub returns-in_ok-x-in-Empty : goal.returns-in_ok-x-in-Empty
returns-in_ok-x-in-Empty g c =
    does_is (empty_means (evals c.args.self.now.by.now.room) c.args.t.now _ c.in-Empty.is) (does_next _ _ (does_is (ap (evals c.args.self.now.by.now.room).soft (sym c.get-in-Empty.ensures)) c.in_ok-x-in-Empty.ensures) (does_given _ _ (ap (λ b. Boolean (not b)) c.truth-in-Empty.ensures)))

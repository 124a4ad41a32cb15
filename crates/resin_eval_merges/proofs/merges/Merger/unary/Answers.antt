use Rattle.resin_eval_nested.specs.Under.meaning_forms.Operators.{unary}
use Rattle.resin_eval_nested.specs.Under.meaning_forms.Programs.{evals}
use Rattle.resin_eval_nested.proofs.Arms.{does_given, does_settled}
use Rattle.resin_eval_nested.proofs.Exits.{does_is}
use Rattle.resin_eval_nested.proofs.meaning_lemmas.Composition.{does_act, does_exit, does_next}
use Rattle.resin_eval_nested.proofs.step_parts_lemmas.Answered.{gives_or}
use Rattle.resin_tree.specs.declared.expression.Unary.{Unary}
use Rattle.resin_eval_nested.specs.Under.value.declared.value.Value.TheVariants.{Bool as Boolean}
use Rattle.std.proofs.Common.{ap}
use Rattle.std.specs.Prelude.{not}
use Rattle.resin_eval_merges.proofs.merges.Merger.unary.Goals as goal

pub returns-in_err-charge_one : goal.returns-in_err-charge_one
returns-in_err-charge_one g c =
    does_exit _ _ _ c.from_residual.ensures.1 (does_act _ _ _ _ c.in_err-charge_one.ensures.acts)

pub returns-in-Minus : goal.returns-in-Minus
returns-in-Minus g c =
    does_is (ap (λ (x : Unary). unary (evals c.args.self.now.by.now.room) x c.args.x.now) c.in-Minus.is) (does_next _ _ (does_act _ _ _ _ c.in_ok-charge_one.ensures.acts) (rw (c.negated.ensures) at c.signed.ensures))

pub returns-in-Plus : goal.returns-in-Plus
returns-in-Plus g c =
    does_is (ap (λ (x : Unary). unary (evals c.args.self.now.by.now.room) x c.args.x.now) c.in-Plus.is) (does_next _ _ (does_act _ _ _ _ c.in_ok-charge_one.ensures.acts) (rw (c.ruled.ensures, c.to_number.ensures) at c.signed-in-Plus.ensures))

pub returns-in-Not : goal.returns-in-Not
returns-in-Not g c =
    does_is (ap (λ (x : Unary). unary (evals c.args.self.now.by.now.room) x c.args.x.now) c.in-Not.is) (does_next _ _ (does_act _ _ _ _ c.in_ok-charge_one.ensures.acts) (does_given _ _ (ap (λ b. Boolean (not b)) c.truth.ensures)))

pub returns-in-ToInt : goal.returns-in-ToInt
returns-in-ToInt g c =
    does_is (ap (λ (x : Unary). unary (evals c.args.self.now.by.now.room) x c.args.x.now) c.in-ToInt.is) (does_next _ _ (does_act _ _ _ _ c.in_ok-charge_one.ensures.acts) (rw (c.ruled-in-ToInt.ensures, c.to_int.ensures) at c.signed-in-ToInt.ensures))

pub returns-in_err-t-in-ToText : goal.returns-in_err-t-in-ToText
returns-in_err-t-in-ToText g c =
    does_is (ap (λ (x : Unary). unary (evals c.args.self.now.by.now.room) x c.args.x.now) c.in-ToText.is) (does_next _ _ (does_act _ _ _ _ c.in_ok-charge_one.ensures.acts) (does_exit _ _ _ c.from_residual-in_err-t-in-ToText.ensures.1 (does_settled _ _ (gives_or _ _ c.to_text.ensures) c.in_err-t-in-ToText.ensures.acts)))

pub returns-in_ok-t-in-ToText : goal.returns-in_ok-t-in-ToText
returns-in_ok-t-in-ToText g c =
    does_is (ap (λ (x : Unary). unary (evals c.args.self.now.by.now.room) x c.args.x.now) c.in-ToText.is) (does_next _ _ (does_act _ _ _ _ c.in_ok-charge_one.ensures.acts) (does_next _ _ (does_settled _ _ (gives_or _ _ c.to_text.ensures) c.in_ok-t-in-ToText.ensures.acts) ((c.given.ensures) _ _ _)))

pub returns-in-ToBool : goal.returns-in-ToBool
returns-in-ToBool g c =
    does_is (ap (λ (x : Unary). unary (evals c.args.self.now.by.now.room) x c.args.x.now) c.in-ToBool.is) (does_next _ _ (does_act _ _ _ _ c.in_ok-charge_one.ensures.acts) (does_given _ _ (ap Boolean c.truth-in-ToBool.ensures)))

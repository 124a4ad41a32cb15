use Rattle.resin_meaning_forms.proofs.meaning_lemmas.Composition.{does_act, does_give}
use Rattle.resin_meaning_forms.proofs.meaning_lemmas.Enclosures.{does_on_line}
use Rattle.resin_step_parts.proofs.declarations.declare.Goals as goal

pub returns-in-Function : goal.returns-in-Function
returns-in-Function c =
    λ u t k. rw c.in-Function.is (does_on_line _ _ _ _ _ _ _ c.set_line-was.ensures.after c.set_line-was.ensures.was c.set_line-own.ensures.after (c.declare_function-end.ensures u t k))

pub returns-in-Class : goal.returns-in-Class
returns-in-Class c =
    λ u t k. rw c.in-Class.is (does_on_line _ _ _ _ _ _ _ c.set_line-was-in-Class.ensures.after c.set_line-was-in-Class.ensures.was c.set_line-own-in-Class.ensures.after (does_act _ u t k c.declare_class-end.ensures.acts))

pub returns-in-Statement : goal.returns-in-Statement
returns-in-Statement c =
    rw c.in-Statement.is (λ u t k. does_give _ _)

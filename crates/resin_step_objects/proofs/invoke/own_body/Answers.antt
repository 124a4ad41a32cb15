use Rattle.resin_step_functions.proofs.meaning_lemmas.Composition.{does_act, does_exit, does_give, does_loosely, does_next}
use Rattle.resin_step_functions.proofs.step_parts_lemmas.Answered.{does_computed}
use Rattle.resin_step_objects.proofs.invoke.own_body.Goals as goal

pub returns-in-Construct : goal.returns-in-Construct
returns-in-Construct c =
    rw c.in-Construct.is c.construct.ensures

pub returns-in-GetMessage : goal.returns-in-GetMessage
returns-in-GetMessage c =
    rw c.in-GetMessage.is (λ f t k. does_act _ f t k c.read_field.ensures.acts)

pub returns-in-GetCode : goal.returns-in-GetCode
returns-in-GetCode c =
    rw c.in-GetCode.is (λ f t k. does_act _ f t k c.read_field-in-GetCode.ensures.acts)

pub returns-in-Allow : goal.returns-in-Allow
returns-in-Allow c =
    rw c.in-Allow.is (λ f t k. does_give _ _)

pub returns-in_err-list-in-MergeToItself : goal.returns-in_err-list-in-MergeToItself
returns-in_err-list-in-MergeToItself c =
    rw c.in-MergeToItself.is (λ f t k. does_exit _ _ _ c.from_residual.ensures.1 (does_computed _ _ c.object_list.ensures c.in_err-list-in-MergeToItself.ensures.acts f t k))

pub returns-in_ok-list-in-MergeToItself : goal.returns-in_ok-list-in-MergeToItself
returns-in_ok-list-in-MergeToItself c =
    rw c.in-MergeToItself.is (λ f t k. does_next _ _ (does_computed _ _ c.object_list.ensures c.in_ok-list-in-MergeToItself.ensures.acts f t k) (does_give _ _))

pub returns-in-Refuse : goal.returns-in-Refuse
returns-in-Refuse c =
    rw c.in-Refuse.is (λ f t k. does_loosely _ f t k c.throw.ensures.acts)

pub returns-in-FilterRead : goal.returns-in-FilterRead
returns-in-FilterRead c =
    rw c.in-FilterRead.is (λ f t k. does_act _ f t k c.read.ensures.acts)

pub returns-in-FilterWrite : goal.returns-in-FilterWrite
returns-in-FilterWrite c =
    rw c.in-FilterWrite.is (λ f t k. does_act _ f t k c.read-in-FilterWrite.ensures.acts)

pub returns-in-FilterFunction : goal.returns-in-FilterFunction
returns-in-FilterFunction c =
    rw c.in-FilterFunction.is (λ f t k. does_act _ f t k c.read-in-FilterFunction.ensures.acts)

use Rattle.resin_meaning_forms.proofs.meaning_lemmas.Composition.{does_next, does_exit, does_give}
use Rattle.resin_step_parts.proofs.operators.compared.Goals as goal

pub returns-in_err-charge_two : goal.returns-in_err-charge_two
returns-in_err-charge_two c = λ f t k. does_exit _ _ _ c.from_residual.ensures.1 (c.in_err-charge_two.ensures f t k)

pub returns-in_err-order_of-in-Less : goal.returns-in_err-order_of-in-Less
returns-in_err-order_of-in-Less c = λ f t k. rw c.in-Less.is (does_next _ _ (c.in_ok-charge_two.ensures f t k) (does_exit _ _ _ c.from_residual-in_err-order_of-in-Less.ensures.1 (c.in_err-order_of-in-Less.ensures f t k)))

pub returns-in_ok-order_of-in-Less : goal.returns-in_ok-order_of-in-Less
returns-in_ok-order_of-in-Less c = λ f t k. rw c.in-Less.is (does_next _ _ (c.in_ok-charge_two.ensures f t k) (does_next _ _ (c.in_ok-order_of-in-Less.ensures f t k) (rw c.is_lt.ensures (does_give _ _))))

pub returns-in_err-order_of-in-LessOrEqual : goal.returns-in_err-order_of-in-LessOrEqual
returns-in_err-order_of-in-LessOrEqual c = λ f t k. rw c.in-LessOrEqual.is (does_next _ _ (c.in_ok-charge_two.ensures f t k) (does_exit _ _ _ c.from_residual-in_err-order_of-in-LessOrEqual.ensures.1 (c.in_err-order_of-in-LessOrEqual.ensures f t k)))

pub returns-in_ok-order_of-in-LessOrEqual : goal.returns-in_ok-order_of-in-LessOrEqual
returns-in_ok-order_of-in-LessOrEqual c = λ f t k. rw c.in-LessOrEqual.is (does_next _ _ (c.in_ok-charge_two.ensures f t k) (does_next _ _ (c.in_ok-order_of-in-LessOrEqual.ensures f t k) (rw c.is_le.ensures (does_give _ _))))

pub returns-in_err-order_of-in-Greater : goal.returns-in_err-order_of-in-Greater
returns-in_err-order_of-in-Greater c = λ f t k. rw c.in-Greater.is (does_next _ _ (c.in_ok-charge_two.ensures f t k) (does_exit _ _ _ c.from_residual-in_err-order_of-in-Greater.ensures.1 (c.in_err-order_of-in-Greater.ensures f t k)))

pub returns-in_ok-order_of-in-Greater : goal.returns-in_ok-order_of-in-Greater
returns-in_ok-order_of-in-Greater c = λ f t k. rw c.in-Greater.is (does_next _ _ (c.in_ok-charge_two.ensures f t k) (does_next _ _ (c.in_ok-order_of-in-Greater.ensures f t k) (rw c.is_gt.ensures (does_give _ _))))

pub returns-in_err-order_of-in-GreaterOrEqual : goal.returns-in_err-order_of-in-GreaterOrEqual
returns-in_err-order_of-in-GreaterOrEqual c = λ f t k. rw c.in-GreaterOrEqual.is (does_next _ _ (c.in_ok-charge_two.ensures f t k) (does_exit _ _ _ c.from_residual-in_err-order_of-in-GreaterOrEqual.ensures.1 (c.in_err-order_of-in-GreaterOrEqual.ensures f t k)))

pub returns-in_ok-order_of-in-GreaterOrEqual : goal.returns-in_ok-order_of-in-GreaterOrEqual
returns-in_ok-order_of-in-GreaterOrEqual c = λ f t k. rw c.in-GreaterOrEqual.is (does_next _ _ (c.in_ok-charge_two.ensures f t k) (does_next _ _ (c.in_ok-order_of-in-GreaterOrEqual.ensures f t k) (rw c.is_ge.ensures (does_give _ _))))

pub returns-in_err-are_equal-in-Equal : goal.returns-in_err-are_equal-in-Equal
returns-in_err-are_equal-in-Equal c = λ f t k. rw c.in-Equal.is (does_next _ _ (c.in_ok-charge_two.ensures f t k) (does_exit _ _ _ c.from_residual-in_err-are_equal-in-Equal.ensures.1 (c.in_err-are_equal-in-Equal.ensures f t k)))

pub returns-in_ok-are_equal-in-Equal : goal.returns-in_ok-are_equal-in-Equal
returns-in_ok-are_equal-in-Equal c = λ f t k. rw c.in-Equal.is (does_next _ _ (c.in_ok-charge_two.ensures f t k) (does_next _ _ (c.in_ok-are_equal-in-Equal.ensures f t k) (does_give _ _)))

pub returns-in_err-are_equal-in-NotEqual : goal.returns-in_err-are_equal-in-NotEqual
returns-in_err-are_equal-in-NotEqual c = λ f t k. rw c.in-NotEqual.is (does_next _ _ (c.in_ok-charge_two.ensures f t k) (does_exit _ _ _ c.from_residual-in_err-are_equal-in-NotEqual.ensures.1 (c.in_err-are_equal-in-NotEqual.ensures f t k)))

pub returns-in_ok-are_equal-in-NotEqual : goal.returns-in_ok-are_equal-in-NotEqual
returns-in_ok-are_equal-in-NotEqual c = λ f t k. rw c.in-NotEqual.is (does_next _ _ (c.in_ok-charge_two.ensures f t k) (does_next _ _ (c.in_ok-are_equal-in-NotEqual.ensures f t k) (does_give _ _)))

pub returns-in_err-are_identical-in-Identical : goal.returns-in_err-are_identical-in-Identical
returns-in_err-are_identical-in-Identical c = λ f t k. rw c.in-Identical.is (does_next _ _ (c.in_ok-charge_two.ensures f t k) (does_exit _ _ _ c.from_residual-in_err-are_identical-in-Identical.ensures.1 (c.in_err-are_identical-in-Identical.ensures f t k)))

pub returns-in_ok-are_identical-in-Identical : goal.returns-in_ok-are_identical-in-Identical
returns-in_ok-are_identical-in-Identical c = λ f t k. rw c.in-Identical.is (does_next _ _ (c.in_ok-charge_two.ensures f t k) (does_next _ _ (c.in_ok-are_identical-in-Identical.ensures f t k) (does_give _ _)))

pub returns-in_err-are_identical-in-NotIdentical : goal.returns-in_err-are_identical-in-NotIdentical
returns-in_err-are_identical-in-NotIdentical c = λ f t k. rw c.in-NotIdentical.is (does_next _ _ (c.in_ok-charge_two.ensures f t k) (does_exit _ _ _ c.from_residual-in_err-are_identical-in-NotIdentical.ensures.1 (c.in_err-are_identical-in-NotIdentical.ensures f t k)))

pub returns-in_ok-are_identical-in-NotIdentical : goal.returns-in_ok-are_identical-in-NotIdentical
returns-in_ok-are_identical-in-NotIdentical c = λ f t k. rw c.in-NotIdentical.is (does_next _ _ (c.in_ok-charge_two.ensures f t k) (does_next _ _ (c.in_ok-are_identical-in-NotIdentical.ensures f t k) (does_give _ _)))

pub returns-in_err-order_of-in-Compare : goal.returns-in_err-order_of-in-Compare
returns-in_err-order_of-in-Compare c = λ f t k. rw c.in-Compare.is (does_next _ _ (c.in_ok-charge_two.ensures f t k) (does_exit _ _ _ c.from_residual-in_err-order_of-in-Compare.ensures.1 (c.in_err-order_of-in-Compare.ensures f t k)))

pub returns-in_ok-order_of-in-Compare : goal.returns-in_ok-order_of-in-Compare
returns-in_ok-order_of-in-Compare c = λ f t k. rw c.in-Compare.is (does_next _ _ (c.in_ok-charge_two.ensures f t k) (does_next _ _ (c.in_ok-order_of-in-Compare.ensures f t k) (rw c.sign_of.ensures (does_give _ _))))

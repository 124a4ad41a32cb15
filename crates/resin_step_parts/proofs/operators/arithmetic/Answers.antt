use Rattle.std.proofs.Common.{refl}
use Rattle.resin_step_parts.proofs.operators.arithmetic.Goals as goal

pub returns-in-Multiply : goal.returns-in-Multiply
returns-in-Multiply c = λ ev x y. rw c.in-Multiply.is refl

pub returns-in-Divide : goal.returns-in-Divide
returns-in-Divide c = λ ev x y. rw c.in-Divide.is refl

pub returns-in-Remainder : goal.returns-in-Remainder
returns-in-Remainder c = λ ev x y. rw c.in-Remainder.is refl

pub returns-in-Add : goal.returns-in-Add
returns-in-Add c = λ ev x y. rw c.in-Add.is refl

pub returns-in-Subtract : goal.returns-in-Subtract
returns-in-Subtract c = λ ev x y. rw c.in-Subtract.is refl

pub returns-in-Concat : goal.returns-in-Concat
returns-in-Concat c = λ ev x y. rw c.in-Concat.is refl

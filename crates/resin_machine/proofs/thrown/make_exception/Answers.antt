use Rattle.resin_machine.proofs.Throw_steps.{field_given, is_last, exception_made}
use Rattle.resin_machine.proofs.thrown.make_exception.Goals as goal

pub set-requires : goal.set-requires
set-requires c = is_last _ _ _ _ c.in_ok-o.ensures.made c.in_ok-o.ensures.number

pub set-requires-2 : goal.set-requires-2
set-requires-2 c = is_last _ _ _ _ (field_given _ _ _ _ _ _ _ _ c.in_ok-o.ensures.made c.in_ok-o.ensures.number c.in_ok-set.ensures.ok) c.in_ok-o.ensures.number

pub returns-clause-made : goal.returns-clause-made
returns-clause-made c = exception_made _ _ _ _ _ _ c.number.ensures c.empty.ensures (field_given _ _ _ _ _ _ _ _ (field_given _ _ _ _ _ _ _ _ c.in_ok-o.ensures.made c.in_ok-o.ensures.number c.in_ok-set.ensures.ok) c.in_ok-o.ensures.number c.in_ok-set-2.ensures.ok)

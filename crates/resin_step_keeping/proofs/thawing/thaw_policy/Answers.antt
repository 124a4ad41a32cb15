use Rattle.std.proofs.Common.{Some, None, sym, ◌∙◌}
use Rattle.resin_step_keeping.proofs.Thaws.{policy_unread, remade_is}
use Rattle.resin_step_keeping.proofs.thawing.thaw_policy.Goals as goal

pub returns-in_err-class : goal.returns-in_err-class
returns-in_err-class c = policy_unread c.args.text.now _ _ c.from_residual.ensures.1

pub returns-in-Some : goal.returns-in-Some
returns-in-Some c = remade_is c.args.text.now (c.in_ok-class.class, c.in_ok-class.fields) (Some c.in-Some.class) _ _ _ c.in_ok-class.ensures (sym c.in-Some.is ∙ rw c.as_slice-name.ensures at c.policy_class.ensures) c.make_policy.ensures

pub returns : goal.returns
returns c = remade_is c.args.text.now (c.in_ok-class.class, c.in_ok-class.fields) None _ _ _ c.in_ok-class.ensures (sym c.in-None.is ∙ rw c.as_slice-name.ensures at c.policy_class.ensures) (rw c.as_slice-name.ensures at c.make_lost.ensures)

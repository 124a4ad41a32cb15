use Rattle.resin_eval_writes.proofs.Exits.{does_unasked}
use Rattle.std.proofs.Common.{◌∙◌}
use Rattle.resin_eval_writes.proofs.writes.Writer.ask_policies.Goals as goal

pub returns-in_err-policies-clause-does : goal.returns-in_err-policies-clause-does
returns-in_err-policies-clause-does g c =
    does_unasked _ _ _ _ _ _ c.from_residual.ensures.1

pub ask_each-requires-clause-begun : goal.ask_each-requires-clause-begun
ask_each-requires-clause-begun g c =
    c.requires.begun

pub ask_each-requires-clause-leaving : goal.ask_each-requires-clause-leaving
ask_each-requires-clause-leaving g c =
    c.requires.leaving

pub ask_each-requires-clause-order : goal.ask_each-requires-clause-order
ask_each-requires-clause-order g c =
    c.as_slice.ensures ∙ c.in_ok-policies.ensures

pub returns-clause-does : goal.returns-clause-does
returns-clause-does g c =
    rw (c.as_slice.ensures, c.in_ok-policies.ensures) at c.ask_each.ensures.does

pub returns-clause-passed : goal.returns-clause-passed
returns-clause-passed g c =
    rw (c.as_slice.ensures, c.in_ok-policies.ensures) at c.ask_each.ensures.passed

use Rattle.std.proofs.Common.{arith}
use Rattle.std.proofs.lemmas.List.{length-map}
use Rattle.resin_interp.proofs.meaning_lemmas.Composition.{does_exit, does_give, does_next}
use Rattle.resin_request.proofs.request.run_source.Goals as goal

pub read-requires : goal.read-requires
read-requires g c =
    rw (c.bytes.ensures, length-map) (omega (arith, c.len-len.ensures.value, c.len-len.ensures.short))

pub returns-in_err-p : goal.returns-in_err-p
returns-in_err-p g c =
    does_exit _ _ _ c.from_residual.ensures.1 ((rw c.bytes.ensures at c.in_err-p.ensures) _)

pub returns-in_err-_flow : goal.returns-in_err-_flow
returns-in_err-_flow g c =
    does_next _ _ ((rw c.bytes.ensures at c.in_ok-p.ensures) _) (does_exit _ _ _ c.from_residual-in_err-_flow.ensures.1 (rw c.get.ensures at c.in_err-_flow.ensures))

pub returns : goal.returns
returns g c =
    does_next _ _ ((rw c.bytes.ensures at c.in_ok-p.ensures) _) (does_next _ _ (rw c.get.ensures at c.in_ok-_flow.ensures) (does_give _ _))

use Rattle.resin_http.proofs.WaitLemmas.{waits}
use Rattle.resin_http.proofs.stream.next_marked.Goals as goal

pub returns-then-awaits-clause-steps : goal.returns-then-awaits-clause-steps
returns-then-awaits-clause-steps c =
    waits c.args.stream.now (c.in-Body.end, c.in-Body.body) (rw c.in-Body.is at c.requires) (c.awaits.ensures c.if-awaits.true)

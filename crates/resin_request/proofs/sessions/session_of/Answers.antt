use Rattle.std.proofs.Common.{ap, ◌∙◌}
use Rattle.resin_request.specs.Sessions.{named_by}
use Rattle.resin_request.proofs.sessions.session_of.Goals as goal

pub returns : goal.returns
returns c = c.named_by.ensures ∙ ap named_by (rw c.in_ok-from_slice.ensures at c.get.ensures)

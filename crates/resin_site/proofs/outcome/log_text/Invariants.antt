-- what is left of the journal has the rest of the log
use Rattle.std.proofs.Common.{◌≡◌, ◌++◌, drop}
use Rattle.resin_request.specs.Under.journal.Lines.{log_of}
use Rattle.resin_site.proofs.outcome.log_text.Given as goal

abbrev pub invariant-loop-event : goal.invariant-loop-event
invariant-loop-event l = l.text ++ log_of l.number (drop l.event-index l.events) ≡ log_of l.number l.events

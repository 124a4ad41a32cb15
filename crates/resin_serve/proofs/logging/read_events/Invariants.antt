-- The events so far can be told.
use Rattle.std.proofs.Common.{take}
use Rattle.resin_site.specs.Under.journal.Access.{ClassesAreNames}
use Rattle.resin_audit.specs.Under.journal_file.Limits.{Each, CanBeTold}
use Rattle.resin_serve.proofs.logging.read_events.Given as goal

abbrev pub invariant-loop-event : goal.invariant-loop-event
invariant-loop-event l = ClassesAreNames l.events → Each CanBeTold (take l.event-index l.events)

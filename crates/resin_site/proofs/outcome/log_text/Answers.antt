use Rattle.std.proofs.Common.{arith, ap, sym, ◌∙◌, refl}
use Rattle.resin_request.specs.Under.journal.Lines.{log_of}
use Rattle.resin_request.proofs.meaning_lemmas.Composition.{front}
use Rattle.resin_site.proofs.Made.{logged, logged_all}
use Rattle.resin_site.proofs.outcome.log_text.Goals as goal

pub loop-event-init : goal.loop-event-init
loop-event-init c = rw c.new-text.ensures refl

pub loop-event-preserved : goal.loop-event-preserved
loop-event-preserved c =
    logged c.args.number c.as_slice-events.result.now c.loop-event.event-index c.event-item.result c.loop-event.text _
    (front c.as_slice-events.result.now c.loop-event.event-index c.event-item.result c.loop-event-test.true c.event-item.is) c.in_ok-push_line.ensures c.loop-event.invariant

pub returns : goal.returns
returns c =
    logged_all c.args.number c.as_slice-events.result.now c.loop-event.event-index c.loop-event.text (omega (arith, c.loop-event-test.false)) c.loop-event.invariant
    ∙ ap (log_of c.args.number) c.as_slice-events.ensures

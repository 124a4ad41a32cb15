use Rattle.std.proofs.Common.{◌<◌, ◌+◌, take, length, get_or, sym, subst, arith}
use Rattle.std.proofs.lemmas.List.{take_more, take_all}
use Rattle.resin_site.specs.Under.journal.Access.{TellsNames}
use Rattle.resin_audit.specs.Under.journal_file.Limits.{Each, CanBeTold}
use Rattle.resin_serve.proofs.Telling.{each_more, names_at}
use Rattle.resin_serve.proofs.logging.read_events.Goals as goal

pub loop-event-preserved : goal.loop-event-preserved
loop-event-preserved c = λ names.
    let es = c.args.events.now in
    let k = c.loop-event.event-index in
    let d = c.event-item.result in
    let lt : k < length es = omega arith in
    each_more CanBeTold (take k es) (take (k + 1) es) (get_or es k d) (take_more es k d lt) (c.loop-event.invariant names)
    (subst CanBeTold c.event-item.is (c.read_event.ensures (subst TellsNames (sym c.event-item.is) (names_at es k d lt names))))

pub returns : goal.returns
returns c = λ names. subst (Each CanBeTold) (take_all c.loop-event.event-index c.args.events.now (omega arith)) (c.loop-event.invariant names)

use Rattle.std.proofs.Common.{arith, sym, ap, subst, ◌∙◌, ◌≡◌, ◌+◌, ◌≤◌, length}
use Rattle.resin_trace.specs.Records.{limit}
use Rattle.resin_trace.specs.Seen.{Seen}
use Rattle.resin_trace.specs.Reads.{BreaksAt}
use Rattle.resin_trace.proofs.Feeding.{finish_long, finish_good, finish_short, finish_stuck}
use Rattle.resin_trace.proofs.reader.TraceReader.finish.Goals as goal
use Rattle.resin_trace.proofs.reader.TraceReader.finish.Goals.{then-self+else-tail, else-self+else-tail-text}

pub returns-then-tail : goal.returns-then-tail
returns-then-tail c = finish_long c.args.self.now c.as_slice-text.result.now c.records_end-tail.result (c.as_slice-text.ensures ∙ ap (λ (s : Seen). s.rest) c.self.view_is)
    (sym (ap (λ (s : Seen). s.over) c.self.view_is) ∙ c.if-self.true) c.if-tail.true c.records_end-tail.ensures

pub returns-then-tail-text : goal.returns-then-tail-text
returns-then-tail-text c =
    let good = finish_good c.args.self.now c.as_slice-text.result.now c.records_end-tail.result (c.as_slice-text.ensures ∙ ap (λ (s : Seen). s.rest) c.self.view_is)
    c.if-tail-text.true c.records_end-tail.ensures in
    (good.0, good.1, sym (ap (λ (s : Seen). s.over) c.self.view_is) ∙ c.if-self.false)

pub overflow_add-result : goal.overflow_add-result
overflow_add-result c =
    let within : c.records_end-tail.result.at ≤ length c.as_slice-text.result.now = (c.records_end-tail.ensures 0).within in
    let size : length c.as_slice-text.result.now ≡ length c.self.inside.unread = ap length c.as_slice-text.ensures in
    let held : c.self.inside.place + length c.self.inside.unread ≤ limit = c.self.invariant in
    omega arith

pub returns : goal.returns
returns c =
    let rest : c.as_slice-text.result.now ≡ c.args.self.now.rest = c.as_slice-text.ensures ∙ ap (λ (s : Seen). s.rest) c.self.view_is in
    let at : c.args.self.now.place ≡ c.self.inside.place = sym (ap (λ (s : Seen). s.place) c.self.view_is) in
    subst (λ p. BreaksAt c.args.self.now (p + c.records_end-tail.result.at)) at
    (elim c.if-self.branch [
      | then-self+else-tail w ↦ finish_stuck c.args.self.now c.as_slice-text.result.now c.records_end-tail.result rest w.if-tail.false c.records_end-tail.ensures
      | else-self+else-tail-text w ↦ finish_short c.args.self.now c.as_slice-text.result.now c.records_end-tail.result rest
          (sym (ap (λ (s : Seen). s.over) c.self.view_is) ∙ w.if-self.false) w.if-tail-text.false c.records_end-tail.ensures
    ])

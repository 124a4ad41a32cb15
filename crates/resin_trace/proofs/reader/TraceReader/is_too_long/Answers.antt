use Rattle.std.proofs.Common.{sym, ap, ◌∙◌}
use Rattle.resin_trace.specs.Seen.{Seen}
use Rattle.resin_trace.proofs.Feeding.{tells_too_long}
use Rattle.resin_trace.proofs.reader.TraceReader.is_too_long.Goals as goal

pub returns-then-self : goal.returns-then-self
returns-then-self c =
    tells_too_long c.args.self.now c.as_slice.result.now c.records_end.result (c.as_slice.ensures ∙ ap (λ (s : Seen). s.rest) c.self.view_is)
    (sym (ap (λ (s : Seen). s.over) c.self.view_is) ∙ c.if-self.true) c.records_end.ensures

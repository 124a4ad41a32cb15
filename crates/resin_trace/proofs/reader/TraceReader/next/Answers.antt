use Rattle.std.proofs.Common.{refl, ap, ◌∙◌}
use Rattle.resin_trace.specs.Seen.{Seen}
use Rattle.resin_trace.proofs.Feeding.{stands_front}
use Rattle.resin_trace.proofs.reader.TraceReader.next.Goals as goal

pub returns-in_default : goal.returns-in_default
returns-in_default c = (refl, stands_front c.args.self.now c.as_slice.result.now _ _ (c.as_slice.ensures ∙ ap (λ (s : Seen). s.rest) c.self.view_is) c.in-Piece.ensures.0)

use Rattle.std.proofs.Common.{refl}
use Rattle.resin_trace.proofs.Feeding.{fed_is}
use Rattle.resin_trace.proofs.reader.TraceReader.feed.Goals as goal

pub returns-then-is_too_long : goal.returns-then-is_too_long
returns-then-is_too_long c = (
  fed_is c.args.self.now c.self.inside.unread c.as_slice.result.now c.push_slice.new.self c.args.piece.now c.self.inside.place c.min-kept.result c.self.inside.over
      c.self.view_is c.as_slice.ensures c.self.invariant c.in-Ok.ensures.ok c.min-kept.ensures,
  c.if-is_too_long.ensures.0 refl,
)

pub returns : goal.returns
returns c = (
  fed_is c.args.self.now c.self.inside.unread c.as_slice.result.now c.push_slice.new.self c.args.piece.now c.self.inside.place c.min-kept.result c.self.inside.over
      c.self.view_is c.as_slice.ensures c.self.invariant c.in-Ok.ensures.ok c.min-kept.ensures,
  λ l. (let t = c.if-is_too_long.ensures.1 l in cc),
)

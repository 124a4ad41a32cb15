use Rattle.std.proofs.Common.{sym, ap, ◌∙◌, map, take, drop}
use Rattle.httparse.specs.Spans.{header_bytes}
use Rattle.resin_http.specs.Fields.{taken}
use Rattle.resin_http.specs.Stream.{on_taken}
use Rattle.resin_http.proofs.stream.on_parts.Goals as goal

pub returns-in-Err : goal.returns-in-Err
returns-in-Err c = (
  c.args.end,
  ap (on_taken c.args.end (drop c.args.end c.args.stream.now) c.args.target.now (map (header_bytes (take c.args.end c.args.stream.now)) c.args.fields.now))
      (ap (λ w. taken c.args.method.now c.args.target.now (map (header_bytes w) c.args.fields.now)) (sym c.split_at.ensures.front) ∙ sym c.taken.ensures ∙ c.in-Err.is),
)

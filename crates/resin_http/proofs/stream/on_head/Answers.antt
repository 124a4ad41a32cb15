use Rattle.std.proofs.Common.{arith, sym, ◌∙◌, map, take, drop}
use Rattle.httparse.specs.Spans.{header_bytes}
use Rattle.resin_http.specs.Stream.{on_parts}
use Rattle.resin_http.specs.Marks.{by_parts}
use Rattle.resin_http.proofs.StreamLemmas.{many_lines, no_head, head_parts}
use Rattle.resin_http.proofs.WaitLemmas.{head_announces, looks_both}
use Rattle.resin_http.proofs.stream.on_head.Goals as goal

pub returns-then-line_count-gt-MOST_LINES : goal.returns-then-line_count-gt-MOST_LINES
returns-then-line_count-gt-MOST_LINES c = (c.args.end, many_lines c.args.stream.now c.args.end (omega arith))

pub returns-in-None : goal.returns-in-None
returns-in-None c = (c.args.end, no_head c.args.stream.now c.args.end (omega arith) c.in-None.ensures.none)

pub returns-in-Some : goal.returns-in-Some
returns-in-Some c =
    let s = c.args.stream.now in
    let end = c.args.end in
    let f = c.in-Some.ensures.found in
    let fields = map (header_bytes (take end s)) (take c.in-Some.found.headers c.whole_head.new.fields) in
    let parts = head_parts s end f.0 c.whole_head.new.fields c.in-Some.found (omega arith) f.1 f.2 in
    let announces = head_announces s end f.0 c.whole_head.new.fields c.in-Some.found (omega arith) f.1 f.2 in
    looks_both c.on_parts.result _ _ _ _ end
    (parts ∙ (λ i. on_parts end (drop end s) (sym c.of-method.ensures i) (sym c.of-target.ensures i) fields))
    (announces ∙ (λ i. by_parts end (sym c.of-method.ensures i) (sym c.of-target.ensures i) fields))
    c.on_parts.ensures

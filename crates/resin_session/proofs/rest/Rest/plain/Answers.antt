use Rattle.std.proofs.Common.{◌∙◌, sym}
use Rattle.std.proofs.lemmas.List.{length-take-le}
use Rattle.resin_session.proofs.Labelled.{plain_gives, bytes_enough}
use Rattle.resin_session.proofs.rest.Rest.plain.Goals as goal

pub slice_bounds-result-end : goal.slice_bounds-result-end
slice_bounds-result-end c =
    sym (length-take-le c.args.len c.bytes-bytes.result.now (bytes_enough c.args.len c.args.self.now c.in_ok-piece.piece c.take.new.self c.bytes-bytes.result.now c.bytes-bytes.ensures c.in_ok-piece.ensures))

pub returns-then-is_plain : goal.returns-then-is_plain
returns-then-is_plain c =
    plain_gives c.args.len c.args.self.now c.in_ok-piece.piece c.take.new.self c.bytes-bytes.result.now c.bytes-bytes.ensures c.in_ok-piece.ensures (sym c.is_plain.ensures ∙ c.if-is_plain.true)

-- The fields that are left, with the length read so far, give the length that all give.
use Rattle.std.proofs.Common.{◌≡◌, map, drop}
use Rattle.httparse.specs.Spans.{header_bytes}
use Rattle.resin_http.specs.Fields.{body_length, values_of, content_length}
use Rattle.resin_http.proofs.FieldLemmas.{rest_length}
use Rattle.resin_http.proofs.fields.body_length.Given as goal

abbrev pub invariant-loop-field : goal.invariant-loop-field
invariant-loop-field l =
    rest_length l.found (values_of content_length (map (header_bytes l.head) (drop l.field-index l.fields)))
    ≡ body_length (values_of content_length (map (header_bytes l.head) l.fields))

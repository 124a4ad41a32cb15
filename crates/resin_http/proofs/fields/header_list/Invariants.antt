-- The list so far and the fields that are left are all fields.
use Rattle.std.proofs.Common.{◌≡◌, ◌++◌, map, drop}
use Rattle.httparse.specs.Spans.{header_bytes}
use Rattle.resin_http.specs.Fields.{header_of}
use Rattle.resin_http.proofs.fields.header_list.Given as goal

abbrev pub invariant-loop-field : goal.invariant-loop-field
invariant-loop-field l =
    l.list ++ map header_of (map (header_bytes l.head) (drop l.field-index l.fields)) ≡ map header_of (map (header_bytes l.head) l.fields)

-- The text so far and the lines that are left are the old text and all lines.
use Rattle.std.proofs.Common.{◌≡◌, ◌++◌, drop}
use Rattle.std.specs.List.{flat_map}
use Rattle.resin_http.specs.Response.{header_line}
use Rattle.resin_http.proofs.response.push_headers.Given as goal

abbrev pub invariant-loop-header : goal.invariant-loop-header
invariant-loop-header l = l.text ++ flat_map header_line (drop l.header-index l.headers) ≡ l.initial.text ++ flat_map header_line l.headers

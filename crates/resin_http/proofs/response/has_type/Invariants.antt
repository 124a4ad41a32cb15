-- The headers that are left tell the type exactly where all tell it.
use Rattle.std.proofs.Common.{◌≡◌, drop}
use Rattle.resin_http.specs.Response.{has_type}
use Rattle.resin_http.proofs.response.has_type.Given as goal

abbrev pub invariant-loop-header : goal.invariant-loop-header
invariant-loop-header l = has_type (drop l.header-index l.headers) ≡ has_type l.headers

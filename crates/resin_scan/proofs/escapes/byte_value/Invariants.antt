use Rattle.std.proofs.Common.{◌≡◌, take}
use Rattle.resin_scan.specs.Escapes.{byte_value}
use Rattle.resin_scan.proofs.escapes.byte_value.Given as goal

abbrev pub invariant-loop-d : goal.invariant-loop-d
invariant-loop-d l = l.v ≡ byte_value l.base (take l.d-index l.s)

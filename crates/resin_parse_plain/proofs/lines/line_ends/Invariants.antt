use Rattle.std.proofs.Common.{◌≡◌, ◌++◌, drop}
use Rattle.resin_parse_plain.specs.Rises.{ends_from}
use Rattle.resin_parse_plain.proofs.lines.line_ends.Given as goal

-- the places so far, and those of the rest
abbrev pub invariant-bytes : goal.invariant-bytes
invariant-bytes l = l.ends ++ ends_from l.i (drop l.i l.src) ≡ ends_from 0 l.src

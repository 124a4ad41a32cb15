use Rattle.std.proofs.Common.{◌≡◌, ◌+◌, ◌≤◌}
use Rattle.resin_lex.specs.Lines.{line_ends}
use Rattle.resin_lex.proofs.lines.ends_within.Given as goal

abbrev pub invariant-loop-i : goal.invariant-loop-i
invariant-loop-i l = (line_ends l.from l.src + l.count ≡ line_ends l.i l.src) × (l.count + l.from ≤ l.i)

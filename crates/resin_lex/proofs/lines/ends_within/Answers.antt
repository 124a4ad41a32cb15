use Rattle.std.proofs.Common.{◌≡◌, ◌<◌, true, false, length, drop, arith, rules}
use Rattle.resin_scan.proofs.Scans.{tail}
use Rattle.resin_lex.specs.Lines.{ends_line}
use Rattle.resin_lex.proofs.LineTurns.{byte_ends, byte_goes}
use Rattle.resin_lex.proofs.lines.ends_within.Goals as goal
use Rattle.resin_lex.proofs.lines.ends_within.Goals.{then-ends_line, else-ends_line}

pub loop-i-preserved : goal.loop-i-preserved
loop-i-preserved c =
    let src = c.args.src.now in
    let i = c.loop-i.i in
    let h : i < length src = omega arith in
    elim c.if-ends_line.branch [
      | then-ends_line w ↦ (let e : ends_line (drop i src) ≡ true = search (rules, w.if-ends_line.ensures, tail src i) in let n = byte_ends i src h e in (omega arith, omega arith))
      | else-ends_line w ↦ (let e : ends_line (drop i src) ≡ false = search (rules, w.if-ends_line.ensures, tail src i) in let n = byte_goes i src h e in (omega arith, omega arith))
    ]

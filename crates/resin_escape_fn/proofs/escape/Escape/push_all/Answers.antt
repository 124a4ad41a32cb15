use Rattle.std.proofs.Common.{◌+◌, length, ap, arith}
use Rattle.resin_lstr.proofs.Rows.{rows_more, rows_front}
use Rattle.resin_escape_fn.specs.Rules.{rule_of}
use Rattle.resin_escape_fn.proofs.escape.Escape.push_all.Goals as goal

pub returns-then-len-gt-LONGEST-clause-too_long : goal.returns-then-len-gt-LONGEST-clause-too_long
returns-then-len-gt-LONGEST-clause-too_long c = λ _.
    let f = rule_of c.args.self in
    let k = c.loop-byte.byte-index in
    omega (
      arith,
      ap length (rows_more f c.args.bytes.now k c.args.out.now.items c.loop-byte.out.items c.push.new.out.items c.loop-byte-test.true c.loop-byte.invariant.is c.in_ok-push.ensures),
      rows_front f c.args.bytes.now (k + 1) c.args.out.now.items,
      c.push.new.out.ok.0,
    )

use Rattle.std.proofs.Common.{◌+◌, length, ap, arith}
use Rattle.resin_lstr.specs.Tables.{replacement}
use Rattle.resin_lstr.proofs.Rows.{rows_more, rows_front}
use Rattle.resin_lstr.proofs.table.ByteTable.push_rows.Goals as goal

pub returns-then-len-gt-LONGEST-clause-too_long : goal.returns-then-len-gt-LONGEST-clause-too_long
returns-then-len-gt-LONGEST-clause-too_long c = λ _.
    let f = replacement c.args.self.now in
    let k = c.loop-byte.byte-index in
    omega (
      arith,
      ap length (rows_more f c.args.bytes.now k c.args.out.now.items c.loop-byte.out.items c.push_row.new.out.items c.loop-byte-test.true c.loop-byte.invariant.is c.in_ok-push_row.ensures),
      rows_front f c.args.bytes.now (k + 1) c.args.out.now.items,
      c.push_row.new.out.ok.0,
    )

use Rattle.std.proofs.Common.{sym, arith, true, false}
use Rattle.resin_http.proofs.MarkLemmas.{line_count_step}
use Rattle.resin_http.proofs.head.line_count.Goals as goal
use Rattle.resin_http.proofs.head.line_count.Goals.{then-starts_with, else-starts_with}

pub loop-i-preserved : goal.loop-i-preserved
loop-i-preserved c =
    elim c.if-starts_with.branch [
      | then-starts_with w ↦ let step = line_count_step c.args.bytes.now c.loop-i.i true (omega arith) (sym w.if-starts_with.ensures.value) in record { few = omega arith; lines = omega arith }
      | else-starts_with w ↦ let step = line_count_step c.args.bytes.now c.loop-i.i false (omega arith) (sym w.if-starts_with.ensures.value) in record { few = omega arith; lines = omega arith }
    ]

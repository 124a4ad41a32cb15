use Rattle.std.proofs.Common.{◌+◌, ap, arith}
use Rattle.resin_lstr.proofs.Spelled.{end_more}
use Rattle.resin_lstr.proofs.Pieces.{front_within}
use Rattle.resin_lstr.proofs.runs.shifted.Goals as goal

pub overflow_add-by : goal.overflow_add-by
overflow_add-by c =
    omega (
      arith,
      front_within c.args.runs.now (c.loop-run.run-index + 1) c.requires.coalesced,
      end_more c.args.runs.now c.loop-run.run-index c.run-item.result c.requires.coalesced c.loop-run-test.true,
      ap (λ r. r.end) c.run-item.is,
      c.requires.short,
    )

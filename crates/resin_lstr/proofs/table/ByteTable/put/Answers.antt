use Rattle.std.proofs.Common.{ap, ◌∙◌}
use Rattle.std.specs.Prelude.{slice_set}
use Rattle.resin_lstr.proofs.Rows.{put_rows}
use Rattle.resin_lstr.proofs.table.ByteTable.put.Goals as goal

pub returns-clause-ok : goal.returns-clause-ok
returns-clause-ok c =
    put_rows 0 c.args.byte c.self.inside.rows.items c.in_ok-row.row ∙ ap (λ table. slice_set table c.args.byte c.in_ok-row.row) c.self.view_is
    ∙ ap (slice_set c.args.self.now c.args.byte) c.in_ok-row.ensures

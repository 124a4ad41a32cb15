use Rattle.std.proofs.Common.{arith}
use Rattle.resin_rows.proofs.Beside.{value_in_first, value_in_last}
use Rattle.resin_rows.proofs.row_cells.RowCells.value_at.Goals as goal

pub returns-then-at-self : goal.returns-then-at-self
returns-then-at-self c =
    let e = c.value_at.ensures in
    let h = value_in_first c.self.inside.columns c.args.at c.self.inside.first.now c.self.inside.last.now (omega (arith, c.if-at-self.true)) in
    let v = c.self.view_is in
    cc

pub returns-else-at-self : goal.returns-else-at-self
returns-else-at-self c =
    let e = c.value_at-else-at-self.ensures in
    let h = value_in_last c.self.inside.columns c.args.at c.self.inside.first.now c.self.inside.last.now (omega (arith, c.if-at-self.false)) in
    let v = c.self.view_is in
    cc

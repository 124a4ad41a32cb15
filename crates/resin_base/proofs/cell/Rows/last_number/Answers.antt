use Rattle.std.proofs.Common.{arith, ◌≡◌, ◌-◌, suc, length, ◌∙◌, ap}
use Rattle.resin_base.specs.TableStore.{largest_number}
use Rattle.resin_base.proofs.RowLists.{last_largest}
use Rattle.resin_base.proofs.cell.Rows.last_number.Goals as goal

pub returns-in-Some : goal.returns-in-Some
returns-in-Some c =
    let xs = c.as_slice.result.now in
    let same = c.as_slice.ensures.value ∙ c.self.view_is in
    let item = c.in-Some.ensures.item in
    let some : length xs ≡ suc (length xs - 1) = omega (arith, item.3.0) in
    last_largest 0 xs (length xs - 1) c.in-Some.row.now (rw same c.requires) some (item.4 (omega arith) c.in-Some.row.now)
    ∙ ap largest_number same

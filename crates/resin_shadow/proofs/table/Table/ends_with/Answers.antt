use Rattle.resin_shadow.proofs.Tables.{ends_found}
use Rattle.resin_shadow.proofs.table.Table.ends_with.Goals as goal

pub returns-in-Some : goal.returns-in-Some
returns-in-Some c = ends_found c.args.self.now c.args.kind.now c.in-Some.run'.now c.requires.table c.requires.known (rw c.deref.ensures.value at c.in-Some.ensures.value)

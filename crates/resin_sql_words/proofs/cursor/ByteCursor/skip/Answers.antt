use Rattle.std.proofs.Common.{◌≡◌, ◌<◌, length, drop, Some, arith}
use Rattle.resin_form.specs.Reads.{first}
use Rattle.resin_sql_words.specs.Places.{placed}
use Rattle.resin_sql_words.proofs.Placing.{passes, in_bounds}
use Rattle.resin_sql_words.proofs.cursor.ByteCursor.skip.Goals as goal

pub invariant_of-self : goal.invariant_of-self
invariant_of-self c =
    let h : first (placed c.self.inside.at (drop c.self.inside.at c.self.inside.all.now)) ≡ Some c.args.next = cc in
    let k : c.self.inside.at < length c.self.inside.all.now = in_bounds c.self.inside.at c.self.inside.at c.self.inside.all.now c.args.next h in
    omega arith

pub returns : goal.returns
returns c =
    let h : first (placed c.self.inside.at (drop c.self.inside.at c.self.inside.all.now)) ≡ Some c.args.next = cc in
    let k = passes c.self.inside.at c.self.inside.at c.self.inside.all.now c.args.next h in
    cc

use Rattle.std.proofs.Common.{◌≡◌, ◌<◌, length, drop, Some, arith}
use Rattle.resin_form.specs.Reads.{first}
use Rattle.resin_form.proofs.Drops.{passes, in_bounds}
use Rattle.resin_form.proofs.cursor.Cursor.skip.Goals as goal

pub invariant_of-self : goal.invariant_of-self
invariant_of-self g c =
    let h : first (drop c.self.inside.at c.self.inside.all.now) ≡ Some c.args.next.now = cc in
    let k : c.self.inside.at < length c.self.inside.all.now = in_bounds c.self.inside.at c.self.inside.all.now c.args.next.now h in
    omega arith

pub returns : goal.returns
returns g c =
    let h : first (drop c.self.inside.at c.self.inside.all.now) ≡ Some c.args.next.now = cc in
    let k = passes c.self.inside.at c.self.inside.all.now c.args.next.now h in
    cc

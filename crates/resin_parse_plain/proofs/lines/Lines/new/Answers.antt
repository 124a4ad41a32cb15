use Rattle.std.proofs.Common.{◌≡◌, length, arith, sym, subst}
use Rattle.resin_parse_plain.specs.Rises.{Rises, ends_from}
use Rattle.resin_parse_plain.proofs.LineLaws.{ends_rise, few_ends, lines_agree}
use Rattle.resin_parse_plain.proofs.lines.Lines.new.Goals as goal

pub invariant_of-result : goal.invariant_of-result
invariant_of-result c =
    let few = few_ends c.args.src.now in
    let n : length c.in_ok-ends.ends ≡ length (ends_from 0 c.args.src.now) = rw c.in_ok-ends.ensures in
    (subst Rises (sym c.in_ok-ends.ensures) (ends_rise c.args.src.now), omega (arith, few, n, c.requires))

pub returns : goal.returns
returns c t = rw c.in_ok-ends.ensures (lines_agree c.args.src.now t)

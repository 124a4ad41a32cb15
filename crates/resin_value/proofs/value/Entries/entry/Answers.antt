use Rattle.std.proofs.Common.{◌<◌, ap, sym, ◌∙◌, arith, length, slice_get}
use Rattle.resin_value.proofs.Pairs.{length-pairs, pair_at}
use Rattle.resin_value.proofs.value.Entries.entry.Goals as goal

pub index-entry-requires : goal.index-entry-requires
index-entry-requires c =
    let s = c.self.inside in
    omega (arith, s.list.ok, length-pairs s.list.items, ap length c.self.view_is, c.requires)

pub returns : goal.returns
returns c =
    let s = c.self.inside in
    let within : c.args.i < length s.list.items = omega (arith, length-pairs s.list.items, ap length c.self.view_is, c.requires) in
    ap (λ es. slice_get es c.args.i) (sym c.self.view_is) ∙ pair_at s.list.items c.args.i c.index-entry.result.now within c.index-entry.ensures

use Rattle.std.proofs.Common.{◌≡◌, sym, ap, ◌∙◌, position}
use Rattle.std.specs.Map.{keys_of, lookup}
use Rattle.resin_names.specs.Names.{same_name}
use Rattle.resin_heap.proofs.Trees.{grown_not}
use Rattle.resin_heap.proofs.method_index.number_of.Goals as goal

pub returns-in-Some-clause-grown : goal.returns-in-Some-clause-grown
returns-in-Some-clause-grown c = grown_not _

pub returns-in-Some-clause-number : goal.returns-in-Some-clause-number
returns-in-Some-clause-number c =
    let named : c.lent.result.bytes.now ≡ c.args.name.now = c.lent.ensures ∙ c.as_slice.ensures in
    ap (λ n. position (same_name n) (keys_of c.args.names.now.entries)) (sym named) ∙ sym c.in-Some.ensures.place

pub put_last-requires : goal.put_last-requires
put_last-requires c =
    let named : c.lent.result.bytes.now ≡ c.args.name.now = c.lent.ensures ∙ c.as_slice.ensures in
    ap (λ n. lookup (same_name n) c.args.names.now.entries) (sym named) ∙ c.in-None.ensures.value

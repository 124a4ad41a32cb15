use Rattle.resin_builtin.proofs.Read.{gives_along, replaced_again}
use Rattle.resin_builtin.proofs.replace_row.replacements_in.Goals as goal

pub returns-in-Arr : goal.returns-in-Arr
returns-in-Arr c =
    gives_along c.texts_in.result _ _ (replaced_again c.args.beside_array c.args.value.now c.in-Arr.array c.args.count c.if-beside_array.true c.in-Arr.is) c.texts_in.ensures

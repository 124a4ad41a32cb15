use Rattle.resin_builtin.proofs.Read.{gives_along, searched_again}
use Rattle.resin_builtin.proofs.replace_row.searches_in.Goals as goal

pub returns-in-Arr : goal.returns-in-Arr
returns-in-Arr c = gives_along c.texts_in.result _ _ (searched_again c.args.value.now c.in-Arr.array c.in-Arr.is) c.texts_in.ensures

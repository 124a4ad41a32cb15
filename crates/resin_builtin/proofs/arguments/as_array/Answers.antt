use Rattle.resin_builtin.proofs.Read.{array_again}
use Rattle.resin_builtin.proofs.arguments.as_array.Goals as goal

pub returns-in-Arr : goal.returns-in-Arr
returns-in-Arr c = array_again c.args.value.now c.in-Arr.array c.in-Arr.is

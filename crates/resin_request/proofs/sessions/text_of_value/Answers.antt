use Rattle.resin_request.proofs.Stored.{no_array}
use Rattle.resin_request.proofs.sessions.text_of_value.Goals as goal

pub returns-in-Arr : goal.returns-in-Arr
returns-in-Arr c = rw c.in-Arr.is c.text_of_array.ensures

pub returns-in_default : goal.returns-in_default
returns-in_default c = no_array c.args.v.now c.in_default.not-Arr

-- What follows from a run.
use Rattle.std.proofs.Common.{Result}
use Rattle.resin_sql.specs.declared.fault.SqlStop.{SqlStop}
use Rattle.resin_plan.specs.TableCalls.{Keeping}
use Rattle.resin_plan.proofs.Blaming.{leads-none, none-then, called-memory, last-then}
use Rattle.resin_sql_more.specs.declared.answer.MoreAnswer.{MoreAnswer}
use Rattle.resin_sql_more.specs.Plans.{Plan, Ends, answered, refused, dear, failed, spent, wanting, wanting_in_call, Blames}

pub blamed : {p : Plan} {u w : Keeping} {r : Result MoreAnswer SqlStop} → Ends p u r w → Blames r u w
blamed (answered l) = leads-none l
blamed (refused l) = leads-none l
blamed (dear l) = leads-none l
blamed (failed {call = call} l c) = last-then call (leads-none l) c
blamed (spent l le) = leads-none l
blamed (wanting l) = leads-none l
blamed (wanting_in_call {call = call} l c) = none-then (leads-none l) (called-memory call c)

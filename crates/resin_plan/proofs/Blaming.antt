-- What follows from a run.
use Rattle.std.proofs.Common.{◌≡◌, ◌+◌, [], ◌∷◌, ◌++◌, Result, Ok, Err, refl, sym, ap, ◌∙◌, arith}
use Rattle.resin_base.specs.declared.calls.Calls.{Calls}
use Rattle.resin_base.specs.declared.faults.KeepFault.TheVariants as fault
use Rattle.resin_sql.specs.declared.fault.SqlStop.{SqlStop}
use Rattle.resin_plan.specs.declared.answer.SqlAnswer.{SqlAnswer}
use Rattle.resin_plan.specs.TableCalls.{TableCall, Answer, Keeping, IsCalled}
use Rattle.resin_plan.specs.Plans.{Steps, Plan, Leads, here, behind, Ends, answered, refused, failed, spent, wanting, wanting_in_call}
use Rattle.resin_plan.specs.Blame.{NoneFailed, LastFailed, Blames}

pub none-then : {u v w : Keeping} → NoneFailed u v → NoneFailed v w → NoneFailed u w
none-then a b = record { failed = b.failed ∙ a.failed; faults = b.faults ∙ a.faults; made = omega (arith, a.made, b.made) }

called-ok : {v w : Keeping} (call : TableCall) (answer : Answer call) → IsCalled call v (Ok answer) w → NoneFailed v w
called-ok call answer c = record { failed = c.listed.1; faults = c.cause; made = omega (arith, c.listed.0) }

pub called-memory : {v w : Keeping} (call : TableCall) → IsCalled call v (Err fault.Memory) w → NoneFailed v w
called-memory {v = v} {w = w} call c = record {
  failed = ap (λ (x : Calls). x.failed) c.listed;
  faults = c.cause;
  made = let e : w.calls.made ≡ v.calls.made = ap (λ (x : Calls). x.made) c.listed in omega (arith, e);
}

pub leads-none : {A : Type 0} {p : Steps A} {u : Keeping} {q : Steps A} {v : Keeping} → Leads p u q v → NoneFailed u v
leads-none here = record { failed = refl; faults = refl; made = omega arith }
leads-none (behind {call = call} {answer = answer} l c) = none-then (leads-none l) (called-ok call answer c)

pub last-then : {u v w : Keeping} (call : TableCall) → NoneFailed u v → IsCalled call v (Err fault.Failed) w → LastFailed u w
last-then {u = u} {v = v} {w = w} call a c = record {
  failed = c.listed.1 ∙ (ap (λ ns. ns ++ (v.calls.made + 1) ∷ []) a.failed ∙ ap (λ n. u.calls.failed ++ n ∷ []) (sym c.listed.0));
  faults = rw (← a.faults) c.cause;
  made = omega (arith, a.made, c.listed.0);
}

pub blamed : {p : Plan} {u w : Keeping} {r : Result SqlAnswer SqlStop} → Ends p u r w → Blames r u w
blamed (answered l) = leads-none l
blamed (refused l) = leads-none l
blamed (failed {call = call} l c) = last-then call (leads-none l) c
blamed (spent l le) = (leads-none l, le)
blamed (wanting l) = leads-none l
blamed (wanting_in_call {call = call} l c) = none-then (leads-none l) (called-memory call c)

-- What a statement does, as a plan: the keeper calls that it makes one after another, each by what the keeper answered to those before it,
-- and the answer or the refusal at the end. And what it means that a run went along a plan.
use Rattle.std.specs.Prelude.{◌≤◌, Option, Some, None, Result, Ok, Err}
use Rattle.resin_base.specs.Causes.{last_count}
use Rattle.resin_base.specs.declared.faults.KeepFault.TheVariants as fault
use Rattle.resin_sql.specs.declared.fault.SqlRefusal.{SqlRefusal}
use Rattle.resin_sql.specs.declared.fault.SqlStop.{SqlStop}
use Rattle.resin_sql.specs.declared.fault.SqlStop.TheVariants.{Refused, Keeper, Spent, Memory}
use Rattle.resin_plan.specs.declared.answer.SqlAnswer.{SqlAnswer}
use Rattle.resin_plan.specs.TableCalls.{TableCall, Answer, Keeping, IsCalled}

-- keeper calls, and what they come to
pub data Steps (A : Type 0) : Type 0 where
  -- no further call
  Done : A → Steps A
  -- a keeper call, and what follows each answer
  Ask : (call : TableCall) → (Answer call → Steps A) → Steps A

-- those of a statement, which has an answer, or is refused
abbrev pub Plan : Type 0
Plan = Steps (Result SqlAnswer SqlRefusal)

abbrev pub give : SqlAnswer → Plan
give answer = Done (Ok answer)

abbrev pub refuse : SqlRefusal → Plan
refuse x = Done (Err x)

-- refused, where there is a cause, and else the rest
abbrev pub unless : Option SqlRefusal → Plan → Plan
unless None rest = rest
unless (Some x) rest = refuse x

abbrev pub passed : Option SqlRefusal → Result (Unit {0}) SqlStop
passed None = Ok tt
passed (Some x) = Err (Refused x)

-- The calls of p that a run has made so far, each answered, have led from u to v, and q is left.
pub data Leads {A : Type 0} (p : Steps A) (u : Keeping) : Steps A → Keeping → Type 0 where
  here : Leads p u p u
  behind : {call : TableCall} {next : Answer call → Steps A} {answer : Answer call} {v w : Keeping}
      → Leads p u (Ask call next) v → IsCalled call v (Ok answer) w → Leads p u (next answer) w

-- How a run of plan p that begins at u may end, and where that leaves the keeper and the numbers of the calls.
pub data Ends (p : Plan) (u : Keeping) : Result SqlAnswer SqlStop → Keeping → Type 0 where
  -- all calls were made, and the statement has its answer
  answered : {answer : SqlAnswer} {w : Keeping} → Leads p u (give answer) w → Ends p u (Ok answer) w
  -- all calls were made, and the statement is refused
  refused : {x : SqlRefusal} {w : Keeping} → Leads p u (refuse x) w → Ends p u (Err (Refused x)) w
  -- the last call that was made failed; all before it were answered
  failed : {call : TableCall} {next : Answer call → Plan} {v w : Keeping}
      → Leads p u (Ask call next) v → IsCalled call v (Err fault.Failed) w → Ends p u (Err Keeper) w
  -- the next call has no number
  spent : {call : TableCall} {next : Answer call → Plan} {w : Keeping}
      → Leads p u (Ask call next) w → last_count ≤ w.calls.made → Ends p u (Err Spent) w
  -- memory was wanted behind some of the calls
  wanting : {q : Plan} {w : Keeping} → Leads p u q w → Ends p u (Err Memory) w
  -- memory was wanted in the next call, which isn't counted
  wanting_in_call : {call : TableCall} {next : Answer call → Plan} {v w : Keeping}
      → Leads p u (Ask call next) v → IsCalled call v (Err fault.Memory) w → Ends p u (Err Memory) w

-- A part of a run of p either ended it, or went on with a value, which tells what is left of the plan.
abbrev pub GoesOn : {A : Type 0} → Plan → Keeping → Result A SqlStop → (A → Plan) → Keeping → Type 0
GoesOn p u (Ok v) rest w = Leads p u (rest v) w
GoesOn p u (Err stop) rest w = Ends p u (Err stop) w

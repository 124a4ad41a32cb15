-- What the forms are made of: the meaning of their parts, and the small programs that they share.
use Rattle.std.specs.Prelude.{ℕ, ◌/◌, List, [], ◌∷◌, length, Result, Ok, Err}
use Rattle.resin_builtin.specs.Under.scalar.declared.faults.CallStop.{CallStop}
use Rattle.resin_builtin.specs.Under.scalar.declared.faults.CallStop.TheVariants.{Fault as CallFault}
use Rattle.resin_builtin.specs.Under.scalar.declared.faults.ScriptFault.{ScriptFault}
use Rattle.resin_builtin.specs.Under.value.declared.value.Value.{Value}
use Rattle.resin_builtin.specs.Under.value.Trees.{Tree, text}
use Rattle.resin_builtin.specs.Under.value.Values.{value_of}
use Rattle.resin_target.specs.Under.heap.declared.prelude.PreludeClass.{PreludeClass}
use Rattle.resin_target.specs.Under.tree.declared.expression.Expr.{Expr}
use Rattle.resin_target.specs.Under.tree.declared.statement.Stmt.{Stmt}
use Rattle.resin_target.specs.Under.machine.State.{State}
use Rattle.resin_target.specs.Under.machine.Steps.{faults, charge}
use Rattle.resin_target.specs.Under.machine.Objects.{throw_new, settled}
use Rattle.resin_meaning_tables.specs.Under.meaning.Programs.{Prog, give, act, ◌>>=◌}
use Rattle.resin_meaning_forms.specs.declared.course.Course.{Course}

-- what the parts of a form mean
pub record Evals : Type 0 where
  -- an expression
  pub expr : Expr → Prog Value
  -- the operand of `isset`, of `empty` and of the left of `??`: along its own postfixes an index that is no index of a text, and an index into an
  -- object, are null there
  pub soft : Expr → Prog Value
  -- a statement
  pub stmt : Stmt → Prog Course

-- one program after another, whose value isn't looked at
infixl 10 ◌>>◌
abbrev pub ◌>>◌ : {A B : Type 0} → Prog A → Prog B → Prog B
p >> q = p >>= λ _. q

-- something that is read off the state
abbrev pub looked : {A : Type 0} → (State → A) → Prog A
looked read = act (λ m. (Ok (read m), m))

-- the value of a computation, whose throws and faults are those of the program
abbrev pub computed : {A : Type 0} → Result A CallStop → Prog A
computed r = act (settled r)

-- a script fault at the running line
abbrev pub faulted : {A : Type 0} → ScriptFault → Prog A
faulted f = act (faults f)

-- an exception of the runtime, with the empty message
abbrev pub thrown_new : {A : Type 0} → PreludeClass → Prog A
thrown_new class = act (throw_new class [])

-- a rule that answers a value or a script fault, as the end of a call
abbrev pub ruled : {A : Type 0} → Result A ScriptFault → Result A CallStop
ruled (Ok v) = Ok v
ruled (Err f) = Err (CallFault f)

-- ---- charges

-- a tick for each 256 bytes of a text that an operator, an echo or a call of a channel takes or gives
abbrev pub text_cost : Tree → ℕ
text_cost (text t) = length t / 256
text_cost t = 0

-- the text that a value is, if it is one, is charged
abbrev pub charge_text : Tree → Prog (Unit {0})
charge_text t = act (charge (text_cost t))

-- the texts that two values are
abbrev pub charge_both : Tree → Tree → Prog (Unit {0})
charge_both t u = charge_text t >> charge_text u

-- the texts among some values are charged, one after the other
abbrev pub charged : List Tree → Prog (Unit {0})
charged [] = give tt
charged (t ∷ ts) = charge_text t >> charged ts

-- a value that is given once its text is charged
abbrev pub given : Tree → Prog Value
given t = charge_text t >> give (value_of t)

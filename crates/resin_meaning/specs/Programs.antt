-- Programs: what an evaluation means, as a function of the state, of what the keepers hold, and of the numbers of the keeper calls that fail. A
-- program says how it ends, what it leaves, which keeper calls it makes, and through which moments it goes (this project).
use Rattle.std.specs.Prelude.{ℕ, ◌+◌, List, [], ◌∷◌, ◌++◌, Bool, true, false, map, Option, Result, Ok, Err, if◌then◌else◌, nat_lt}
use Rattle.resin_base.specs.Causes.{last_count, is_listed}
use Rattle.resin_base.specs.TableStore.{TableStore}
use Rattle.resin_machine.specs.Under.scalar.declared.faults.ScriptFault.TheVariants.{FuelSpent}
use Rattle.resin_machine.specs.Under.journal.Events.{EventList}
use Rattle.resin_machine.specs.declared.stop.Stop.{Stop}
use Rattle.resin_machine.specs.declared.stop.Stop.TheVariants.{Thrown, Exit, Fault, Keeper, Memory}
use Rattle.resin_machine.specs.State.{State}
use Rattle.resin_machine.specs.Steps.{Act, at_line, back_at_line, hushed, unhushed}
use Rattle.resin_machine.specs.Variables.{in_call, after_call}
use Rattle.resin_store.specs.Files.{LabelledFiles}

-- what the keepers hold, of files with the policies of each byte
pub record Store : Type 0 where
  pub files : LabelledFiles
  pub tables : TableStore

-- the state, what the keepers hold, and how many calls were made on them
pub record Whole : Type 0 where
  pub state : State
  pub store : Store
  pub made : ℕ

-- a keeper call: whether it is on the tables, else on the files; the path or the table's name; whether it may change what stands there
pub record KeeperCall : Type 0 where
  pub on_tables : Bool
  pub name : List ℕ
  pub changes : Bool

-- what outlives want of memory: the journal, what the keepers hold, and the calls made since the program began
pub record Moment : Type 0 where
  pub journal : EventList
  pub store : Store
  pub calls : List KeeperCall

abbrev pub moment : List KeeperCall → Whole → Moment
moment calls at = record { journal = at.state.stage.journal; store = at.store; calls = calls }

-- a moment that comes after further calls
abbrev pub later : List KeeperCall → Moment → Moment
later calls at = record { journal = at.journal; store = at.store; calls = calls ++ at.calls }

-- how a program ends, what it leaves, the keeper calls that it made, and the moments that it went through, all in order
pub record Out (A : Type 0) : Type 0 where
  pub end : Result A Stop
  pub whole : Whole
  pub calls : List KeeperCall
  pub moments : List Moment

-- a program, by the numbers of the keeper calls that fail
abbrev pub Prog : Type 0 → Type 0
Prog A = List ℕ → Whole → Out A

-- nothing but an end
abbrev pub ended : {A : Type 0} → Result A Stop → Prog A
ended r failing at = record { end = r; whole = at; calls = []; moments = moment [] at ∷ [] }

abbrev pub give : {A : Type 0} → A → Prog A
give v = ended (Ok v)

abbrev pub stop : {A : Type 0} → Stop → Prog A
stop s = ended (Err s)

-- a program, and then the one that its end leads to
unfoldable pub then_by : {A B : Type 0} → Prog A → (Result A Stop → Prog B) → Prog B
then_by p next failing at =
    let o = p failing at in
    let o' = next o.end failing o.whole in
    record {
      end = o'.end;
      whole = o'.whole;
      calls = o.calls ++ o'.calls;
      moments = moment [] at ∷ (o.moments ++ moment o.calls o.whole ∷ map (later o.calls) o'.moments);
    }

abbrev pub on_value : {A B : Type 0} → (A → Prog B) → Result A Stop → Prog B
on_value f (Ok v) = f v
on_value f (Err s) = stop s

-- goes on with the value, and stops where there is none
infixl 10 ◌>>=◌
unfoldable pub ◌>>=◌ : {A B : Type 0} → Prog A → (A → Prog B) → Prog B
p >>= f = then_by p (on_value f)

-- an exception is caught: it is a value from here on
abbrev pub caught : {A : Type 0} → Result A Stop → Result (Result A ℕ) Stop
caught (Ok v) = Ok (Ok v)
caught (Err (Thrown o)) = Ok (Err o)
caught (Err Exit) = Err Exit
caught (Err (Fault f line)) = Err (Fault f line)
caught (Err Keeper) = Err Keeper
caught (Err Memory) = Err Memory

-- the program, whose exception is a value
unfoldable pub tried : {A : Type 0} → Prog A → Prog (Result A ℕ)
tried p = then_by p (λ r. ended (caught r))

-- a step on the state alone
unfoldable pub act : {A : Type 0} → Act A → Prog A
act a failing at =
    let o = a at.state in
    let at' : Whole = record { state = o.1; store = at.store; made = at.made } in
    record { end = o.0; whole = at'; calls = []; moments = moment [] at ∷ moment [] at' ∷ [] }

-- a program in a changed state, of which a part is put back after it, however it ends
unfoldable pub within : {A : Type 0} → (State → State) → (State → State → State) → Prog A → Prog A
within enter leave p failing at =
    let o = p failing (record { state = enter at.state; store = at.store; made = at.made }) in
    record {
      end = o.end;
      whole = record { state = leave at.state o.whole.state; store = o.whole.store; made = o.whole.made };
      calls = o.calls;
      moments = moment [] at ∷ o.moments;
    }

-- a program that runs as a check, a merge or a filter of the runtime
abbrev pub quietly : {A : Type 0} → Prog A → Prog A
quietly p = within hushed unhushed p

-- a program at another line
abbrev pub on_line : {A : Type 0} → ℕ → Prog A → Prog A
on_line n p = within (at_line n) back_at_line p

-- a program in a call of its own, of a method that this class declares, or of a function
abbrev pub framed : {A : Type 0} → Option ℕ → Prog A → Prog A
framed class p = within (in_call class) after_call p

-- what a numbered call leaves that was made with a change of what the keepers hold: the number is used up, and a call that fails changes nothing
abbrev pub called : {A : Type 0} → KeeperCall → A × Store → Bool → Whole → Out A
called call change fails at =
    let at' : Whole = record { state = at.state; store = if fails then at.store else change.1; made = at.made + 1 } in
    record { end = if fails then Err Keeper else Ok change.0; whole = at'; calls = call ∷ []; moments = moment [] at ∷ moment (call ∷ []) at' ∷ [] }

-- the next keeper call: it is the fault FuelSpent, and no call, where no number is left; it fails exactly where its number is listed
unfoldable pub keep : {A : Type 0} → KeeperCall → (Store → A × Store) → Prog A
keep call change failing at =
    if nat_lt at.made last_count
    then called call (change at.store) (is_listed failing (at.made + 1)) at
    else stop (Fault FuelSpent at.state.line) failing at

-- a change of the files alone, and of the tables alone
abbrev pub on_files : {A : Type 0} → (LabelledFiles → A × LabelledFiles) → Store → A × Store
on_files change s = let o = change s.files in (o.0, record { files = o.1; tables = s.tables })

abbrev pub on_tables : {A : Type 0} → (TableStore → A × TableStore) → Store → A × Store
on_tables change s = let o = change s.tables in (o.0, record { files = s.files; tables = o.1 })

abbrev pub file_call : List ℕ → Bool → KeeperCall
file_call path changes = record { on_tables = false; name = path; changes = changes }

abbrev pub table_call : List ℕ → Bool → KeeperCall
table_call name changes = record { on_tables = true; name = name; changes = changes }

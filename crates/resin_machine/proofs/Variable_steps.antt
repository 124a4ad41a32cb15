-- Steps on variables: those of the inputs, and those of calls and the top level.
use Rattle.std.proofs.Common.{◌≡◌, ℕ, List, length, true, false, cond, Option, Some, None, Result, Ok, unwrap_or, is_some, refl, sym, ap, subst, ◌∙◌}
use Rattle.std.specs.FinMap.{get, insert, remove}
use Rattle.resin_heap.specs.Under.value.declared.value.Value.{Value}
use Rattle.resin_heap.specs.Under.value.declared.value.Value.TheVariants.{Null, Arr}
use Rattle.resin_heap.specs.Under.value.Arrays.{Array}
use Rattle.resin_stage.specs.Under.scope.Frames.{Frames, Variables, value_of, assigned, without_name, with_bound}
use Rattle.resin_machine.specs.declared.stop.Stop.{Stop}
use Rattle.resin_machine.specs.State.{State}
use Rattle.resin_machine.specs.Keeping.{IsInside}
use Rattle.resin_machine.specs.Steps.{Acts}
use Rattle.resin_machine.specs.Variables.{is_input, is_session, variable, with_session, with_variable, read, assign, taken_from, without_variable, bind_global, set_session}
use Rattle.resin_machine.proofs.Calls.{assigned_open, without_open, bound_open}
use Rattle.resin_machine.proofs.Taken.{gives_inside, gives_same}

-- which variable a name means
abbrev other_value : List ℕ → State → Option Value
other_value name m = cond (is_session name) (Some m.session) (value_of name m.frames)

pub value_of_input : (name : List ℕ) (m : State) → is_input name ≡ true → variable name m ≡ get m.inputs name
value_of_input name m e = ap (λ b. cond b (get m.inputs name) (other_value name m)) e

pub value_of_session : (name : List ℕ) (m : State) → is_input name ≡ false → is_session name ≡ true → variable name m ≡ Some m.session
value_of_session name m e k =
    ap (λ b. cond b (get m.inputs name) (other_value name m)) e ∙ ap (λ b. cond b (Some m.session) (value_of name m.frames)) k

pub value_of_other : (name : List ℕ) (m : State) → is_input name ≡ false → is_session name ≡ false → variable name m ≡ value_of name m.frames
value_of_other name m e k =
    ap (λ b. cond b (get m.inputs name) (other_value name m)) e ∙ ap (λ b. cond b (Some m.session) (value_of name m.frames)) k

abbrev with_input : List ℕ → Value → State → State
with_input name v m = record m { inputs = insert m.inputs name v }

abbrev with_other : List ℕ → Value → State → State
with_other name v m = record m { frames = assigned name v m.frames }

abbrev with_no_input : List ℕ → Value → State → State
with_no_input name v m = cond (is_session name) (with_session v m) (with_other name v m)

pub set_input : (name : List ℕ) (v : Value) (m : State) → is_input name ≡ true → with_variable name v m ≡ with_input name v m
set_input name v m e = ap (λ b. cond b (with_input name v m) (with_no_input name v m)) e

pub set_session_value : (name : List ℕ) (v : Value) (m : State) → is_input name ≡ false → is_session name ≡ true → with_variable name v m ≡ with_session v m
set_session_value name v m e k =
    ap (λ b. cond b (with_input name v m) (with_no_input name v m)) e ∙ ap (λ b. cond b (with_session v m) (with_other name v m)) k

pub set_other : (name : List ℕ) (v : Value) (m : State) → is_input name ≡ false → is_session name ≡ false → with_variable name v m ≡ with_other name v m
set_other name v m e k =
    ap (λ b. cond b (with_input name v m) (with_no_input name v m)) e ∙ ap (λ b. cond b (with_session v m) (with_other name v m)) k

pub session_inside : (m : State) (v : Value) → IsInside m (with_session v m)
session_inside m v = record { stage = refl; ticks = refl; request = refl; open_calls = refl; checking = refl }

pub inputs_inside : (m : State) (inputs : Variables) → IsInside m (record m { inputs = inputs })
inputs_inside m inputs = record { stage = refl; ticks = refl; request = refl; open_calls = refl; checking = refl }

pub frames_inside : (m : State) (frames : Frames) → length frames.calls ≡ length m.frames.calls → IsInside m (record m { frames = frames })
frames_inside m frames h = record { stage = refl; ticks = refl; request = refl; open_calls = h; checking = refl }

-- a variable changed in the state m0, which is m
input_changed : (name : List ℕ) (v : Value) (m0 : State) (inputs : Variables) → is_input name ≡ true → inputs ≡ insert m0.inputs name v → (record m0 { inputs = inputs }) ≡ with_variable name v m0
input_changed name v m0 inputs i e = ap (λ (x : Variables). let y : State = record m0 { inputs = x } in y) e ∙ sym (set_input name v m0 i)

other_changed : (name : List ℕ) (v : Value) (m0 : State) (frames : Frames) → is_input name ≡ false → is_session name ≡ false → frames ≡ assigned name v m0.frames → (record m0 { frames = frames }) ≡ with_variable name v m0
other_changed name v m0 frames i k e = ap (λ (x : Frames). let y : State = record m0 { frames = x } in y) e ∙ sym (set_other name v m0 i k)

open_of : (name : List ℕ) (v : Value) (m0 : State) (frames : Frames) → frames ≡ assigned name v m0.frames → length frames.calls ≡ length m0.frames.calls
open_of name v m0 frames e = ap (λ (x : Frames). length x.calls) e ∙ assigned_open name v m0.frames

pub assigned_input : (name : List ℕ) (v : Value) (m m0 : State) (inputs : Variables) → m0 ≡ m → is_input name ≡ true → inputs ≡ insert m0.inputs name v → Acts (assign name v) m (Ok tt) (record m0 { inputs = inputs })
assigned_input name v m m0 inputs e0 i e =
    subst (λ (x : State). Acts (assign name v) x (Ok tt) (record m0 { inputs = inputs })) e0
    (gives_inside (assign name v) m0 tt _ (ap (λ (x : State). let p : Result (Unit {0}) Stop × State = (Ok tt, x) in p) (sym (input_changed name v m0 inputs i e))) (inputs_inside m0 inputs))

pub assigned_other : (name : List ℕ) (v : Value) (m m0 : State) (frames : Frames) → m0 ≡ m → is_input name ≡ false → is_session name ≡ false → frames ≡ assigned name v m0.frames → Acts (assign name v) m (Ok tt) (record m0 { frames = frames })
assigned_other name v m m0 frames e0 i k e =
    subst (λ (x : State). Acts (assign name v) x (Ok tt) (record m0 { frames = frames })) e0
    (gives_inside (assign name v) m0 tt _ (ap (λ (x : State). let p : Result (Unit {0}) Stop × State = (Ok tt, x) in p) (sym (other_changed name v m0 frames i k e))) (frames_inside m0 frames (open_of name v m0 frames e)))

pub assigned_session : (name : List ℕ) (v : Value) (m m0 : State) → m0 ≡ m → is_input name ≡ false → is_session name ≡ true → Acts (assign name v) m (Ok tt) (with_session v m0)
assigned_session name v m m0 e0 i k =
    subst (λ (x : State). Acts (assign name v) x (Ok tt) (with_session v m0)) e0
    (gives_inside (assign name v) m0 tt _ (ap (λ (x : State). let p : Result (Unit {0}) Stop × State = (Ok tt, x) in p) (set_session_value name v m0 i k)) (session_inside m0 v))

-- `$_SESSION` becomes an array
pub session_set : (a : Array) (m m0 : State) → m0 ≡ m → Acts (set_session a) m (Ok tt) (with_session (Arr a) m0)
session_set a m m0 e0 =
    subst (λ (x : State). Acts (set_session a) x (Ok tt) (with_session (Arr a) m0)) e0 (gives_inside (set_session a) m0 tt _ refl (session_inside m0 (Arr a)))

-- a variable that is there, changed in its place
pub put_input : (name : List ℕ) (v : Value) (m m0 : State) (inputs : Variables) → m0 ≡ m → is_input name ≡ true → inputs ≡ insert m0.inputs name v → ((record m0 { inputs = inputs }) ≡ with_variable name v m) × IsInside m (record m0 { inputs = inputs })
put_input name v m m0 inputs e0 i e = (
  input_changed name v m0 inputs i e ∙ ap (with_variable name v) e0,
  subst (λ (x : State). IsInside x (record m0 { inputs = inputs })) e0 (inputs_inside m0 inputs),
)

pub put_other : (name : List ℕ) (v : Value) (m m0 : State) (frames : Frames) → m0 ≡ m → is_input name ≡ false → is_session name ≡ false → frames ≡ assigned name v m0.frames → ((record m0 { frames = frames }) ≡ with_variable name v m) × IsInside m (record m0 { frames = frames })
put_other name v m m0 frames e0 i k e = (
  other_changed name v m0 frames i k e ∙ ap (with_variable name v) e0,
  subst (λ (x : State). IsInside x (record m0 { frames = frames })) e0 (frames_inside m0 frames (open_of name v m0 frames e)),
)

pub put_session : (name : List ℕ) (v w : Value) (m m0 : State) → m0 ≡ m → is_input name ≡ false → is_session name ≡ true → w ≡ v → (with_session w m0 ≡ with_variable name v m) × IsInside m (with_session w m0)
put_session name v w m m0 e0 i k e = (
  ap (λ x. with_session x m0) e ∙ sym (set_session_value name v m0 i k) ∙ ap (with_variable name v) e0,
  subst (λ (x : State). IsInside x (with_session w m0)) e0 (session_inside m0 w),
)

there : {X : Type 0} (o : Option X) (v : X) → o ≡ Some v → is_some o ≡ true
there o v e = ap is_some e

pub taken_there : (name : List ℕ) (m : State) (v : Value) → variable name m ≡ Some v → taken_from name m ≡ with_variable name Null m
taken_there name m v e = ap (λ b. cond b (with_variable name Null m) m) (there (variable name m) v e)

pub none_taken : (name : List ℕ) (m : State) → variable name m ≡ None → taken_from name m ≡ m
none_taken name m e = ap (λ b. cond b (with_variable name Null m) m) (ap is_some e)

-- a variable taken out
abbrev without_input : List ℕ → State → State
without_input name m = record m { inputs = remove m.inputs name }

abbrev without_other : List ℕ → State → State
without_other name m = record m { frames = without_name name m.frames }

abbrev without_no_input : List ℕ → State → State
without_no_input name m = cond (is_session name) (with_session Null m) (without_other name m)

pub unset_session : (name : List ℕ) (m m0 : State) → m0 ≡ m → is_input name ≡ false → is_session name ≡ true → (with_session Null m0 ≡ without_variable name m) × IsInside m (with_session Null m0)
unset_session name m m0 e0 i k = (
  sym (ap (λ b. cond b (without_input name m0) (without_no_input name m0)) i ∙ ap (λ b. cond b (with_session Null m0) (without_other name m0)) k)
      ∙ ap (without_variable name) e0,
  subst (λ (x : State). IsInside x (with_session Null m0)) e0 (session_inside m0 Null),
)

pub unset_input : (name : List ℕ) (m m0 : State) (inputs : Variables) → m0 ≡ m → is_input name ≡ true → inputs ≡ remove m0.inputs name → ((record m0 { inputs = inputs }) ≡ without_variable name m) × IsInside m (record m0 { inputs = inputs })
unset_input name m m0 inputs e0 i e = (
  ap (λ (x : Variables). let y : State = record m0 { inputs = x } in y) e
      ∙ (sym (ap (λ b. cond b (without_input name m0) (without_no_input name m0)) i) ∙ ap (without_variable name) e0),
  subst (λ (x : State). IsInside x (record m0 { inputs = inputs })) e0 (inputs_inside m0 inputs),
)

pub unset_other : (name : List ℕ) (m m0 : State) (frames : Frames) → m0 ≡ m → is_input name ≡ false → is_session name ≡ false → frames ≡ without_name name m0.frames → ((record m0 { frames = frames }) ≡ without_variable name m) × IsInside m (record m0 { frames = frames })
unset_other name m m0 frames e0 i k e = (
  ap (λ (x : Frames). let y : State = record m0 { frames = x } in y) e
      ∙ (sym (ap (λ b. cond b (without_input name m0) (without_no_input name m0)) i ∙ ap (λ b. cond b (with_session Null m0) (without_other name m0)) k)
      ∙ ap (without_variable name) e0),
  subst (λ (x : State). IsInside x (record m0 { frames = frames })) e0 (frames_inside m0 frames (ap (λ (x : Frames). length x.calls) e ∙ without_open name m0.frames)),
)

-- a name bound, or left as it is
abbrev binding : List ℕ → State → State
binding name m = record m { frames = with_bound name m.frames }

abbrev as_done : State → Result (Unit {0}) Stop × State
as_done m = (Ok tt, m)

pub bound_input : (name : List ℕ) (m : State) → is_input name ≡ true → Acts (bind_global name) m (Ok tt) m
bound_input name m i = gives_same (bind_global name) m tt (ap (λ b. as_done (cond b m (cond (is_session name) m (binding name m)))) i)

pub bound_session : (name : List ℕ) (m : State) → is_input name ≡ false → is_session name ≡ true → Acts (bind_global name) m (Ok tt) m
bound_session name m i k =
    gives_same (bind_global name) m tt
    (ap (λ b. as_done (cond b m (cond (is_session name) m (binding name m)))) i ∙ ap (λ b. as_done (cond b m (binding name m))) k)

pub bound_other : (name : List ℕ) (m m0 : State) (frames : Frames) → m0 ≡ m → is_input name ≡ false → is_session name ≡ false → frames ≡ with_bound name m0.frames → Acts (bind_global name) m (Ok tt) (record m0 { frames = frames })
bound_other name m m0 frames e0 i k e =
    subst (λ (x : State). Acts (bind_global name) x (Ok tt) (record m0 { frames = frames })) e0
    (gives_inside (bind_global name) m0 tt _
    (ap (λ b. as_done (cond b m0 (cond (is_session name) m0 (binding name m0)))) i ∙ (ap (λ b. as_done (cond b m0 (binding name m0))) k
    ∙ ap (λ (x : Frames). let p : Result (Unit {0}) Stop × State = (Ok tt, record m0 { frames = x }) in p) (sym e)))
    (frames_inside m0 frames (ap (λ (x : Frames). length x.calls) e ∙ bound_open name m0.frames)))

-- the value of a variable, by where it stands
pub input_is : (name : List ℕ) (m m0 : State) (o : Option Value) → m0 ≡ m → is_input name ≡ true → o ≡ get m0.inputs name → o ≡ variable name m
input_is name m m0 o e0 i e = e ∙ (ap (λ (x : State). get x.inputs name) e0 ∙ sym (value_of_input name m i))

pub other_is : (name : List ℕ) (m m0 : State) (o : Option Value) → m0 ≡ m → is_input name ≡ false → is_session name ≡ false → o ≡ value_of name m0.frames → o ≡ variable name m
other_is name m m0 o e0 i k e = e ∙ (ap (λ (x : State). value_of name x.frames) e0 ∙ sym (value_of_other name m i k))

pub session_is : (name : List ℕ) (m m0 : State) (o : Option Value) → m0 ≡ m → is_input name ≡ false → is_session name ≡ true → o ≡ Some m0.session → o ≡ variable name m
session_is name m m0 o e0 i k e = e ∙ (ap (λ (x : State). Some x.session) e0 ∙ sym (value_of_session name m i k))

pub value_taken : (name : List ℕ) (m : State) (v : Value) → Some v ≡ variable name m → v ≡ unwrap_or (variable name m) Null
value_taken name m v e = ap (λ (o : Option Value). unwrap_or o Null) e

-- a variable read
pub variable_read : (name : List ℕ) (m : State) (v w : Value) → Some w ≡ variable name m → v ≡ w → Acts (read name) m (Ok v) m
variable_read name m v w e ev =
    gives_same (read name) m v (ap (λ (o : Option Value). let p : Result Value Stop × State = (Ok (unwrap_or o Null), m) in p) (sym e) ∙ ap (λ (x : Value). let p : Result Value Stop × State = (Ok x, m) in p) (sym ev))

pub nothing_read : (name : List ℕ) (m : State) → None ≡ variable name m → Acts (read name) m (Ok Null) m
nothing_read name m e = gives_same (read name) m Null (ap (λ (o : Option Value). let p : Result Value Stop × State = (Ok (unwrap_or o Null), m) in p) (sym e))

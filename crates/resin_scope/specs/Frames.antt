-- The variables of a request (PHP manual, "Variable scope").
use Rattle.std.specs.Prelude.{ℕ, Bool, false, not, List, [], ◌∷◌, Option, if◌then◌else◌, refl}
use Rattle.std.specs.Coded.{Coded, code_by, coded×, coded_list}
use Rattle.std.specs.FinMap.{empty, get, insert, remove, contains_key}
use Rattle.resin_value.specs.declared.value.Value.{Value}
use Rattle.resin_value.specs.Values.{value_code}
use Rattle.resin_scope.specs.Names.{Named, NameSet, named_code, name_set_code}

-- the variables of a call or of the top level
abbrev pub Variables : Type 0
Variables = Named Value

-- an open call: its own variables, and the names that it bound to the variables of the top level
pub record Frame : Type 0 where
  pub variables : Variables
  pub bound : NameSet

-- the variables of the top level, and the open calls, the innermost first
pub record Frames : Type 0 where
  pub top : Variables
  pub calls : List Frame

abbrev pub variables_code : Coded Variables
variables_code = named_code value_code

abbrev pub frame_code : Coded Frame
frame_code =
    code_by (Variables × NameSet) (coded× variables_code name_set_code) (λ f. (f.variables, f.bound))
    (λ p. record { variables = p.0; bound = p.1 }) (λ _. refl)

abbrev pub frames_code : Coded Frames
frames_code =
    code_by (Variables × List Frame) (coded× variables_code (coded_list frame_code)) (λ s. (s.top, s.calls))
    (λ p. record { top = p.0; calls = p.1 }) (λ _. refl)

-- a call that has no variables and binds no name
abbrev pub empty_frame : Frame
empty_frame = record { variables = empty; bound = empty }

-- no variables, and no open call
abbrev pub no_frames : Frames
no_frames = record { top = empty; calls = [] }

-- one more call is open
abbrev pub entered : Frames → Frames
entered s = record { top = s.top; calls = empty_frame ∷ s.calls }

-- the calls without the innermost
abbrev pub outer_of : List Frame → List Frame
outer_of [] = []
outer_of (f ∷ fs) = fs

-- the innermost call is over, and its variables and bindings are gone
abbrev pub left : Frames → Frames
left s = record { top = s.top; calls = outer_of s.calls }

-- a name means a variable of the innermost call: a call is open, and it doesn't bind the name
abbrev pub is_own : List ℕ → List Frame → Bool
is_own name [] = false
is_own name (f ∷ fs) = not (contains_key f.bound name)

-- the value of a name: a name that the innermost call binds, and each name where no call is open, means a variable of the top level
abbrev pub value_in : List ℕ → Variables → List Frame → Option Value
value_in name top [] = get top name
value_in name top (f ∷ fs) = if contains_key f.bound name then get top name else get f.variables name

abbrev pub value_of : List ℕ → Frames → Option Value
value_of name s = value_in name s.top s.calls

-- the variables with a value at a name
abbrev pub set_in : List ℕ → Value → Variables → List Frame → Frames
set_in name v top [] = record { top = insert top name v; calls = [] }
set_in name v top (f ∷ fs) =
    if contains_key f.bound name
    then record { top = insert top name v; calls = f ∷ fs }
    else record { top = top; calls = record { variables = insert f.variables name v; bound = f.bound } ∷ fs }

abbrev pub assigned : List ℕ → Value → Frames → Frames
assigned name v s = set_in name v s.top s.calls

-- a call in which a name is unset: of a name that it binds the binding ends, and the variable of the top level stays
abbrev pub unset_frame : List ℕ → Frame → Frame
unset_frame name f =
    if contains_key f.bound name
    then record { variables = f.variables; bound = remove f.bound name }
    else record { variables = remove f.variables name; bound = f.bound }

abbrev pub unset_in : List ℕ → Variables → List Frame → Frames
unset_in name top [] = record { top = remove top name; calls = [] }
unset_in name top (f ∷ fs) = record { top = top; calls = unset_frame name f ∷ fs }

abbrev pub without_name : List ℕ → Frames → Frames
without_name name s = unset_in name s.top s.calls

-- a call that binds a name: its own variable of that name is gone
abbrev pub bound_frame : List ℕ → Frame → Frame
bound_frame name f = record { variables = remove f.variables name; bound = insert f.bound name tt }

-- at the top level a binding does nothing
abbrev pub bound_in : List ℕ → List Frame → List Frame
bound_in name [] = []
bound_in name (f ∷ fs) = bound_frame name f ∷ fs

abbrev pub with_bound : List ℕ → Frames → Frames
with_bound name s = record { top = s.top; calls = bound_in name s.calls }

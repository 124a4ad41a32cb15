-- The state of a request while its scripts run (this project).
use Rattle.std.specs.Prelude.{ℕ, Bool, false, List, [], ◌∷◌, codes, Option, None}
use Rattle.std.specs.FinMap.{empty, insert}
use Rattle.resin_heap.specs.Under.value.declared.value.Value.{Value}
use Rattle.resin_heap.specs.Under.value.declared.value.Value.TheVariants.{Arr}
use Rattle.resin_heap.specs.Under.value.Changes.{empty as empty_array}
use Rattle.resin_heap.specs.Under.tree.declared.declaration.Function.{Function}
use Rattle.resin_stage.specs.Under.scope.Names.{Named, NameSet}
use Rattle.resin_stage.specs.Under.scope.Frames.{Frames, Variables, no_frames}
use Rattle.resin_stage.specs.Under.scope.Chained.{FilterChains, no_chains}
use Rattle.resin_heap.specs.Classes.{Table}
use Rattle.resin_heap.specs.Prelude.{prelude}
use Rattle.resin_heap.specs.declared.heap.Object.{Object}
use Rattle.resin_stage.specs.Stages.{Stage, new_stage}

pub record State : Type 0 where
  -- the variables of the top level and of each open call, and the names that `global` bound there
  pub frames : Frames
  -- the number of the class that declares the method which the innermost call runs, if it runs one
  pub running : Option ℕ
  -- the functions of scripts, by their names in lower case
  pub functions : Named Function
  -- the classes, those of the runtime first
  pub classes : Table
  -- the objects, in the order of their numbers from 1
  pub heap : List Object
  -- the filters of channels and functions
  pub chains : FilterChains
  -- what left so far: the journal, the last write number, the status, the headers, the body, the mail, and the open buffers
  pub stage : Stage
  -- the paths that were imported; `boot.php` always counts
  pub imported : NameSet
  -- `$_GET`, `$_POST`, `$_COOKIE` and `$_SERVER`, which are visible everywhere
  pub inputs : Variables
  -- `$_SESSION`, which is visible everywhere too; null where a script unset it
  pub session : Value
  -- how many ticks are left
  pub ticks : ℕ
  -- whether a check, a merge or a filter runs that the runtime called
  pub checking : Bool
  -- the line of the innermost statement under evaluation, 0 where none runs
  pub line : ℕ
  -- the number of the request
  pub request : ℕ

-- the names of the inputs
abbrev pub input_names : List (List ℕ)
input_names = codes "_GET" ∷ codes "_POST" ∷ codes "_COOKIE" ∷ codes "_SERVER" ∷ []

-- each of these names stands for the empty array
abbrev pub empty_arrays : List (List ℕ) → Variables
empty_arrays [] = empty
empty_arrays (name ∷ names) = insert (empty_arrays names) name (Arr empty_array)

-- the state in which a request begins, with so many ticks
abbrev pub new_state : ℕ → ℕ → State
new_state fuel request = record {
  frames = no_frames;
  running = None;
  functions = empty;
  classes = prelude;
  heap = [];
  chains = no_chains;
  stage = new_stage;
  imported = insert empty (codes "boot.php") tt;
  inputs = empty_arrays input_names;
  session = Arr empty_array;
  ticks = fuel;
  checking = false;
  line = 0;
  request = request;
}

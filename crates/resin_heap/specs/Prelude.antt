-- The classes that every script finds declared, in the order of their numbers: exceptions (PHP manual, "Predefined Exceptions"), policies and
-- filters (this project, after RESIN). The runtime runs their methods, so their trees have no statements and no line.
use Rattle.std.specs.Prelude.{◌≡◌, ◌++◌, ℕ, pos, List, [], ◌∷◌, map, slice_get, codes, Option, Some, None}
use Rattle.std.specs.Option.{option_map, option_and_then}
use Rattle.resin_tree.specs.declared.declaration.ClassDecl.{ClassDecl}
use Rattle.resin_tree.specs.declared.declaration.Function.{Function}
use Rattle.resin_tree.specs.declared.declaration.Property.{Property}
use Rattle.resin_tree.specs.declared.declaration.Parameter.{Parameter}
use Rattle.resin_tree.specs.declared.declaration.Constant.{Constant}
use Rattle.resin_tree.specs.declared.declaration.Constant.TheVariants as constant
use Rattle.resin_tree.specs.declared.expression.Literal.TheVariants as literal
use Rattle.resin_heap.specs.declared.prelude.PreludeClass.{PreludeClass}
use Rattle.resin_heap.specs.declared.prelude.PreludeClass.TheVariants.{Throwable, Exception, Error, ArithmeticError, TypeError}
use Rattle.resin_heap.specs.declared.prelude.PreludeClass.TheVariants.{ValueError, DivisionByZeroError, ArgumentCountError}
use Rattle.resin_heap.specs.declared.prelude.PreludeClass.TheVariants.{PolicyException, SqlException, Policy, NoExport, Filter, LostPolicy}
use Rattle.resin_heap.specs.declared.prelude.PreludeMethod.{PreludeMethod}
use Rattle.resin_heap.specs.declared.prelude.PreludeMethod.TheVariants.{Construct, GetMessage, GetCode, Allow, MergeToItself}
use Rattle.resin_heap.specs.declared.prelude.PreludeMethod.TheVariants.{Refuse, FilterRead, FilterWrite, FilterFunction}
use Rattle.resin_heap.specs.declared.classes.MethodAt.{MethodAt}
use Rattle.resin_heap.specs.Classes.{Table}

abbrev pub all_classes : List PreludeClass
all_classes =
    Throwable ∷ Exception ∷ Error ∷ ArithmeticError ∷ TypeError ∷ ValueError ∷ DivisionByZeroError ∷ ArgumentCountError
    ∷ PolicyException ∷ SqlException ∷ Policy ∷ NoExport ∷ Filter ∷ LostPolicy ∷ []

-- the place of a class in that list
abbrev pub number_of : PreludeClass → ℕ
number_of Throwable = 0
number_of Exception = 1
number_of Error = 2
number_of ArithmeticError = 3
number_of TypeError = 4
number_of ValueError = 5
number_of DivisionByZeroError = 6
number_of ArgumentCountError = 7
number_of PolicyException = 8
number_of SqlException = 9
number_of Policy = 10
number_of NoExport = 11
number_of Filter = 12
number_of LostPolicy = 13

abbrev pub name_of : PreludeClass → List ℕ
name_of Throwable = codes "Throwable"
name_of Exception = codes "Exception"
name_of Error = codes "Error"
name_of ArithmeticError = codes "ArithmeticError"
name_of TypeError = codes "TypeError"
name_of ValueError = codes "ValueError"
name_of DivisionByZeroError = codes "DivisionByZeroError"
name_of ArgumentCountError = codes "ArgumentCountError"
name_of PolicyException = codes "PolicyException"
name_of SqlException = codes "SqlException"
name_of Policy = codes "Policy"
name_of NoExport = codes "NoExport"
name_of Filter = codes "Filter"
name_of LostPolicy = codes "LostPolicy"

-- the class that a class is under
abbrev pub parent_class : PreludeClass → Option PreludeClass
parent_class Throwable = None
parent_class Exception = Some Throwable
parent_class Error = Some Throwable
parent_class ArithmeticError = Some Error
parent_class TypeError = Some Error
parent_class ValueError = Some Error
parent_class DivisionByZeroError = Some ArithmeticError
parent_class ArgumentCountError = Some TypeError
parent_class PolicyException = Some Exception
parent_class SqlException = Some Exception
parent_class Policy = None
parent_class NoExport = Some Policy
parent_class Filter = None
parent_class LostPolicy = Some Policy

abbrev pub text : List ℕ → Constant
text bytes = constant.Literal (literal.Text bytes)

abbrev pub zero_constant : Constant
zero_constant = constant.Literal (literal.Int (pos 0))

abbrev pub empty_array : Constant
empty_array = constant.Array []

abbrev pub parameter_of : List ℕ → Option Constant → Parameter
parameter_of name default = record { name = name; default = default }

abbrev pub method_name : PreludeMethod → List ℕ
method_name Construct = codes "__construct"
method_name GetMessage = codes "getMessage"
method_name GetCode = codes "getCode"
method_name Allow = codes "export_check"
method_name MergeToItself = codes "merge"
method_name Refuse = codes "export_check"
method_name FilterRead = codes "filter_read"
method_name FilterWrite = codes "filter_write"
method_name FilterFunction = codes "filter_func"

abbrev pub parameters_of : PreludeMethod → List Parameter
parameters_of Construct = parameter_of (codes "message") (Some (text [])) ∷ parameter_of (codes "code") (Some zero_constant) ∷ []
parameters_of GetMessage = []
parameters_of GetCode = []
parameters_of Allow = parameter_of (codes "context") None ∷ []
parameters_of MergeToItself = parameter_of (codes "set") None ∷ []
parameters_of Refuse = parameter_of (codes "context") None ∷ []
parameters_of FilterRead = parameter_of (codes "data") None ∷ parameter_of (codes "context") None ∷ []
parameters_of FilterWrite = parameter_of (codes "data") None ∷ parameter_of (codes "context") None ∷ []
parameters_of FilterFunction = parameter_of (codes "name") None ∷ parameter_of (codes "args") None ∷ []

abbrev pub function_of : PreludeMethod → Function
function_of m = record { line = 0; name = method_name m; parameters = parameters_of m; body = [] }

-- the methods that a class declares itself
abbrev pub methods_of_class : PreludeClass → List PreludeMethod
methods_of_class Exception = Construct ∷ GetMessage ∷ GetCode ∷ []
methods_of_class Error = Construct ∷ GetMessage ∷ GetCode ∷ []
methods_of_class Policy = Allow ∷ MergeToItself ∷ []
methods_of_class NoExport = Refuse ∷ []
methods_of_class LostPolicy = Refuse ∷ []
methods_of_class Filter = FilterRead ∷ FilterWrite ∷ FilterFunction ∷ []
methods_of_class Throwable = []
methods_of_class ArithmeticError = []
methods_of_class TypeError = []
methods_of_class ValueError = []
methods_of_class DivisionByZeroError = []
methods_of_class ArgumentCountError = []
methods_of_class PolicyException = []
methods_of_class SqlException = []

abbrev pub property_of : List ℕ → Constant → Property
property_of name default = record { name = name; default = Some default }

-- an exception has the empty message and the code 0 until it is given others
abbrev pub properties_of_exceptions : List Property
properties_of_exceptions = property_of (codes "message") (text []) ∷ property_of (codes "code") zero_constant ∷ []

-- a lost policy names no class, and has no fields, until it is given those of a policy whose class isn't there
abbrev pub properties_of_lost : List Property
properties_of_lost = property_of (codes "of") (text []) ∷ property_of (codes "fields") empty_array ∷ []

-- the properties that a class declares itself
abbrev pub properties_of_class : PreludeClass → List Property
properties_of_class Exception = properties_of_exceptions
properties_of_class Error = properties_of_exceptions
properties_of_class LostPolicy = properties_of_lost
properties_of_class Throwable = []
properties_of_class ArithmeticError = []
properties_of_class TypeError = []
properties_of_class ValueError = []
properties_of_class DivisionByZeroError = []
properties_of_class ArgumentCountError = []
properties_of_class PolicyException = []
properties_of_class SqlException = []
properties_of_class Policy = []
properties_of_class NoExport = []
properties_of_class Filter = []

abbrev pub declaration_of : PreludeClass → ClassDecl
declaration_of c = record {
  line = 0;
  name = name_of c;
  parent = option_map name_of (parent_class c);
  properties = properties_of_class c;
  methods = map function_of (methods_of_class c);
}

-- the declarations of all of them
abbrev pub prelude : Table
prelude = map declaration_of all_classes

-- the classes of the runtime stand before all others
abbrev pub StartsWithPrelude : Table → Type 0
StartsWithPrelude t = (more : Table) × (t ≡ prelude ++ more)

-- what the runtime does for a method, where it is one of the runtime
abbrev pub prelude_method_at : MethodAt → Option PreludeMethod
prelude_method_at at = option_and_then (λ c. slice_get (methods_of_class c) at.index) (slice_get all_classes at.class)

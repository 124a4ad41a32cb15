-- The names of script faults and of the classes that the runtime throws (this project).
use Rattle.std.specs.Prelude.{ℕ, List, codes}
use Rattle.resin_scalar.specs.declared.faults.ScriptFault.{ScriptFault}
use Rattle.resin_scalar.specs.declared.faults.ScriptFault.TheVariants.{Syntax, TooDeep, FuelSpent, DepthSpent, IntegerOverflow, FloatNeeded}
use Rattle.resin_scalar.specs.declared.faults.ScriptFault.TheVariants.{NotANumber, UndefinedFunction, UndefinedClass, UndefinedMethod}
use Rattle.resin_scalar.specs.declared.faults.ScriptFault.TheVariants.{Redeclared, BadOperand, ObjectComparison, ArrayTooDeep}
use Rattle.resin_scalar.specs.declared.faults.ScriptFault.TheVariants.{TextTooLong, ChannelInCheck, NotStorable, BadShadow, BadSession}
use Rattle.resin_scalar.specs.declared.faults.ErrorKind.{ErrorKind}
use Rattle.resin_scalar.specs.declared.faults.ErrorKind.TheVariants.{Plain, Arithmetic, DivisionByZero, «Type» as TypeKind, ArgumentCount, Value}
use Rattle.resin_scalar.specs.declared.scalar.NumFault.{NumFault}
use Rattle.resin_scalar.specs.declared.scalar.NumFault.TheVariants.{Float, Not}

-- a fault's name as it is printed
abbrev pub fault_name : ScriptFault → List ℕ
fault_name Syntax = codes "Syntax"
fault_name TooDeep = codes "TooDeep"
fault_name FuelSpent = codes "FuelSpent"
fault_name DepthSpent = codes "DepthSpent"
fault_name IntegerOverflow = codes "IntegerOverflow"
fault_name FloatNeeded = codes "FloatNeeded"
fault_name NotANumber = codes "NotANumber"
fault_name UndefinedFunction = codes "UndefinedFunction"
fault_name UndefinedClass = codes "UndefinedClass"
fault_name UndefinedMethod = codes "UndefinedMethod"
fault_name Redeclared = codes "Redeclared"
fault_name BadOperand = codes "BadOperand"
fault_name ObjectComparison = codes "ObjectComparison"
fault_name ArrayTooDeep = codes "ArrayTooDeep"
fault_name TextTooLong = codes "TextTooLong"
fault_name ChannelInCheck = codes "ChannelInCheck"
fault_name NotStorable = codes "NotStorable"
fault_name BadShadow = codes "BadShadow"
fault_name BadSession = codes "BadSession"

-- the class of a thrown error (PHP manual, "Predefined exceptions")
abbrev pub error_class : ErrorKind → List ℕ
error_class Plain = codes "Error"
error_class Arithmetic = codes "ArithmeticError"
error_class DivisionByZero = codes "DivisionByZeroError"
error_class TypeKind = codes "TypeError"
error_class ArgumentCount = codes "ArgumentCountError"
error_class Value = codes "ValueError"

-- the fault of a text that is no integer
abbrev pub number_fault : NumFault → ScriptFault
number_fault Float = FloatNeeded
number_fault Not = NotANumber

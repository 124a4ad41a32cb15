-- Arithmetic on integers of 64 bits (PHP manual, "Arithmetic Operators"; where PHP would answer a float, this project's faults).
use Rattle.std.specs.Prelude.{ℤ, pos, negsuc, ◌+ℤ◌, ◌-ℤ◌, ◌*ℤ◌, ◌^◌, Bool, nat_lt, if◌then◌else◌, Result, Ok, Err, int_div, int_rem}
use Rattle.std.specs.Ordering.{int_eq}
use Rattle.resin_value.specs.Under.scalar.declared.faults.ScriptFault.TheVariants.{IntegerOverflow, FloatNeeded}
use Rattle.resin_value.specs.Under.scalar.declared.faults.ErrorKind.TheVariants.{DivisionByZero}
use Rattle.resin_value.specs.Under.scalar.declared.faults.CallStop.{CallStop}
use Rattle.resin_value.specs.Under.scalar.declared.faults.CallStop.TheVariants.{Throw, Fault}
use Rattle.resin_ops.specs.declared.operator.Arith.{Arith}
use Rattle.resin_ops.specs.declared.operator.Arith.TheVariants.{Add, Sub, Mul, Div, Rem}

-- from -2^63 to 2^63 - 1
abbrev pub fits : ℤ → Bool
fits (pos n) = nat_lt n (2 ^ 63)
fits (negsuc n) = nat_lt n (2 ^ 63)

-- a number that must fit 64 bits
abbrev pub within : ℤ → Result ℤ CallStop
within n = if fits n then Ok n else Err (Fault IntegerOverflow)

-- a division that must leave nothing
abbrev pub even_quotient : ℤ → ℤ → Result ℤ CallStop
even_quotient a b = if int_eq (int_rem a b) (pos 0) then within (int_div a b) else Err (Fault FloatNeeded)

-- what an operator answers; `/` and `%` round toward zero, so that `%` has the sign of its left side
abbrev pub arith_of : Arith → ℤ → ℤ → Result ℤ CallStop
arith_of Add a b = within (a +ℤ b)
arith_of Sub a b = within (a -ℤ b)
arith_of Mul a b = within (a *ℤ b)
arith_of Div a b = if int_eq b (pos 0) then Err (Throw DivisionByZero) else even_quotient a b
arith_of Rem a b = if int_eq b (pos 0) then Err (Throw DivisionByZero) else Ok (int_rem a b)

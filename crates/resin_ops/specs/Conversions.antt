-- Conversions of values that operators ask for (PHP manual, "Type Juggling", in this project's profile).
use Rattle.std.specs.Prelude.{ℤ, true, false, [], codes, Option, None, Some, Result, Ok, Err}
use Rattle.std.specs.Fmt.{signed_decimal}
use Rattle.resin_value.specs.Under.label.Sets.{empty}
use Rattle.resin_value.specs.Under.lstr.Texts.{Text as LabelledText, bytes_of, carrying}
use Rattle.resin_value.specs.Under.lstr.declared.text.TextFault.{TextFault}
use Rattle.resin_value.specs.Under.lstr.declared.text.TextFault.TheVariants.{TooLong, Memory as NoMemory}
use Rattle.resin_value.specs.Under.scalar.declared.scalar.NumFault.{NumFault}
use Rattle.resin_value.specs.Under.scalar.declared.faults.ScriptFault.{ScriptFault}
use Rattle.resin_value.specs.Under.scalar.declared.faults.ScriptFault.TheVariants.{BadOperand, TextTooLong}
use Rattle.resin_value.specs.Under.scalar.declared.faults.CallStop.{CallStop}
use Rattle.resin_value.specs.Under.scalar.declared.faults.CallStop.TheVariants.{Fault, Memory}
use Rattle.resin_value.specs.Under.scalar.Faults.{number_fault}
use Rattle.resin_value.specs.Under.scalar.Scalars.{Plain, one_of, number_of, int_of}
use Rattle.resin_value.specs.declared.key.Key.{Key}
use Rattle.resin_value.specs.declared.key.Key.TheVariants.{Int as KInt, Text as KText}
use Rattle.resin_value.specs.Keys.{text_key}
use Rattle.resin_value.specs.Trees.{Tree, null, boolean, integer, text, array, object}
use Rattle.resin_value.specs.Compare.{scalar_of}

-- as a text: true is `1`, null and false are empty, an integer is its decimal digits, each with the integer's labels; arrays and objects have none
abbrev pub text_of : Tree → Result LabelledText CallStop
text_of null = Ok []
text_of (boolean true) = Ok (carrying empty (codes "1"))
text_of (boolean false) = Ok []
text_of (integer n s) = Ok (carrying s (signed_decimal n))
text_of (text t) = Ok t
text_of (array r l h) = Err (Fault BadOperand)
text_of (object n) = Err (Fault BadOperand)

-- why there is no text, as the end of a call
abbrev pub text_stop : TextFault → CallStop
text_stop TooLong = Fault TextTooLong
text_stop NoMemory = Memory

-- why a scalar is no number, as a fault of the script
abbrev pub numbered : Result ℤ NumFault → Result ℤ ScriptFault
numbered (Ok n) = Ok n
numbered (Err why) = Err (number_fault why)

-- arrays and objects are no numbers
abbrev pub number_by : (Plain → Result ℤ NumFault) → Option Plain → Result ℤ ScriptFault
number_by rule None = Err BadOperand
number_by rule (Some p) = numbered (rule p)

-- as a number in arithmetic
abbrev pub number_of_value : Tree → Result ℤ ScriptFault
number_of_value t = number_by number_of (scalar_of t)

-- by the cast `(int)`
abbrev pub int_of_value : Tree → Result ℤ ScriptFault
int_of_value t = number_by int_of (scalar_of t)

-- as the key of an array: a text that is a canonical decimal in range is that integer, true and false are 1 and 0, null is the empty text
abbrev pub key_of : Tree → Result Key CallStop
key_of null = Ok (KText [])
key_of (boolean b) = Ok (KInt (one_of b))
key_of (integer n s) = Ok (KInt n)
key_of (text t) = Ok (text_key (bytes_of t))
key_of (array r l h) = Err (Fault BadOperand)
key_of (object n) = Err (Fault BadOperand)

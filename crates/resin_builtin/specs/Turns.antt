-- How an argument is turned into its kind before a call.
use Rattle.std.specs.Prelude.{Bool, true, false, ℤ, Result, Ok, Err}
use Rattle.resin_format.specs.Under.lstr.Texts.{bytes_of}
use Rattle.resin_format.specs.Under.scalar.Scalars.{number_of, text as plain_text}
use Rattle.resin_format.specs.Under.scalar.declared.scalar.NumFault.{NumFault}
use Rattle.resin_format.specs.Under.scalar.declared.scalar.NumFault.TheVariants.{Float, Not}
use Rattle.resin_format.specs.Under.scalar.declared.faults.CallStop.{CallStop}
use Rattle.resin_format.specs.Under.scalar.declared.faults.CallStop.TheVariants.{Throw, Fault}
use Rattle.resin_format.specs.Under.scalar.declared.faults.ErrorKind.TheVariants.{«Type» as TypeError}
use Rattle.resin_format.specs.Under.scalar.declared.faults.ScriptFault.TheVariants.{FloatNeeded}
use Rattle.resin_array_fn.specs.Under.value.Trees.{Tree, null, boolean, integer, text, array, object}
use Rattle.resin_array_fn.specs.Under.ops.Conversions.{text_of}
use Rattle.resin_format.specs.Under.scalar.Scalars.{one_of}
use Rattle.resin_builtin.specs.declared.signatures.ArgKind.{ArgKind}
use Rattle.resin_builtin.specs.declared.signatures.ArgKind.TheVariants.{Text, Integer, Array, TextOrArray, Any}
use Rattle.resin_builtin.specs.Rows.{mapped, number}

-- a text by the text rule; arrays and objects throw TypeError
abbrev pub turned_text : Tree → Result Tree CallStop
turned_text (array r l h) = Err (Throw TypeError)
turned_text (object n) = Err (Throw TypeError)
turned_text t = mapped text (text_of t)

-- the integer that a whole text is, without labels; a float form would need a number with a point, and every other text throws TypeError
abbrev pub integer_in_text : Result ℤ NumFault → Result Tree CallStop
integer_in_text (Ok n) = Ok (number n)
integer_in_text (Err Float) = Err (Fault FloatNeeded)
integer_in_text (Err Not) = Err (Throw TypeError)

abbrev pub turned_integer : Tree → Result Tree CallStop
turned_integer null = Ok (number (one_of false))
turned_integer (boolean b) = Ok (number (one_of b))
turned_integer (integer n s) = Ok (integer n s)
turned_integer (text t) = integer_in_text (number_of (plain_text (bytes_of t)))
turned_integer t = Err (Throw TypeError)

abbrev pub turned_array : Tree → Result Tree CallStop
turned_array (array r l h) = Ok (array r l h)
turned_array t = Err (Throw TypeError)

-- an array stays as it is; of all else a text
abbrev pub turned_text_or_array : Tree → Result Tree CallStop
turned_text_or_array (array r l h) = Ok (array r l h)
turned_text_or_array t = turned_text t

abbrev pub turned_into : ArgKind → Tree → Result Tree CallStop
turned_into Text t = turned_text t
turned_into Integer t = turned_integer t
turned_into Array t = turned_array t
turned_into TextOrArray t = turned_text_or_array t
turned_into Any t = Ok t

-- null stays where it stands for an argument that is left out
abbrev pub turned : ArgKind → Bool → Tree → Result Tree CallStop
turned kind true null = Ok null
turned kind b t = turned_into kind t

-- One byte of a text by its place (PHP manual, "String access and modification by character").
use Rattle.std.specs.Prelude.{ℕ, ℤ, pos, negsuc, ◌+◌, ◌-◌, nat_lt, if◌then◌else◌, length, take, drop, Option, None, Some, Result, Ok, Err}
use Rattle.resin_value.specs.Under.lstr.Texts.{Text as LabelledText}
use Rattle.resin_value.specs.Under.scalar.declared.faults.ScriptFault.TheVariants.{BadOperand}
use Rattle.resin_value.specs.Under.scalar.declared.faults.CallStop.{CallStop}
use Rattle.resin_value.specs.Under.scalar.declared.faults.CallStop.TheVariants.{Fault}
use Rattle.resin_value.specs.declared.key.Key.{Key}
use Rattle.resin_value.specs.declared.key.Key.TheVariants.{Int as KInt, Text as KText}
use Rattle.resin_value.specs.declared.value.Value.{Value}
use Rattle.resin_value.specs.Trees.{Tree, null, text}
use Rattle.resin_value.specs.Seen.{tree_of}

-- the place that an index means in a text of so many bytes: from the end where it is negative, none out of range
abbrev pub place_of : ℤ → ℕ → Option ℕ
place_of (pos i) len = if nat_lt i len then Some i else None
place_of (negsuc i) len = if nat_lt i len then Some (len - (i + 1)) else None

-- the byte at a place with its labels, null where there is no place
abbrev pub byte_at : Option ℕ → LabelledText → Tree
byte_at None t = null
byte_at (Some i) t = text (take 1 (drop i t))

-- `$s[i]` on a text: only an integer key is an index
abbrev pub indexed : Key → LabelledText → Result Tree CallStop
indexed (KInt n) t = Ok (byte_at (place_of n (length t)) t)
indexed (KText b) t = Err (Fault BadOperand)

-- an answer with its value seen as a tree
abbrev pub seen_answer : Result Value CallStop → Result Tree CallStop
seen_answer (Ok v) = Ok (tree_of v)
seen_answer (Err stop) = Err stop

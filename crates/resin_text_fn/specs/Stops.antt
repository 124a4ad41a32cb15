-- What a call that may run out of memory gives in the place of a rule's answer.
use Rattle.std.specs.Prelude.{◌≡◌, ℕ, nat_le, if◌then◌else◌, length, Result, Ok, Err}
use Rattle.resin_lstr.specs.declared.limits.TheConstants.{LONGEST}
use Rattle.resin_lstr.specs.Texts.{Text}
use Rattle.resin_lstr.specs.declared.text.TextFault.{TextFault}
use Rattle.resin_lstr.specs.declared.text.TextFault.TheVariants.{TooLong, Memory as NoMemory}
use Rattle.resin_scalar.specs.declared.faults.CallStop.{CallStop}
use Rattle.resin_scalar.specs.declared.faults.CallStop.TheVariants.{Throw, Fault, Memory}
use Rattle.resin_scalar.specs.declared.faults.ScriptFault.TheVariants.{TextTooLong}
pub use Rattle.resin_scalar.specs.Stops.{GivesOrNoMemory}

-- the text where it is at most 16,777,216 bytes long, else the fault TextTooLong (this project's limit)
abbrev pub fitting : Text → Result Text CallStop
fitting t = if nat_le (length t) LONGEST then Ok t else Err (Fault TextTooLong)

-- why there is no text, as the end of a call
abbrev pub text_stop : TextFault → CallStop
text_stop TooLong = Fault TextTooLong
text_stop NoMemory = Memory

-- the same of a rule that also says how many ticks it leaves
abbrev pub GivesCharged : {X : Type 0} → Result X CallStop → ℕ → Result X CallStop × ℕ → Type 0
GivesCharged (Ok x) left rule = rule ≡ (Ok x, left)
GivesCharged (Err (Throw kind)) left rule = rule ≡ (Err (Throw kind), left)
GivesCharged (Err (Fault fault)) left rule = rule ≡ (Err (Fault fault), left)
GivesCharged (Err Memory) left rule = Unit {0}

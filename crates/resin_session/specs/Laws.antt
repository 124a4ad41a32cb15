-- Laws of session texts. No labelled text is longer than the longest one, so the premise holds of each.
use Rattle.std.specs.Prelude.{◌≡◌, ◌↔◌, ◌≤◌, length, Some}
use Rattle.resin_value.specs.Under.lstr.declared.limits.TheConstants.{LONGEST}
use Rattle.resin_value.specs.Under.lstr.Texts.{Text}
use Rattle.resin_value.specs.Arrays.{Array}
use Rattle.resin_session.specs.Sessions.{IsSessionOf}
use Rattle.resin_session.specs.Reading.{session}

-- a text keeps one array at most
abbrev pub KeepsOneArray : Type 0
KeepsOneArray = (t : Text) (a b : Array) → length t ≤ LONGEST → IsSessionOf t a → IsSessionOf t b → a ≡ b

-- what is read from a text is the array that it keeps
abbrev pub ReadsWhatIsKept : Type 0
ReadsWhatIsKept = (t : Text) (a : Array) → length t ≤ LONGEST → (session t ≡ Some a) ↔ IsSessionOf t a

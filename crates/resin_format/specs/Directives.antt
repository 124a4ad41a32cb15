-- Formats as lists of directives.
use Rattle.std.specs.Prelude.{ℕ, zero, suc, ◌==◌, Bool, false, if◌then◌else◌, List, [], ◌∷◌, Option, Some, None, slice_get}
use Rattle.resin_label.specs.Sets.{NumberSet}
use Rattle.resin_lstr.specs.Texts.{Text as LabelledText, bytes_of}
use Rattle.resin_scalar.specs.declared.faults.ErrorKind.{ErrorKind}
use Rattle.resin_scalar.specs.declared.faults.ErrorKind.TheVariants.{ArgumentCount, Value}
use Rattle.resin_format.specs.declared.form.Kind.{Kind}
use Rattle.resin_format.specs.declared.form.Form.{Form}
use Rattle.resin_format.specs.declared.form.Form.TheVariants.{Percent, Convert, Wrong}
use Rattle.resin_format.specs.Forms.{is_integer, form_of, form_len}

-- a byte that stands for itself, with its set; `%%`, a conversion or a wrong form, with the set of its `%`
pub data Directive : Type 0 where
  literal : ℕ × NumberSet → Directive
  formed : Form → NumberSet → Directive

abbrev pub is_percent : ℕ → Bool
is_percent b = b == 37

-- the directive that a format begins with, whose first byte is p
abbrev pub directive_at : ℕ × NumberSet → LabelledText → Directive
directive_at p t = if is_percent p.0 then formed (form_of (bytes_of t)) p.1 else literal p

-- how many bytes it has behind its first one
abbrev pub len_at : ℕ × NumberSet → LabelledText → ℕ
len_at p t = if is_percent p.0 then form_len (form_of (bytes_of t)) (bytes_of t) else 0

-- the directives of a format whose first n bytes were read already
abbrev pub directives_from : ℕ → LabelledText → List Directive
directives_from n [] = []
directives_from (suc n) (p ∷ t) = directives_from n t
directives_from zero (p ∷ t) = directive_at p t ∷ directives_from (len_at p t) t

-- the directives of a format; a wrong form ends them
abbrev pub directives : LabelledText → List Directive
directives f = directives_from 0 f

-- how each argument is read, in their order
abbrev pub kinds : List Directive → List Kind
kinds [] = []
kinds (literal p ∷ ds) = kinds ds
kinds (formed Percent s ∷ ds) = kinds ds
kinds (formed (Convert c) s ∷ ds) = c.kind ∷ kinds ds
kinds (formed Wrong s ∷ ds) = kinds ds

abbrev pub is_integer_there : Option Kind → Bool
is_integer_there None = false
is_integer_there (Some kind) = is_integer kind

-- whether the argument at a place, from 0, is read as an integer
abbrev pub is_integer_place : List Directive → ℕ → Bool
is_integer_place ds i = is_integer_there (slice_get (kinds ds) i)

-- what is thrown where so many arguments are given: read from the left, the first conversion that has none left throws
-- ArgumentCountError, and a wrong form ValueError
abbrev pub thrown : List Directive → ℕ → Option ErrorKind
thrown [] n = None
thrown (literal p ∷ ds) n = thrown ds n
thrown (formed Percent s ∷ ds) n = thrown ds n
thrown (formed (Convert c) s ∷ ds) zero = Some ArgumentCount
thrown (formed (Convert c) s ∷ ds) (suc n) = thrown ds n
thrown (formed Wrong s ∷ ds) n = Some Value

-- What `sprintf` answers (PHP manual, "sprintf", in this project's profile).
use Rattle.std.specs.Prelude.{List, [], ◌∷◌, ◌++◌, length, Option, Some, None, Result, Err}
use Rattle.resin_lstr.specs.Texts.{Text}
use Rattle.resin_scalar.specs.declared.faults.ErrorKind.{ErrorKind}
use Rattle.resin_scalar.specs.declared.faults.CallStop.{CallStop}
use Rattle.resin_scalar.specs.declared.faults.CallStop.TheVariants.{Throw}
use Rattle.resin_escape_fn.specs.Stops.{fitting}
use Rattle.resin_format.specs.declared.args.FormatArg.{FormatArg}
use Rattle.resin_label.specs.Sets.{NumberSet}
use Rattle.resin_format.specs.declared.form.Form.{Form}
use Rattle.resin_format.specs.declared.form.Form.TheVariants.{Percent, Convert, Wrong}
use Rattle.resin_format.specs.Directives.{Directive, literal, formed, directives, thrown}
use Rattle.resin_format.specs.Arguments.{written}

-- what a form writes whose `%` has the set s: `%%` one `%`, and a conversion the next argument
abbrev pub form_text : Form → NumberSet → List FormatArg → Text
form_text Percent s args = (37, s) ∷ []
form_text (Convert c) s [] = []
form_text (Convert c) s (a ∷ args) = written c s a
form_text Wrong s args = []

-- the arguments that are left behind a form
abbrev pub args_behind : Form → List FormatArg → List FormatArg
args_behind Percent args = args
args_behind (Convert c) [] = []
args_behind (Convert c) (a ∷ args) = args
args_behind Wrong args = args

-- the text that directives spell with their arguments: literal bytes with their sets, and what the forms write
abbrev pub spelled : List Directive → List FormatArg → Text
spelled [] args = []
spelled (literal p ∷ ds) args = p ∷ spelled ds args
spelled (formed form s ∷ ds) args = form_text form s args ++ spelled ds (args_behind form args)

abbrev pub unless_thrown : Option ErrorKind → Text → Result Text CallStop
unless_thrown (Some kind) t = Err (Throw kind)
unless_thrown None t = fitting t

-- the throw, where there is one, else the text
abbrev pub formatted : Text → List FormatArg → Result Text CallStop
formatted f args = unless_thrown (thrown (directives f) (length args)) (spelled (directives f) args)

-- Answers that are never too long.
use Rattle.std.proofs.Common.{◌≡◌, ◌≤◌, length, ap, subst, ◌∙◌}
use Rattle.std.specs.Prelude.{Bool, if◌then◌else◌, Result, Ok, Err}
use Rattle.std.proofs.lemmas.Bool.{le-leb}
use Rattle.resin_lstr.specs.declared.limits.TheConstants.{LONGEST}
use Rattle.resin_lstr.specs.Texts.{Text}
use Rattle.resin_scalar.specs.declared.faults.CallStop.{CallStop}
use Rattle.resin_scalar.specs.declared.faults.CallStop.TheVariants.{Fault}
use Rattle.resin_scalar.specs.declared.faults.ScriptFault.TheVariants.{TextTooLong}
use Rattle.resin_escape_fn.specs.Stops.{GivesOrNoMemory, fitting}

pub fits_text : (t : Text) → length t ≤ LONGEST → fitting t ≡ Ok t
fits_text t short = ap (λ (b : Bool). if b then Ok t else Err (Fault TextTooLong)) (le-leb (length t) LONGEST short)

pub short_answer : (r : Result Text CallStop) (t x : Text) → t ≡ x → length t ≤ LONGEST → GivesOrNoMemory r (fitting t) → GivesOrNoMemory r (Ok x)
short_answer r t x is short h = subst (GivesOrNoMemory r) (fits_text t short ∙ ap Ok is) h

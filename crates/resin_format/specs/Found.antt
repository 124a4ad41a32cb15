-- The forms of a format, found one after another.
use Rattle.std.specs.Prelude.{◌≡◌, ℕ, ◌+◌, ◌-◌, ◌≤◌, List, length, drop, position, Some}
use Rattle.resin_format.specs.declared.walk.Found.{Found}
use Rattle.resin_format.specs.Forms.{form_of, form_len}
use Rattle.resin_format.specs.Directives.{is_percent}

-- the first `%` from a place on, its form, and the place behind the form
pub record IsFirstForm (bytes : List ℕ) (at : ℕ) (f : Found) : Type 0 where
  pub from : at ≤ f.percent
  pub place : position is_percent (drop at bytes) ≡ Some (f.percent - at)
  pub form : f.form ≡ form_of (drop (f.percent + 1) bytes)
  pub end : f.end ≡ f.percent + 1 + form_len f.form (drop (f.percent + 1) bytes)
  pub within : f.end ≤ length bytes

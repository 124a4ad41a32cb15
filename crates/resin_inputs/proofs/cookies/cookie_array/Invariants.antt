-- The fields that are left bring the array to that of all fields.
use Rattle.std.proofs.Common.{◌≡◌, drop}
use Rattle.std.specs.Prelude.{fold}
use Rattle.resin_inputs.specs.Cookies.{put_field, cookie_array}
use Rattle.resin_inputs.proofs.cookies.cookie_array.Given as goal

abbrev pub invariant-loop-field : goal.invariant-loop-field
invariant-loop-field l = fold put_field l.array (drop l.field-index l.fields) ≡ cookie_array l.fields

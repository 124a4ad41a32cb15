-- The pairs taken so far, and then those that are left, make the array of the form.
use Rattle.std.proofs.Common.{◌≡◌, map}
use Rattle.std.specs.Prelude.{fold}
use Rattle.form_urlencoded.specs.Parse.{pairs_left}
use Rattle.resin_inputs.specs.Forms.{form_text, put_pair, form_array}
use Rattle.resin_inputs.proofs.forms.form_array.Given as goal

abbrev pub invariant-loop-pair : goal.invariant-loop-pair
invariant-loop-pair l = fold put_pair l.array (map (λ p. (form_text p.0, form_text p.1)) (pairs_left l.pair-iterator)) ≡ form_array l.form

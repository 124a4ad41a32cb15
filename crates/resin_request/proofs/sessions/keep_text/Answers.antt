use Rattle.std.proofs.Common.{refl, length, ◌<◌, ◌^◌, ◌∙◌, rules}
use Rattle.resin_interp.proofs.meaning_lemmas.Composition.{does_act, does_exit, does_lost_exit, does_next}
use Rattle.resin_interp.proofs.holding_lemmas.{frozen_length, are_written}
use Rattle.resin_request.proofs.sessions.keep_text.Goals as goal

pub returns-in_err-charge_bytes : goal.returns-in_err-charge_bytes
returns-in_err-charge_bytes g c =
    does_exit _ _ _ c.from_residual.ensures.1 (does_act _ _ _ _ (rw c.len.ensures.value at c.in_err-charge_bytes.ensures))

pub returns-in_err-marks : goal.returns-in_err-marks
returns-in_err-marks g c =
    does_next _ _ (does_act _ _ _ _ (rw c.len.ensures.value at c.in_ok-charge_bytes.ensures))
    (does_exit _ _ _ c.from_residual-in_err-marks.ensures.1 (c.in_err-marks.ensures _ _ _))

pub returns-in_err-shadow : goal.returns-in_err-shadow
returns-in_err-shadow g c =
    does_next _ _ (does_act _ _ _ _ (rw c.len.ensures.value at c.in_ok-charge_bytes.ensures))
    (does_lost_exit _ _ _ c.from_residual-in_err-shadow.ensures.1 (c.in_ok-marks.ensures _ _ _))

pub returns-in_err-path : goal.returns-in_err-path
returns-in_err-path g c =
    does_next _ _ (does_act _ _ _ _ (rw c.len.ensures.value at c.in_ok-charge_bytes.ensures))
    (does_lost_exit _ _ _ c.from_residual-in_err-path.ensures.1 (c.in_ok-marks.ensures _ _ _))

pub returns : goal.returns
returns g c =
    let short : length c.as_slice-2.result.now < 2 ^ 64 = search rules in
    let d = are_written (record { bytes = c.bytes.result.now; marks = c.in_ok-marks.marks }) _ _ (rw c.bytes.ensures (frozen_length _ _ c.in_ok-marks.ensures))
    c.len-len.ensures.marks refl (c.as_slice-2.ensures ∙ c.in_ok-shadow.ensures) short in
    does_next _ _ (does_act _ _ _ _ (rw c.len.ensures.value at c.in_ok-charge_bytes.ensures))
    (does_next _ _ (c.in_ok-marks.ensures _ _ _) (rw (c.bytes.ensures, c.as_slice.ensures.value ∙ c.in_ok-path.ensures) at (c.write_changed.ensures _ d)))

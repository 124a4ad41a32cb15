use Rattle.resin_eval_channels.proofs.eval_nested_lemmas.Arms.{does_no, does_yes}
use Rattle.resin_eval_channels.proofs.meaning_lemmas.Composition.{does_act, does_exit, does_loosely, does_next}
use Rattle.std.proofs.Common.{sym, ◌∙◌}
use Rattle.resin_eval_calls.proofs.imports.Importer.import_named.Goals as goal

pub returns-in_err-charge_bytes : goal.returns-in_err-charge_bytes
returns-in_err-charge_bytes g c =
    does_exit _ _ _ c.from_residual.ensures.1 (does_act _ _ _ _ (rw c.len.ensures.value at c.in_err-charge_bytes.ensures.acts))

pub returns-then-not-lawful_path : goal.returns-then-not-lawful_path
returns-then-not-lawful_path g c =
    does_next _ _ (does_act _ _ _ _ (rw c.len.ensures.value at c.in_ok-charge_bytes.ensures.acts)) (does_no _ _ _ (sym (rw c.bytes-path.ensures at c.lawful_path.ensures) ∙ c.if-not-lawful_path.true) (does_loosely _ _ _ _ c.throw.ensures.acts))

pub returns : goal.returns
returns g c =
    does_next _ _ (does_act _ _ _ _ (rw c.len.ensures.value at c.in_ok-charge_bytes.ensures.acts)) (does_yes _ _ _ (sym (rw c.bytes-path.ensures at c.lawful_path.ensures) ∙ c.if-not-lawful_path.false) (rw c.bytes-path.ensures at c.run_path.ensures))

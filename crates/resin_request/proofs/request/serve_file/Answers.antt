use Rattle.std.proofs.Common.{sym, ◌∙◌}
use Rattle.resin_interp.proofs.eval_nested_lemmas.Arms.{does_no, does_yes}
use Rattle.resin_request.proofs.request.serve_file.Goals as goal

pub returns-then-is_script : goal.returns-then-is_script
returns-then-is_script g c = does_yes _ _ _ (sym c.is_script.ensures ∙ c.if-is_script.true) c.run_script.ensures

pub returns-else-is_script : goal.returns-else-is_script
returns-else-is_script g c = does_no _ _ _ (sym c.is_script.ensures ∙ c.if-is_script.false) c.send_file.ensures

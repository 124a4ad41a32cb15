use Rattle.std.proofs.Common.{refl, sym, ap, subst, ◌∙◌}
use Rattle.std.specs.Prelude.{option_copied}
use Rattle.resin_step_keeping.specs.Sets.{TakesRun}
use Rattle.resin_step_keeping.proofs.Spelled.{run_is}
use Rattle.resin_step_keeping.proofs.Labelling.{takes_from, no_run_taken}
use Rattle.resin_step_keeping.proofs.labels.take_run.Goals as goal

pub returns-in_ok-longer-in-Some-clause-run : goal.returns-in_ok-longer-in-Some-clause-run
returns-in_ok-longer-in-Some-clause-run c =
    subst (λ r. TakesRun c.args.bytes.now r c.args.text c.in_ok-longer-in-Some.longer) (sym (run_is c.args.sets.now c.args.len c.args.place c.in-Some.set.now (sym c.set_at.ensures ∙ ap option_copied c.in-Some.is)))
    (takes_from c.args.bytes.now c.in-Some.set.now c.args.len c.front_len.result c.len-from.result c.args.text c.in_ok-longer-in-Some.longer _ _ c.len-from.ensures.value refl c.front_len.ensures refl c.in_ok-longer-in-Some.ensures)

pub returns-in-None-clause-run : goal.returns-in-None-clause-run
returns-in-None-clause-run c = no_run_taken c.args.sets.now c.args.len c.args.place c.args.bytes.now c.args.text (sym c.set_at.ensures ∙ ap option_copied c.in-None.is)

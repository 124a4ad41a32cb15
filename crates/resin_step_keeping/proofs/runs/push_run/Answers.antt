use Rattle.std.proofs.Common.{[], ◌∷◌, ◌++◌, ap, ◌∙◌}
use Rattle.resin_step_keeping.proofs.Freezes.{run_stored}
use Rattle.resin_step_keeping.proofs.runs.push_run.Goals as goal

pub returns-clause-runs : goal.returns-clause-runs
returns-clause-runs c =
    let at = c.in_ok-place.ensures.stored in (
      c.in_ok-place.place,
      c.in_ok-push.ensures.items ∙ ap (λ n. c.args.runs.now.items ++ (n, c.in_ok-place.place) ∷ []) (c.from.ensures ∙ c.saturating_sub.ensures),
      run_stored c.insert_full.new.self.keys c.in_ok-place.place at.0 c.in_ok-clone.field-0 c.args.run.now.set at.1 at.2 c.in_ok-clone.ensures.cases,
    )

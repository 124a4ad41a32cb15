use Rattle.std.proofs.Common.{◌-◌, ◌∙◌, sym, ap, subst}
use Rattle.resin_serve.specs.Asked.{served}
use Rattle.resin_serve.specs.Samples.{ComesTo, lines_in}
use Rattle.resin_serve.proofs.sample.count_answers.Goals as goal

pub returns-in-Ok : goal.returns-in-Ok
returns-in-Ok c =
    subst (λ d. ComesTo (served c.args.run.now.service) c.args.files.now c.args.trace.now (record { requests = c.serve_calm.new.run.number - 1; denied = d }))
    (sym (c.count_lines.ensures ∙ ap lines_in c.written.ensures)) c.in-Ok.ensures.counts.1

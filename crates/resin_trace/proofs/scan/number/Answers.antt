use Rattle.std.proofs.Common.{◌∙◌, ap, take}
use Rattle.resin_trace.specs.Front.{number}
use Rattle.resin_trace.proofs.Near.{few}
use Rattle.resin_trace.proofs.scan.number.Goals as goal

pub returns-clause-is : goal.returns-clause-is
returns-clause-is c =
    c.number_of_few.ensures.is ∙ ap (λ m. number c.args.low c.args.high (take m c.args.text.now)) c.min-few.ensures
    ∙ few c.args.low c.args.high c.args.text.now c.requires.some c.requires.high

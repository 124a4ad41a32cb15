use Rattle.std.proofs.Common.{ap, ◌∙◌}
use Rattle.resin_target.specs.Stores.{put_in}
use Rattle.resin_target.proofs.Twice.{put_twice}
use Rattle.resin_target.proofs.stores.take_at.Goals as goal

pub returns-in-Ok-clause-next : goal.returns-in-Ok-clause-next
returns-in-Ok-clause-next c = λ v. ap (put_in c.args.key.now v) c.in-Ok.ensures.ok ∙ put_twice c.args.key.now v c.args.array.now

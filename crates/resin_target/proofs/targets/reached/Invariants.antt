use Rattle.std.proofs.Common.{◌≡◌, drop}
use Rattle.resin_target.specs.declared.place.Place.TheVariants.{Variable}
use Rattle.resin_target.specs.Targets.{reached}
use Rattle.resin_target.proofs.targets.reached.Given as goal

abbrev pub invariant-loop-hop : goal.invariant-loop-hop
invariant-loop-hop l = reached (drop l.hop-index l.path.hops) l.at l.m ≡ reached l.path.hops (Variable l.name) l.m

use Rattle.std.proofs.Common.{◌≡◌, drop}
use Rattle.resin_target.specs.declared.place.Place.TheVariants.{Variable}
use Rattle.resin_target.specs.Targets.{standing, read_hops}
use Rattle.resin_target.proofs.targets.value_of.Given as goal

abbrev pub invariant-loop-hop : goal.invariant-loop-hop
invariant-loop-hop l = read_hops (drop l.hop-index l.path.hops) l.here l.m ≡ read_hops l.path.hops (standing (Variable l.name) l.m) l.m

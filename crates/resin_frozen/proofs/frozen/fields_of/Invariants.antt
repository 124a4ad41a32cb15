-- The pairs before the index are fields.
use Rattle.std.proofs.Common.{◌≡◌, take}
use Rattle.resin_frozen.specs.Policies.{pairs_of}
use Rattle.resin_frozen.proofs.frozen.fields_of.Given as goal

abbrev pub invariant-loop-i : goal.invariant-loop-i
invariant-loop-i l = pairs_of l.fields ≡ take l.i l.pairs.entries

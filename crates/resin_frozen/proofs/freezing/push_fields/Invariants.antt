-- The fields before the index are written.
use Rattle.std.proofs.Common.{take}
use Rattle.resin_frozen.specs.Policies.{ROOM, pairs_of}
use Rattle.resin_frozen.proofs.Loops.{SoFar}
use Rattle.resin_frozen.proofs.freezing.push_fields.Given as goal

abbrev pub invariant-loop-name : goal.invariant-loop-name
invariant-loop-name l = SoFar ROOM l.initial.text (pairs_of (take l.name-index l.fields)) l.text

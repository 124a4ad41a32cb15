use Rattle.std.proofs.Common.{◌≡◌, fold, take}
use Rattle.resin_names.specs.Names.{fed_name}
use Rattle.resin_names.proofs.names.feed.Given as goal

abbrev pub invariant-loop-byte : goal.invariant-loop-byte
invariant-loop-byte g l = l.state ≡ fold g.H.Hasher.write l.fn.state (fed_name (take l.byte-index l.bytes))

use Rattle.std.proofs.Common.{◌≡◌, take}
use Rattle.std.specs.Prelude.{nat_eq}
use Rattle.std.specs.List.{fold}
use Rattle.indexmap.specs.IndexSet.{insert_key}
use Rattle.resin_audit.proofs.labels.insert_all.Given as goal

abbrev pub invariant-loop-n : goal.invariant-loop-n
invariant-loop-n l = l.seen.keys ≡ fold (insert_key nat_eq) l.fn.seen.keys (take l.n-index l.more)

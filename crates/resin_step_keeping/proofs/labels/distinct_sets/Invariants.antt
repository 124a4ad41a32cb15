-- the sets of the runs before the index are met, and those from it on are left
use Rattle.std.proofs.Common.{◌≡◌, drop}
use Rattle.std.specs.Prelude.{fold}
use Rattle.indexmap.specs.IndexSet.{insert_key}
use Rattle.resin_shadow.specs.Parts.{spelled_by}
use Rattle.resin_step_parts.specs.Under.label.Sets.{same}
use Rattle.resin_step_parts.specs.Under.lstr.Texts.{distinct}
use Rattle.resin_step_keeping.proofs.labels.distinct_sets.Given as goal

abbrev pub invariant-loop-len : goal.invariant-loop-len
invariant-loop-len l = fold (insert_key same) l.met.keys (spelled_by l.sets (drop l.len-index l.runs)) ≡ distinct same (spelled_by l.sets l.runs)

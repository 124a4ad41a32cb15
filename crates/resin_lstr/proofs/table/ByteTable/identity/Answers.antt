use Rattle.std.proofs.Common.{◌≡◌, length, ap, ◌∙◌, arith}
use Rattle.std.specs.Prelude.{None}
use Rattle.std.proofs.lemmas.List.{length-replicate}
use Rattle.resin_lstr.proofs.Rows.{identity_rows}
use Rattle.resin_lstr.proofs.table.ByteTable.identity.Goals as goal

pub invariant_of-result : goal.invariant_of-result
invariant_of-result c = let all : c.loop-row._row ≡ 256 = omega arith in ap length c.loop-row.invariant ∙ length-replicate c.loop-row._row None ∙ all

pub returns : goal.returns
returns c = identity_rows c.loop-row.rows.items c.loop-row._row (omega arith) c.loop-row.invariant

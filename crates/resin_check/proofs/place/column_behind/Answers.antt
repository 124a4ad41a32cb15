use Rattle.std.proofs.Common.{◌+◌, drop, ap, sym, ◌∙◌, arith}
use Rattle.std.proofs.lemmas.List.{at_drop_more, at_drop_all}
use Rattle.resin_check.specs.Places.{column_behind}
use Rattle.resin_check.proofs.place.column_behind.Goals as goal

pub loop-byte-preserved : goal.loop-byte-preserved
loop-byte-preserved c =
    let front = c.args.front.now in
    let i = c.loop-byte.byte-index in
    let one_more = at_drop_more (column_behind c.loop-byte.column) front i 0 (omega arith) in
    (ap (λ n. column_behind n (drop (i + 1) front)) c.next_column-column.ensures.value ∙ sym one_more ∙ c.loop-byte.invariant.0, omega arith)

pub returns : goal.returns
returns c = sym (at_drop_all (column_behind c.loop-byte.column) c.args.front.now c.loop-byte.byte-index (omega arith)) ∙ c.loop-byte.invariant.0

use Rattle.std.proofs.Common.{ℕ, Option, Some, refl, sym, subst}
use Rattle.resin_heap.specs.declared.class.Standing.{Standing}
use Rattle.resin_heap.specs.Tables.{StandsUnder}
use Rattle.resin_heap.proofs.Kept_tables.{stands_under}
use Rattle.resin_heap.proofs.table.under.Goals as goal

pub returns : goal.returns
returns c =
    let es = c.args.by_name.now.entries in
    let above = c.class_at.result.now.standing in
    let at : Standing = record { parent = Some c.in-Some.parent; jump = Some c.jump_over.result; giver = above.giver; methods = above.methods } in
    subst (λ (o : Option ℕ). StandsUnder es o at) (sym c.in-Some.is)
    (stands_under es c.requires.stand c.in-Some.parent c.class_at.result.now at c.jump_over.result c.class_at.ensures refl c.jump_over.ensures refl refl)

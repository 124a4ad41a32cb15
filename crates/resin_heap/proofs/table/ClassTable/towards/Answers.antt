use Rattle.std.proofs.Common.{false, sym, ap, ◌∙◌, arith}
use Rattle.std.specs.Option.{option_map_or}
use Rattle.resin_heap.specs.Classes.{is_a, parent_of}
use Rattle.resin_heap.proofs.Kept_tables.{jump_at}
use Rattle.resin_heap.proofs.Lines.{is_a_above, parent_smaller}
use Rattle.resin_heap.proofs.table.ClassTable.towards.Goals as goal

pub returns-in-Some-clause-alike : goal.returns-in-Some-clause-alike
returns-in-Some-clause-alike c =
    let jump = jump_at c.self.inside.by_name.entries c.self.invariant.stand c.args.c c.class_at.result.now c.in-Some.jump c.class_at.ensures c.in-Some.is in
    ap (λ t. is_a t c.args.c c.args.other) (sym c.self.view_is) ∙ jump.leads.alike c.args.other (omega arith) ∙ ap (λ t. is_a t c.in-Some.jump.to c.args.other) c.self.view_is

pub returns-in-Some-clause-smaller : goal.returns-in-Some-clause-smaller
returns-in-Some-clause-smaller c =
    (jump_at c.self.inside.by_name.entries c.self.invariant.stand c.args.c c.class_at.result.now c.in-Some.jump c.class_at.ensures c.in-Some.is).smaller

pub returns-in_default-clause-alike : goal.returns-in_default-clause-alike
returns-in_default-clause-alike c =
    let stands = c.self.invariant.stand c.args.c c.class_at.result.now c.class_at.ensures in
    let under = stands.parent ∙ ap (λ t. parent_of t c.args.c) c.self.view_is in
    is_a_above c.args.self.now c.args.c c.args.other c.requires.above ∙ ap (λ o. option_map_or (λ above. is_a c.args.self.now above c.args.other) o false) (sym under)

pub returns-in_default-clause-smaller : goal.returns-in_default-clause-smaller
returns-in_default-clause-smaller c =
    let stands = c.self.invariant.stand c.args.c c.class_at.result.now c.class_at.ensures in
    parent_smaller c.args.self.now c.args.c _ (stands.parent ∙ ap (λ t. parent_of t c.args.c) c.self.view_is)

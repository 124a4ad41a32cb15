use Rattle.std.proofs.Common.{sym, subst}
use Rattle.resin_heap.specs.Classes.{Table}
use Rattle.resin_heap.specs.Prelude.{StartsWithPrelude}
use Rattle.resin_heap.proofs.Seats.{either_way}
use Rattle.resin_heap.proofs.Kept_tables.{begins_append}
use Rattle.resin_heap.proofs.classes.Classes.append.Goals as goal

pub invariant_of-self : goal.invariant_of-self
invariant_of-self c =
    either_way c.append_to.result c.append_to.ensures.ok c.append_to.ensures.err
    (λ e. subst (λ (t : Table). StartsWithPrelude t) (sym e) (begins_append c.self.inside.table.value c.args.c.now c.self.invariant))
    (λ e. subst (λ (t : Table). StartsWithPrelude t) (sym e) c.self.invariant)

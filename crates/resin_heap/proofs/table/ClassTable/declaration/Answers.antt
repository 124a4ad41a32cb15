use Rattle.std.proofs.Common.{sym, ap, ◌∙◌, slice_get}
use Rattle.resin_heap.proofs.Kept_tables.{declaration_at}
use Rattle.resin_heap.proofs.table.ClassTable.declaration.Goals as goal

pub returns : goal.returns
returns c = ap (λ t. slice_get t c.args.c) (sym c.self.view_is) ∙ declaration_at c.self.inside.by_name.entries c.args.c _ c.class_at.ensures

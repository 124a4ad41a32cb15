use mir.Val.{SFits}
use Rattle.std.proofs.Common.{ap, rules, w64, ℤ}
use Rattle.std.proofs.lemmas.Int.{to_z-of_z}
use Rattle.resin_eval_writes.specs.Under.base.declared.cell.Cell.TheVariants as cell
use Rattle.resin_eval_writes.specs.Under.store.Cells.{stored}
use Rattle.resin_eval_writes.proofs.eval_nested_lemmas.Arms.{does_given}
use Rattle.resin_eval_writes.proofs.meaning_lemmas.Composition.{does_exit, does_lost_exit, does_next, does_unbegun_exit}
use Rattle.resin_eval_queries.proofs.literals.LiteralKeeper.integer.Goals as goal

pub returns-in_err-bytes : goal.returns-in_err-bytes
returns-in_err-bytes g c =
    does_unbegun_exit _ _ _ c.from_residual.ensures.1

pub returns-in_err-set : goal.returns-in_err-set
returns-in_err-set g c =
    does_exit _ _ _ c.from_residual-in_err-set.ensures.1 (rw c.in_ok-bytes.ensures at c.in_err-set.ensures)

pub returns-in_err-byte : goal.returns-in_err-byte
returns-in_err-byte g c =
    does_lost_exit _ _ _ c.from_residual-in_err-byte.ensures.1 (rw c.in_ok-bytes.ensures at c.in_ok-set.ensures)

pub returns-in_err-shadow : goal.returns-in_err-shadow
returns-in_err-shadow g c =
    does_next _ _ (rw c.in_ok-bytes.ensures at c.in_ok-set.ensures) (does_exit _ _ _ c.from_residual-in_err-shadow.ensures.1 ((rw c.in_ok-byte.ensures at c.in_err-shadow.ensures) _ _ _))

pub returns : goal.returns
returns g c =
    let fits : SFits w64 c.args.value = search rules in
    does_next _ _ (rw c.in_ok-bytes.ensures at c.in_ok-set.ensures)
    (does_next _ _ ((rw c.in_ok-byte.ensures at c.in_ok-shadow.ensures) _ _ _) (does_given _ _ (ap (λ (n : ℤ). stored (cell.Int n) (cell.Text c.in_ok-shadow.shadow)) (to_z-of_z w64 c.args.value fits))))

use Rattle.std.proofs.Common.{◌≡◌, ℕ, suc, ◌+◌, ◌<◌, List, ◌∷◌, length, drop, get_or, ap, ◌∙◌, arith}
use Rattle.std.proofs.Math.Seq.{drop-cons}
use Rattle.resin_eval_writes.specs.Under.meaning_tables.Under.sql_words.declared.literals.Literal.{Literal}
use Rattle.resin_eval_writes.specs.Under.meaning_tables.Under.sql_words.declared.literals.Literal.TheVariants.{Null}
use Rattle.resin_eval_writes.proofs.meaning_lemmas.Composition.{does_exit, does_give, does_lost_exit, does_next, leads_here, nothing_left}
use Rattle.resin_eval_queries.proofs.literals.LiteralKeeper.literals.Goals as goal

next_literal : (xs : List Literal) (i : ℕ) → i < length xs → drop i xs ≡ get_or xs i Null ∷ drop (i + 1) xs
next_literal xs i lt = drop-cons xs i Null lt ∙ ap (λ n. get_or xs i Null ∷ drop n xs) (let h : suc i ≡ i + 1 = omega arith in h)

pub loop-next-init : goal.loop-next-init
loop-next-init g c =
    rw c.new-cells.ensures (leads_here _ _)

pub returns-in_err-cell : goal.returns-in_err-cell
returns-in_err-cell g c =
    c.loop-next.invariant.goes_on _ _ (rw (next_literal c.args.literals.now c.loop-next.next-index c.loop-next-test.true) (does_exit _ _ _ c.from_residual.ensures.1 c.in_err-cell.ensures))

pub returns-in_err-put : goal.returns-in_err-put
returns-in_err-put g c =
    c.loop-next.invariant.goes_on _ _ (rw (next_literal c.args.literals.now c.loop-next.next-index c.loop-next-test.true) (does_lost_exit _ _ _ c.from_residual-in_err-put.ensures.1 c.in_ok-cell.ensures))

pub loop-next-preserved : goal.loop-next-preserved
loop-next-preserved g c =
    record { goes_on = λ r w e. c.loop-next.invariant.goes_on r w (rw (next_literal c.args.literals.now c.loop-next.next-index c.loop-next-test.true) (does_next _ _ c.in_ok-cell.ensures (rw c.in_ok-put.ensures at e))) }

pub returns : goal.returns
returns g c =
    c.loop-next.invariant.goes_on _ _ (rw (nothing_left c.args.literals.now c.loop-next.next-index c.loop-next-test.false) (does_give _ _))

use Rattle.std.proofs.Common.{ℕ, ◌+◌, List, drop, get_or, sym, ap, ◌∙◌, arith}
use Rattle.resin_plan.specs.Plans.{here}
use Rattle.resin_plan.specs.Statements.{delete_rows, one_more}
use Rattle.resin_plan.specs.TableCalls.{TakeRow}
use Rattle.resin_plan.proofs.Lists.{front_number, nothing_left}
use Rattle.resin_plan.proofs.Runs.{call_exit, ends_then, leads_on, leads_same, gives}
use Rattle.resin_plan.proofs.changes.delete_rows.Goals as goal

pub loop-number-init : goal.loop-number-init
loop-number-init g c = (here, omega arith)

pub returns-in_err-held : goal.returns-in_err-held
returns-in_err-held g c =
    call_exit (TakeRow c.args.table.now (get_or c.args.numbers.now c.loop-number.number-index 0)) (λ was. delete_rows c.args.scanned c.args.table.now (drop (c.loop-number.number-index + 1) c.args.numbers.now) (one_more c.loop-number.count was)) _ c.from_residual.ensures.1
    (leads_same (ap (λ (ns : List ℕ). delete_rows c.args.scanned c.args.table.now ns c.loop-number.count) (front_number c.args.numbers.now c.loop-number.number-index c.loop-number-test.true)) c.loop-number.invariant.0)
    c.in_err-held.ensures

pub loop-number-preserved : goal.loop-number-preserved
loop-number-preserved g c = (
  leads_same (sym (ap (delete_rows c.args.scanned c.args.table.now (drop (c.loop-number.number-index + 1) c.args.numbers.now)) c.one_more-count.ensures.is))
      (leads_on (TakeRow c.args.table.now (get_or c.args.numbers.now c.loop-number.number-index 0)) (λ was. delete_rows c.args.scanned c.args.table.now (drop (c.loop-number.number-index + 1) c.args.numbers.now) (one_more c.loop-number.count was)) c.in_ok-held.held
      (leads_same (ap (λ (ns : List ℕ). delete_rows c.args.scanned c.args.table.now ns c.loop-number.count) (front_number c.args.numbers.now c.loop-number.number-index c.loop-number-test.true)) c.loop-number.invariant.0)
      c.in_ok-held.ensures),
  omega (arith, c.one_more-count.ensures.most, c.loop-number.invariant.1),
)

pub returns : goal.returns
returns g c =
    ends_then c.loop-number.invariant.0
    (gives c.counted.result (c.counted.ensures ∙ sym (ap (λ (ns : List ℕ). delete_rows c.args.scanned c.args.table.now ns c.loop-number.count) (nothing_left c.args.numbers.now c.loop-number.number-index c.loop-number-test.false))))

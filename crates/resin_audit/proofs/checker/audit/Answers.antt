use Rattle.std.proofs.Common.{◌≡◌, ◌<◌, ◌≤◌, ◌-◌, ◌^◌, length, sym, ap, subst, arith, rules}
use Rattle.resin_audit.specs.Progress.{none_yet}
use Rattle.resin_audit.specs.Verdicts.{Says}
use Rattle.resin_audit.proofs.Standing.{Stands, stands_first, goes_on, shorter, counted, fewer_events, rest_within, ends, not_further}
use Rattle.resin_audit.proofs.checker.audit.Goals as goal

pub items-init : goal.items-init
items-init c =
    subst (λ s. Stands c.args.text.now s c.new-rest.result) (sym c.new-progress.ensures)
    (subst (λ r. Stands c.args.text.now none_yet r) (sym c.new-rest.ensures) (stands_first c.args.text.now))

pub overflow_sub-offset : goal.overflow_sub-offset
overflow_sub-offset c = let k = rest_within c.args.text.now c.items.progress c.items.rest c.items.invariant in let e = c.len-in-items.ensures in omega (arith, k, e)

pub read-requires-clause-counted : goal.read-requires-clause-counted
read-requires-clause-counted c = counted c.args.text.now c.items.progress c.items.rest c.items.invariant

pub read-requires-clause-room : goal.read-requires-clause-room
read-requires-clause-room c =
    let some : 0 < length c.items.rest = let e = c.len.ensures in let t = c.items-test.true in omega (arith, e, t) in
    fewer_events c.args.text.now c.items.progress c.items.rest c.items.invariant some (first_of (search rules, omega arith))

pub items-smaller : goal.items-smaller
items-smaller c = shorter c.items.progress c.read.new.self c.items.rest c.read.new.rest c.in-Ok.ensures

pub items-preserved : goal.items-preserved
items-preserved c = goes_on c.args.text.now c.items.progress c.read.new.self c.items.rest c.read.new.rest c.items.invariant c.in-Ok.ensures

pub returns-in-Err-Form : goal.returns-in-Err-Form
returns-in-Err-Form c =
    let some : 0 < length c.items.rest = let e = c.len.ensures in let t = c.items-test.true in omega (arith, e, t) in
    not_further c.args.text.now c.items.progress c.read.new.self c.items.rest c.read.new.rest (length c.args.text.now - c.len-in-items.result) c.items.invariant some
    (rw c.in-Err-Form.field-0-is at c.in-Err-Form.ensures) (ap (λ n. length c.args.text.now - n) c.len-in-items.ensures)

pub returns : goal.returns
returns c =
    let none : length c.items.rest ≡ 0 = let e = c.len.ensures in let t = c.items-test.false in omega (arith, e, t) in
    subst (λ v. Says c.args.text.now v) (sym c.verdict.ensures) (ends c.args.text.now c.items.progress c.items.rest c.items.invariant none)

use Rattle.std.proofs.Common.{◌≡◌, ◌+◌, true, Some, None, rules, ap, sym, length}
use Rattle.std.specs.Prelude.{nat_lt}
use Rattle.resin_form.specs.Form.{give, taken}
use Rattle.resin_form.specs.Reading.{Got}
use Rattle.resin_form.proofs.Turns.{goes_on, ends}
use Rattle.resin_sql_words.specs.Forms.{rules as no_rules, in_limits}
use Rattle.resin_guard.specs.Pages as spec
use Rattle.resin_guard.specs.Pages.{raw_step}
use Rattle.resin_guard.proofs.stretch.raw_text.Goals as goal

pub turns-preserved : goal.turns-preserved
unfolding spec.raw_from
turns-preserved c =
    let w = c.args.name.now in
    let h : nat_lt c.turns.count (length w + 2) ≡ true = search rules in
    goes_on no_rules in_limits 1 (λ n _. nat_lt n (length w + 2)) (λ n t. taken (give (raw_step w n t.byte))) _ c.turns.count c.turns.bytes c.turns.invariant
    c.in-Some.next c.skip.new.self c.skip.new.self c.raw_step-count.result c.skip.ensures h (ap (λ v. Got v c.skip.new.self) (sym c.raw_step-count.ensures))

pub returns-then-not-is_open : goal.returns-then-not-is_open
unfolding spec.raw_from
returns-then-not-is_open c =
    let w = c.args.name.now in
    ends no_rules in_limits 1 (λ n _. nat_lt n (length w + 2)) (λ n t. taken (give (raw_step w n t.byte))) _ c.turns.count c.turns.bytes c.turns.invariant
    (Some c.in-Some.next) (search rules) (λ t e. search rules)

pub returns-in_default : goal.returns-in_default
unfolding spec.raw_from
returns-in_default c =
    let w = c.args.name.now in
    ends no_rules in_limits 1 (λ n _. nat_lt n (length w + 2)) (λ n t. taken (give (raw_step w n t.byte))) _ c.turns.count c.turns.bytes c.turns.invariant
    None (search rules) (λ t e. cc)

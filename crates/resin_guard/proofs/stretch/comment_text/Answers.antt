use Rattle.std.proofs.Common.{◌≡◌, true, Some, None, rules, ap, sym}
use Rattle.std.specs.Prelude.{nat_lt}
use Rattle.resin_form.specs.Form.{give, taken}
use Rattle.resin_form.specs.Reading.{Got}
use Rattle.resin_form.proofs.Turns.{goes_on, ends}
use Rattle.resin_sql_words.specs.Forms.{rules as no_rules, in_limits}
use Rattle.resin_guard.specs.Pages as spec
use Rattle.resin_guard.specs.Pages.{comment_step}
use Rattle.resin_guard.proofs.stretch.comment_text.Goals as goal

pub turns-preserved : goal.turns-preserved
unfolding spec.comment_from
turns-preserved c =
    let h : nat_lt c.turns.count 3 ≡ true = search rules in
    goes_on no_rules in_limits 1 (λ n _. nat_lt n 3) (λ n t. taken (give (comment_step n t.byte))) _ c.turns.count c.turns.bytes c.turns.invariant
    c.in-Some.next c.skip.new.self c.skip.new.self c.comment_step-count.result c.skip.ensures h (ap (λ v. Got v c.skip.new.self) (sym c.comment_step-count.ensures))

pub returns-then-count-ge3 : goal.returns-then-count-ge3
unfolding spec.comment_from
returns-then-count-ge3 c =
    ends no_rules in_limits 1 (λ n _. nat_lt n 3) (λ n t. taken (give (comment_step n t.byte))) _ c.turns.count c.turns.bytes c.turns.invariant
    (Some c.in-Some.next) (search rules) (λ t e. search rules)

pub returns-in_default : goal.returns-in_default
unfolding spec.comment_from
returns-in_default c =
    ends no_rules in_limits 1 (λ n _. nat_lt n 3) (λ n t. taken (give (comment_step n t.byte))) _ c.turns.count c.turns.bytes c.turns.invariant
    None (search rules) (λ t e. cc)

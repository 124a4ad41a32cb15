use Rattle.std.proofs.Common.{◌≡◌, ◌+◌, true, Some, None, rules, refl}
use Rattle.std.specs.Prelude.{not, ◌==◌}
use Rattle.resin_form.specs.Form.{give, taken}
use Rattle.resin_form.proofs.Turns.{goes_on, ends}
use Rattle.resin_sql_words.specs.Forms.{rules as no_rules, in_limits}
use Rattle.resin_guard.specs.Pages as spec
use Rattle.resin_guard.proofs.stretch.before.Goals as goal

pub turns-preserved : goal.turns-preserved
unfolding spec.before
turns-preserved c =
    let h : not (c.in-Some.next.byte == c.args.end) ≡ true = search rules in
    goes_on no_rules in_limits 1 (λ _ t. not (t.byte == c.args.end)) (λ _ t. taken (give (t.at + 1))) _ c.turns.to c.turns.bytes c.turns.invariant
    c.in-Some.next c.skip.new.self c.skip.new.self (c.in-Some.next.at + 1) c.skip.ensures h refl

pub returns-then-next-end : goal.returns-then-next-end
unfolding spec.before
returns-then-next-end c =
    ends no_rules in_limits 1 (λ _ t. not (t.byte == c.args.end)) (λ _ t. taken (give (t.at + 1))) _ c.turns.to c.turns.bytes c.turns.invariant
    (Some c.in-Some.next) (search rules) (λ t e. let same : t ≡ c.in-Some.next = cc in rw same (search rules))

pub returns-in_default : goal.returns-in_default
unfolding spec.before
returns-in_default c =
    ends no_rules in_limits 1 (λ _ t. not (t.byte == c.args.end)) (λ _ t. taken (give (t.at + 1))) _ c.turns.to c.turns.bytes c.turns.invariant
    None (search rules) (λ t e. cc)

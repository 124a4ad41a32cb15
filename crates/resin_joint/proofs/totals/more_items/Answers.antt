use Rattle.std.proofs.Common.{◌≡◌, true, Some, None, rules}
use Rattle.std.proofs.lemmas.Result.{err_from_is_err_and}
use Rattle.resin_form.specs.Form.{taken}
use Rattle.resin_form.proofs.Turns.{smaller, goes_on, fails, ends}
use Rattle.resin_sql_words.specs.Forms.{rules as no_rules, in_limits}
use Rattle.resin_sql.specs.Statements.{is_comma}
use Rattle.resin_joint.specs.Totals as spec
use Rattle.resin_joint.proofs.totals.more_items.Goals as goal
use Rattle.resin_joint.proofs.totals.more_items.Goals.{in-Some+then-not-is_comma, in_default}

pub returns-in_err-done : goal.returns-in_err-done
unfolding spec.more_items
returns-in_err-done c =
    let p = err_from_is_err_and c.from_residual.result c.from_residual.ensures.1 in
    let h : is_comma c.in-Some.next.byte ≡ true = search rules in
    rw (p.1, p.2) (fails no_rules in_limits 1 (λ _ t. is_comma t.byte) (λ its _. taken (spec.one_more_item its)) _ c.turns.done c.turns.bytes c.turns.invariant
    c.in-Some.next c.skip.new.self c.one_more_item.new.bytes c.in_err-done.field-0.0 c.skip.ensures h c.in_err-done.ensures)

pub turns-smaller : goal.turns-smaller
turns-smaller c = smaller no_rules in_limits 1 (taken (spec.one_more_item c.turns.done)) c.turns.bytes c.in-Some.next c.skip.new.self c.in_ok-done.done c.one_more_item.new.bytes c.skip.ensures c.in_ok-done.ensures

pub turns-preserved : goal.turns-preserved
unfolding spec.more_items
turns-preserved c =
    let h : is_comma c.in-Some.next.byte ≡ true = search rules in
    goes_on no_rules in_limits 1 (λ _ t. is_comma t.byte) (λ its _. taken (spec.one_more_item its)) _ c.turns.done c.turns.bytes c.turns.invariant
    c.in-Some.next c.skip.new.self c.one_more_item.new.bytes c.in_ok-done.done c.skip.ensures h c.in_ok-done.ensures

pub returns : goal.returns
unfolding spec.more_items
returns c = elim c.match-peek.branch [
  | in-Some+then-not-is_comma w ↦ ends no_rules in_limits 1 (λ _ t. is_comma t.byte) (λ its _. taken (spec.one_more_item its)) _ c.turns.done c.turns.bytes c.turns.invariant
      (Some w.in-Some.next) (search rules) (λ t e. let same : t ≡ w.in-Some.next = cc in rw same (search rules))
  | in_default w ↦ ends no_rules in_limits 1 (λ _ t. is_comma t.byte) (λ its _. taken (spec.one_more_item its)) _ c.turns.done c.turns.bytes c.turns.invariant
      None (search rules) (λ t e. cc)
]

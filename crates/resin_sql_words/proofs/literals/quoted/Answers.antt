use Rattle.std.proofs.Common.{◌≡◌, true, Some, None, rules, sym, ap}
use Rattle.resin_form.specs.Form.{give, taken}
use Rattle.resin_form.specs.Reading.{Got}
use Rattle.resin_form.proofs.Turns.{goes_on, ends}
use Rattle.resin_sql_words.specs.Literals as spec
use Rattle.resin_sql_words.specs.Literals.{is_quoted, quoted_step}
use Rattle.resin_sql_words.specs.Forms.{rules as no_rules, in_limits}
use Rattle.resin_sql_words.proofs.literals.quoted.Goals as goal

pub turns-preserved : goal.turns-preserved
unfolding spec.quoted
turns-preserved c =
    let h : is_quoted c.turns.closed c.in-Some.next.byte ≡ true = search rules in
    goes_on no_rules in_limits 1 (λ s t. is_quoted s t.byte) (λ s t. taken (give (quoted_step s t))) _ c.turns.closed c.turns.bytes c.turns.invariant
    c.in-Some.next c.skip.new.self c.skip.new.self c.quoted_step-closed.result c.skip.ensures h (ap (λ v. Got v c.skip.new.self) (sym c.quoted_step-closed.ensures))

pub returns-then-not-is_quoted : goal.returns-then-not-is_quoted
unfolding spec.quoted
returns-then-not-is_quoted c =
    ends no_rules in_limits 1 (λ s t. is_quoted s t.byte) (λ s t. taken (give (quoted_step s t))) _ c.turns.closed c.turns.bytes c.turns.invariant
    (Some c.in-Some.next) (search rules) (λ t e. let same : t ≡ c.in-Some.next = cc in rw same (search rules))

pub returns-in_default : goal.returns-in_default
unfolding spec.quoted
returns-in_default c =
    ends no_rules in_limits 1 (λ s t. is_quoted s t.byte) (λ s t. taken (give (quoted_step s t))) _ c.turns.closed c.turns.bytes c.turns.invariant
    None (search rules) (λ t e. cc)

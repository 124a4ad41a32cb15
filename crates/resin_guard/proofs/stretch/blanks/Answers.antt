use Rattle.std.proofs.Common.{◌≡◌, true, Some, None, rules, refl}
use Rattle.resin_form.specs.Form.{give, taken}
use Rattle.resin_form.proofs.Turns.{goes_on, ends}
use Rattle.resin_sql_words.specs.Forms.{rules as no_rules, in_limits}
use Rattle.resin_guard.specs.Pages as spec
use Rattle.resin_guard.specs.Pages.{is_blank}
use Rattle.resin_guard.proofs.stretch.blanks.Goals as goal

pub turns-preserved : goal.turns-preserved
unfolding spec.blanks
turns-preserved c =
    let h : is_blank c.in-Some.next.byte ≡ true = search rules in
    goes_on no_rules in_limits 1 (λ _ t. is_blank t.byte) (λ _ _. taken (give tt)) _ tt c.turns.bytes c.turns.invariant
    c.in-Some.next c.skip.new.self c.skip.new.self tt c.skip.ensures h refl

pub returns-then-not-is_blank : goal.returns-then-not-is_blank
unfolding spec.blanks
returns-then-not-is_blank c =
    ends no_rules in_limits 1 (λ _ t. is_blank t.byte) (λ _ _. taken (give tt)) _ tt c.turns.bytes c.turns.invariant
    (Some c.in-Some.next) (search rules) (λ t e. let same : t ≡ c.in-Some.next = cc in rw same (search rules))

pub returns-in_default : goal.returns-in_default
unfolding spec.blanks
returns-in_default c =
    ends no_rules in_limits 1 (λ _ t. is_blank t.byte) (λ _ _. taken (give tt)) _ tt c.turns.bytes c.turns.invariant
    None (search rules) (λ t e. cc)

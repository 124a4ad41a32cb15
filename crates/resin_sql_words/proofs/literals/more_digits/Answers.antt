use Rattle.std.proofs.Common.{◌≡◌, true, Some, None, rules}
use Rattle.std.proofs.lemmas.Result.{err_from_is_err_and}
use Rattle.resin_form.proofs.Turns.{goes_on, fails, ends}
use Rattle.resin_scan.specs.Bytes.{is_digit}
use Rattle.resin_sql_words.specs.Literals as spec
use Rattle.resin_sql_words.specs.Forms.{rules as no_rules, in_limits}
use Rattle.resin_sql_words.proofs.literals.more_digits.Goals as goal

pub returns-in_err-more-clause-reads : goal.returns-in_err-more-clause-reads
unfolding spec.more_digits
returns-in_err-more-clause-reads c =
    let p = err_from_is_err_and c.from_residual.result c.from_residual.ensures.1 in
    let h : is_digit c.in-Some.next.byte ≡ true = search rules in
    rw (p.1, p.2) (fails no_rules in_limits 1 (λ _ t. is_digit t.byte) (λ s t. spec.digit_step c.args.greatest s.0 t) _ (c.turns.value, c.turns.to) c.turns.bytes c.turns.invariant.0
    c.in-Some.next c.skip.new.self c.skip.new.self c.in_err-more.field-0.0 c.skip.ensures h c.in_err-more.ensures.reads)

pub turns-preserved : goal.turns-preserved
unfolding spec.more_digits
turns-preserved c =
    let h : is_digit c.in-Some.next.byte ≡ true = search rules in (
      goes_on no_rules in_limits 1 (λ _ t. is_digit t.byte) (λ s t. spec.digit_step c.args.greatest s.0 t) _ (c.turns.value, c.turns.to) c.turns.bytes c.turns.invariant.0
          c.in-Some.next c.skip.new.self c.skip.new.self (c.in_ok-more.more, c.in_ok-more.at) c.skip.ensures h c.in_ok-more.ensures.reads,
      c.in_ok-more.ensures.within,
    )

pub returns-then-not-is_digit-clause-reads : goal.returns-then-not-is_digit-clause-reads
unfolding spec.more_digits
returns-then-not-is_digit-clause-reads c =
    ends no_rules in_limits 1 (λ _ t. is_digit t.byte) (λ s t. spec.digit_step c.args.greatest s.0 t) _ (c.turns.value, c.turns.to) c.turns.bytes c.turns.invariant.0
    (Some c.in-Some.next) (search rules) (λ t e. let same : t ≡ c.in-Some.next = cc in rw same (search rules))

pub returns-in_default-clause-reads : goal.returns-in_default-clause-reads
unfolding spec.more_digits
returns-in_default-clause-reads c =
    ends no_rules in_limits 1 (λ _ t. is_digit t.byte) (λ s t. spec.digit_step c.args.greatest s.0 t) _ (c.turns.value, c.turns.to) c.turns.bytes c.turns.invariant.0
    None (search rules) (λ t e. cc)

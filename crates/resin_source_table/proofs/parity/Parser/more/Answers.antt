use Rattle.std.proofs.Common.{◌≡◌, suc, true, Some, None, rules}
use Rattle.std.proofs.lemmas.Result.{err_from_is_err_and}
use Rattle.resin_form.specs.Form.{taken}
use Rattle.resin_form.specs.Meaning.{always}
use Rattle.resin_source_table.specs.Parity as spec
use Rattle.resin_source_table.specs.Parity.{under}
use Rattle.resin_form.proofs.Turns.{smaller, goes_on, fails, ends}
use Rattle.resin_source_table.proofs.parity.Parser.more.Goals as goal

pub returns-in_err-odd : goal.returns-in_err-odd
unfolding spec.more
returns-in_err-odd g c =
    let p = err_from_is_err_and c.from_residual.result c.from_residual.ensures.1 in
    let h : spec.is_plus c.in-Some.next.now ≡ true = search rules in
    rw (p.1, p.2) (fails spec.rules always (suc c.args.self.now.depth) (λ _ t. spec.is_plus t) (λ odd _. taken (spec.added odd)) _ c.turns.odd c.turns.signs c.turns.invariant
    c.in-Some.next.now c.skip.new.self c.added.new.signs c.in_err-odd.field-0.0 c.skip.ensures h c.in_err-odd.ensures)

pub turns-smaller : goal.turns-smaller
turns-smaller g c = smaller spec.rules always (suc c.args.self.now.depth) (taken (spec.added c.turns.odd)) c.turns.signs c.in-Some.next.now c.skip.new.self c.in_ok-odd.odd c.added.new.signs c.skip.ensures c.in_ok-odd.ensures

pub turns-preserved : goal.turns-preserved
unfolding spec.more
turns-preserved g c =
    let h : spec.is_plus c.in-Some.next.now ≡ true = search rules in
    goes_on spec.rules always (suc c.args.self.now.depth) (λ _ t. spec.is_plus t) (λ odd _. taken (spec.added odd)) _ c.turns.odd c.turns.signs c.turns.invariant
    c.in-Some.next.now c.skip.new.self c.added.new.signs c.in_ok-odd.odd c.skip.ensures h c.in_ok-odd.ensures

pub returns-then-not-is_plus : goal.returns-then-not-is_plus
unfolding spec.more
returns-then-not-is_plus g c =
    ends spec.rules always (suc c.args.self.now.depth) (λ _ t. spec.is_plus t) (λ odd _. taken (spec.added odd)) _ c.turns.odd c.turns.signs c.turns.invariant
    (Some c.in-Some.next.now) (search rules) (λ t e. let same : t ≡ c.in-Some.next.now = cc in rw same (search rules))

pub returns-in_default : goal.returns-in_default
unfolding spec.more
returns-in_default g c =
    ends spec.rules always (suc c.args.self.now.depth) (λ _ t. spec.is_plus t) (λ odd _. taken (spec.added odd)) _ c.turns.odd c.turns.signs c.turns.invariant
    None (search rules) (λ t e. cc)

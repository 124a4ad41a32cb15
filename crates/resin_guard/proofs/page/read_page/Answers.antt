use Rattle.std.proofs.Common.{true, None, rules, refl, ap}
use Rattle.std.proofs.lemmas.Result.{err_from_is_err_and}
use Rattle.resin_form.specs.Form.{taken}
use Rattle.resin_form.proofs.Turns.{smaller, goes_on, ends}
use Rattle.resin_sql_words.specs.Forms.{rules as no_rules, in_limits, under}
use Rattle.resin_guard.specs.Pages as spec
use Rattle.resin_guard.proofs.Endings.{nothing_left}
use Rattle.resin_guard.proofs.Exits.{fails}
use Rattle.resin_guard.proofs.page.read_page.Goals as goal

pub returns-in_err-places-clause-reads : goal.returns-in_err-places-clause-reads
unfolding spec.page
returns-in_err-places-clause-reads c =
    let p = err_from_is_err_and c.from_residual.result c.from_residual.ensures.1 in
    rw (p.1, p.2) (fails (λ _ _. true) (λ ps t. taken (spec.piece ps t)) _ c.turns.places c.turns.bytes c.turns.invariant
    c.in-Some.next c.skip.new.self c.piece.new.bytes c.in_err-places.field-0.0 c.skip.ensures refl c.in_err-places.ensures)

pub turns-init : goal.turns-init
turns-init c = ap (λ ps. under (spec.page ps) c.args.bytes.now) c.new-places.ensures

pub turns-smaller : goal.turns-smaller
turns-smaller c = smaller no_rules in_limits 1 (taken (spec.piece c.turns.places c.in-Some.next)) c.turns.bytes c.in-Some.next c.skip.new.self c.in_ok-places.places c.piece.new.bytes c.skip.ensures c.in_ok-places.ensures

pub turns-preserved : goal.turns-preserved
unfolding spec.page
turns-preserved c =
    goes_on no_rules in_limits 1 (λ _ _. true) (λ ps t. taken (spec.piece ps t)) _ c.turns.places c.turns.bytes c.turns.invariant
    c.in-Some.next c.skip.new.self c.piece.new.bytes c.in_ok-places.places c.skip.ensures refl c.in_ok-places.ensures

pub returns-clause-reads : goal.returns-clause-reads
unfolding spec.page
returns-clause-reads c =
    ends no_rules in_limits 1 (λ _ _. true) (λ ps t. taken (spec.piece ps t)) _ c.turns.places c.turns.bytes c.turns.invariant
    None (search rules) (λ t e. cc)

pub returns-clause-all : goal.returns-clause-all
returns-clause-all c = nothing_left c.turns.bytes (search rules)

use Rattle.std.proofs.Common.{◌≡◌, true, Some, None, rules}
use Rattle.std.proofs.lemmas.Result.{err_from_is_err_and}
use Rattle.resin_form.specs.Form.{taken}
use Rattle.resin_form.proofs.Turns.{smaller, goes_on, fails, ends}
use Rattle.resin_sql_words.specs.Forms.{rules as no_rules, in_limits}
use Rattle.resin_sql.specs.Conditions as spec
use Rattle.resin_sql.proofs.condition.Inner.more_ways.Goals as goal
use Rattle.resin_sql.proofs.condition.Inner.more_ways.Goals.{in-Some+then-not-is_or, in_default}

pub returns-in_err-longer : goal.returns-in_err-longer
unfolding spec.more_ways
returns-in_err-longer g c =
    let p = err_from_is_err_and c.from_residual.result c.from_residual.ensures.1 in
    let h : spec.is_or c.turns.behind c.in-Some.next.byte ≡ true = search rules in
    rw (p.1, p.2) (fails no_rules in_limits 1 (λ s t. spec.is_or s.1 t.byte) (λ s _. taken (spec.or_way (spec.atom (spec.tested_as c.args.self.now.naming) c.args.self.now.room) c.args.orders s.0)) _ (c.turns.done, c.turns.behind) c.turns.bytes c.turns.invariant
    c.in-Some.next c.skip.new.self c.or_way.new.bytes c.in_err-longer.field-0.0 c.skip.ensures h c.in_err-longer.ensures)

pub turns-smaller : goal.turns-smaller
turns-smaller g c = smaller no_rules in_limits 1 (taken (spec.or_way (spec.atom (spec.tested_as c.args.self.now.naming) c.args.self.now.room) c.args.orders c.turns.done)) c.turns.bytes c.in-Some.next c.skip.new.self (c.in_ok-longer.longer, c.in_ok-longer.ended) c.or_way.new.bytes c.skip.ensures c.in_ok-longer.ensures

pub turns-preserved : goal.turns-preserved
unfolding spec.more_ways
turns-preserved g c =
    let h : spec.is_or c.turns.behind c.in-Some.next.byte ≡ true = search rules in
    goes_on no_rules in_limits 1 (λ s t. spec.is_or s.1 t.byte) (λ s _. taken (spec.or_way (spec.atom (spec.tested_as c.args.self.now.naming) c.args.self.now.room) c.args.orders s.0)) _ (c.turns.done, c.turns.behind) c.turns.bytes c.turns.invariant
    c.in-Some.next c.skip.new.self c.or_way.new.bytes (c.in_ok-longer.longer, c.in_ok-longer.ended) c.skip.ensures h c.in_ok-longer.ensures

pub returns : goal.returns
unfolding spec.more_ways
returns g c = elim c.match-peek.branch [
  | in-Some+then-not-is_or w ↦ ends no_rules in_limits 1 (λ s t. spec.is_or s.1 t.byte) (λ s _. taken (spec.or_way (spec.atom (spec.tested_as c.args.self.now.naming) c.args.self.now.room) c.args.orders s.0)) _ (c.turns.done, c.turns.behind) c.turns.bytes c.turns.invariant
      (Some w.in-Some.next) (search rules) (λ t e. let same : t ≡ w.in-Some.next = cc in rw same (search rules))
  | in_default w ↦ ends no_rules in_limits 1 (λ s t. spec.is_or s.1 t.byte) (λ s _. taken (spec.or_way (spec.atom (spec.tested_as c.args.self.now.naming) c.args.self.now.room) c.args.orders s.0)) _ (c.turns.done, c.turns.behind) c.turns.bytes c.turns.invariant
      None (search rules) (λ t e. cc)
]

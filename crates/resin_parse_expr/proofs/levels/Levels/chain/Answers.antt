use Rattle.std.proofs.Common.{◌≡◌, suc, true, Some, None, rules}
use Rattle.std.specs.Prelude.{◌==◌, ◌&&◌, not}
use Rattle.std.proofs.lemmas.Result.{err_from_is_err_and}
use Rattle.resin_form.specs.Form.{taken}
use Rattle.resin_form.proofs.Turns.{smaller, goes_on, fails, ends}
use Rattle.resin_grammar.specs.declared.sign.Sign.TheVariants as s
use Rattle.resin_grammar.specs.Expressions as spec
use Rattle.resin_grammar.specs.Operators.{level_of}
use Rattle.resin_grammar.specs.Reading.{under, is_low}
use Rattle.resin_grammar.specs.Signs.{is_sign}
use Rattle.resin_parse_expr.proofs.levels.Levels.chain.Goals as goal
use Rattle.resin_parse_expr.proofs.levels.Levels.chain.Goals.{in-Some+then-not-is_of_level, in_default}

pub returns-in_err-left : goal.returns-in_err-left
unfolding spec.chain
returns-in_err-left g c =
    let p = err_from_is_err_and c.from_residual.result c.from_residual.ensures.1 in
    let h : (level_of c.in-Some.next.now.kind == c.args.level) ≡ true = search rules in
    rw (p.1, p.2) (fails spec.rules is_low (suc c.args.self.now.parser.depth) (λ _ t. level_of t.kind == c.args.level) (λ left t. spec.joined c.args.level left t.kind) _ c.turns.left c.turns.tokens c.turns.invariant
    c.in-Some.next.now c.skip.new.self c.joined.new.tokens c.in_err-left.field-0.0 c.skip.ensures h c.in_err-left.ensures)

pub turns-smaller : goal.turns-smaller
turns-smaller g c = smaller spec.rules is_low (suc c.args.self.now.parser.depth) (spec.joined c.args.level c.turns.left c.in-Some.next.now.kind) c.turns.tokens c.in-Some.next.now c.skip.new.self c.in_ok-left.left c.joined.new.tokens c.skip.ensures c.in_ok-left.ensures

pub turns-preserved : goal.turns-preserved
unfolding spec.chain
turns-preserved g c =
    let h : (level_of c.in-Some.next.now.kind == c.args.level) ≡ true = search rules in
    goes_on spec.rules is_low (suc c.args.self.now.parser.depth) (λ _ t. level_of t.kind == c.args.level) (λ left t. spec.joined c.args.level left t.kind) _ c.turns.left c.turns.tokens c.turns.invariant
    c.in-Some.next.now c.skip.new.self c.joined.new.tokens c.in_ok-left.left c.skip.ensures h c.in_ok-left.ensures

pub returns : goal.returns
unfolding spec.chain
returns g c = elim c.match-peek.branch [
  | in-Some+then-not-is_of_level w ↦ ends spec.rules is_low (suc c.args.self.now.parser.depth) (λ _ t. level_of t.kind == c.args.level) (λ left t. spec.joined c.args.level left t.kind) _ c.turns.left c.turns.tokens c.turns.invariant
      (Some w.in-Some.next.now) (search rules) (λ t e. let same : t ≡ w.in-Some.next.now = cc in rw same (search rules))
  | in_default w ↦ ends spec.rules is_low (suc c.args.self.now.parser.depth) (λ _ t. level_of t.kind == c.args.level) (λ left t. spec.joined c.args.level left t.kind) _ c.turns.left c.turns.tokens c.turns.invariant
      None (search rules) (λ t e. cc)
]

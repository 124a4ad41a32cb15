use Rattle.std.proofs.Common.{◌≡◌, suc, true, Some, None, rules}
use Rattle.std.specs.Prelude.{◌==◌, ◌&&◌, not}
use Rattle.std.proofs.lemmas.Result.{err_from_is_err_and}
use Rattle.resin_form.specs.Form.{taken}
use Rattle.resin_form.proofs.Turns.{smaller, goes_on, fails, ends}
use Rattle.resin_grammar.specs.declared.sign.Sign.TheVariants as s
use Rattle.resin_grammar.specs.Expressions as spec
use Rattle.resin_grammar.specs.Operators.{level_of}
use Rattle.resin_grammar.specs.Reading.{under, is_low}
use Rattle.resin_grammar.specs.Signs.{is_sign}
use Rattle.resin_parse_part.proofs.parser.Parser.postfixes.Goals as goal
use Rattle.resin_parse_part.proofs.parser.Parser.postfixes.Goals.{in-Some+then-not-is_postfix, in_default}

pub returns-in_err-tree : goal.returns-in_err-tree
unfolding spec.postfixes
returns-in_err-tree g c =
    let p = err_from_is_err_and c.from_residual.result c.from_residual.ensures.1 in
    let h : spec.is_postfix c.in-Some.next.now.kind ≡ true = search rules in
    rw (p.1, p.2) (fails spec.rules is_low (suc c.args.self.now.depth) (λ _ t. spec.is_postfix t.kind) (λ e t. spec.postfix e t.kind) _ c.turns.tree c.turns.tokens c.turns.invariant
    c.in-Some.next.now c.skip.new.self c.postfix.new.tokens c.in_err-tree.field-0.0 c.skip.ensures h c.in_err-tree.ensures)

pub turns-smaller : goal.turns-smaller
turns-smaller g c = smaller spec.rules is_low (suc c.args.self.now.depth) (spec.postfix c.turns.tree c.in-Some.next.now.kind) c.turns.tokens c.in-Some.next.now c.skip.new.self c.in_ok-tree.tree c.postfix.new.tokens c.skip.ensures c.in_ok-tree.ensures

pub turns-preserved : goal.turns-preserved
unfolding spec.postfixes
turns-preserved g c =
    let h : spec.is_postfix c.in-Some.next.now.kind ≡ true = search rules in
    goes_on spec.rules is_low (suc c.args.self.now.depth) (λ _ t. spec.is_postfix t.kind) (λ e t. spec.postfix e t.kind) _ c.turns.tree c.turns.tokens c.turns.invariant
    c.in-Some.next.now c.skip.new.self c.postfix.new.tokens c.in_ok-tree.tree c.skip.ensures h c.in_ok-tree.ensures

pub returns : goal.returns
unfolding spec.postfixes
returns g c = elim c.match-peek.branch [
  | in-Some+then-not-is_postfix w ↦ ends spec.rules is_low (suc c.args.self.now.depth) (λ _ t. spec.is_postfix t.kind) (λ e t. spec.postfix e t.kind) _ c.turns.tree c.turns.tokens c.turns.invariant
      (Some w.in-Some.next.now) (search rules) (λ t e. let same : t ≡ w.in-Some.next.now = cc in rw same (search rules))
  | in_default w ↦ ends spec.rules is_low (suc c.args.self.now.depth) (λ _ t. spec.is_postfix t.kind) (λ e t. spec.postfix e t.kind) _ c.turns.tree c.turns.tokens c.turns.invariant
      None (search rules) (λ t e. cc)
]

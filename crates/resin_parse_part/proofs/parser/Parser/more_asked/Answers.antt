use Rattle.std.proofs.Common.{◌≡◌, suc, true, Some, None, rules}
use Rattle.std.specs.Prelude.{◌==◌, ◌&&◌, not}
use Rattle.std.proofs.lemmas.Result.{err_from_is_err_and}
use Rattle.resin_form.specs.Form.{taken}
use Rattle.resin_form.proofs.Turns.{smaller, goes_on, fails, ends}
use Rattle.resin_grammar.specs.declared.sign.Sign.TheVariants as s
use Rattle.resin_grammar.specs.Expressions as spec
use Rattle.resin_grammar.specs.Operators.{level_of}
use Rattle.resin_grammar.specs.Reading.{under, is_low}
use Rattle.resin_grammar.specs.Signs.{is_sign}
use Rattle.resin_parse_part.proofs.parser.Parser.more_asked.Goals as goal
use Rattle.resin_parse_part.proofs.parser.Parser.more_asked.Goals.{in-Some+then-not-is_sign, in_default}

pub returns-in_err-operands : goal.returns-in_err-operands
unfolding spec.more_asked
returns-in_err-operands g c =
    let p = err_from_is_err_and c.from_residual.result c.from_residual.ensures.1 in
    let h : is_sign s.Comma c.in-Some.next.now.kind ≡ true = search rules in
    rw (p.1, p.2) (fails spec.rules is_low (suc c.args.self.now.depth) (λ _ t. is_sign s.Comma t.kind) (λ es _. taken (spec.one_asked es)) _ c.turns.operands c.turns.tokens c.turns.invariant
    c.in-Some.next.now c.skip.new.self c.one_asked.new.tokens c.in_err-operands.field-0.0 c.skip.ensures h c.in_err-operands.ensures)

pub turns-smaller : goal.turns-smaller
turns-smaller g c = smaller spec.rules is_low (suc c.args.self.now.depth) (taken (spec.one_asked c.turns.operands)) c.turns.tokens c.in-Some.next.now c.skip.new.self c.in_ok-operands.operands c.one_asked.new.tokens c.skip.ensures c.in_ok-operands.ensures

pub turns-preserved : goal.turns-preserved
unfolding spec.more_asked
turns-preserved g c =
    let h : is_sign s.Comma c.in-Some.next.now.kind ≡ true = search rules in
    goes_on spec.rules is_low (suc c.args.self.now.depth) (λ _ t. is_sign s.Comma t.kind) (λ es _. taken (spec.one_asked es)) _ c.turns.operands c.turns.tokens c.turns.invariant
    c.in-Some.next.now c.skip.new.self c.one_asked.new.tokens c.in_ok-operands.operands c.skip.ensures h c.in_ok-operands.ensures

pub returns : goal.returns
unfolding spec.more_asked
returns g c = elim c.match-peek.branch [
  | in-Some+then-not-is_sign w ↦ ends spec.rules is_low (suc c.args.self.now.depth) (λ _ t. is_sign s.Comma t.kind) (λ es _. taken (spec.one_asked es)) _ c.turns.operands c.turns.tokens c.turns.invariant
      (Some w.in-Some.next.now) (search rules) (λ t e. let same : t ≡ w.in-Some.next.now = cc in rw same (search rules))
  | in_default w ↦ ends spec.rules is_low (suc c.args.self.now.depth) (λ _ t. is_sign s.Comma t.kind) (λ es _. taken (spec.one_asked es)) _ c.turns.operands c.turns.tokens c.turns.invariant
      None (search rules) (λ t e. cc)
]

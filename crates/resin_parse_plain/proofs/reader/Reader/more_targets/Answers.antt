use Rattle.std.proofs.Common.{◌≡◌, suc, true, Some, None}
use Rattle.std.proofs.Common.{rules as std_rules}
use Rattle.std.proofs.lemmas.Result.{err_from_is_err_and}
use Rattle.resin_form.specs.Form.{taken}
use Rattle.resin_form.proofs.Turns.{smaller, goes_on, fails, ends}
use Rattle.resin_grammar.specs.Signs.{is_sign}
use Rattle.resin_grammar.specs.declared.sign.Sign.TheVariants as s
use Rattle.resin_program_grammar.specs.Plain as spec
use Rattle.resin_grammar.specs.Reading.{is_low}
use Rattle.resin_program_grammar.specs.Declarations.{rules}
use Rattle.resin_parse_plain.specs.Lines.{line_in}
use Rattle.resin_parse_plain.proofs.reader.Reader.more_targets.Goals as goal
use Rattle.resin_parse_plain.proofs.reader.Reader.more_targets.Goals.{in-Some+then-not-is_sign, in_default}

pub returns-in_err-targets : goal.returns-in_err-targets
unfolding spec.more_targets
returns-in_err-targets c =
    let p = err_from_is_err_and c.from_residual.result c.from_residual.ensures.1 in
    let h : (is_sign s.Comma c.in-Some.next.now.kind) ≡ true = search std_rules in
    rw (p.1, p.2) (fails (rules (line_in c.args.self.now.lines.now)) is_low (suc c.args.self.now.depth) (λ d t. is_sign s.Comma t.kind) (λ xs _. taken (spec.one_target xs)) _ c.turns.targets c.turns.tokens c.turns.invariant
    c.in-Some.next.now c.skip.new.self c.one_target.new.tokens c.in_err-targets.field-0.0 c.skip.ensures h c.in_err-targets.ensures)

pub turns-smaller : goal.turns-smaller
turns-smaller c = smaller (rules (line_in c.args.self.now.lines.now)) is_low (suc c.args.self.now.depth) (taken (spec.one_target c.turns.targets)) c.turns.tokens c.in-Some.next.now c.skip.new.self c.in_ok-targets.targets c.one_target.new.tokens c.skip.ensures c.in_ok-targets.ensures

pub turns-preserved : goal.turns-preserved
unfolding spec.more_targets
turns-preserved c =
    let h : (is_sign s.Comma c.in-Some.next.now.kind) ≡ true = search std_rules in
    goes_on (rules (line_in c.args.self.now.lines.now)) is_low (suc c.args.self.now.depth) (λ d t. is_sign s.Comma t.kind) (λ xs _. taken (spec.one_target xs)) _ c.turns.targets c.turns.tokens c.turns.invariant
    c.in-Some.next.now c.skip.new.self c.one_target.new.tokens c.in_ok-targets.targets c.skip.ensures h c.in_ok-targets.ensures

pub returns : goal.returns
unfolding spec.more_targets
returns c = elim c.match-peek.branch [
  | in-Some+then-not-is_sign arm ↦ ends (rules (line_in c.args.self.now.lines.now)) is_low (suc c.args.self.now.depth) (λ d t. is_sign s.Comma t.kind) (λ xs _. taken (spec.one_target xs)) _ c.turns.targets c.turns.tokens c.turns.invariant
      (Some arm.in-Some.next.now) (search std_rules) (λ t e. let same : t ≡ arm.in-Some.next.now = cc in rw same (search std_rules))
  | in_default arm ↦ ends (rules (line_in c.args.self.now.lines.now)) is_low (suc c.args.self.now.depth) (λ d t. is_sign s.Comma t.kind) (λ xs _. taken (spec.one_target xs)) _ c.turns.targets c.turns.tokens c.turns.invariant
      None (search std_rules) (λ t e. cc)
]

use Rattle.std.proofs.Common.{◌≡◌, suc, true, Some, None}
use Rattle.std.proofs.Common.{rules as std_rules}
use Rattle.std.specs.Prelude.{◌&&◌, not}
use Rattle.std.proofs.lemmas.Result.{err_from_is_err_and}
use Rattle.resin_form.specs.Form.{taken}
use Rattle.resin_form.proofs.Turns.{smaller, goes_on, fails, ends}
use Rattle.resin_grammar.specs.Signs.{is_sign}
use Rattle.resin_grammar.specs.declared.sign.Sign.TheVariants as s
use Rattle.resin_program_grammar.specs.Constants as spec
use Rattle.resin_grammar.specs.Reading.{is_low}
use Rattle.resin_program_grammar.specs.Declarations.{rules}
use Rattle.resin_parse_plain.specs.Lines.{line_in}
use Rattle.resin_parse_plain.proofs.constant.Constants.more_items.Goals as goal
use Rattle.resin_parse_plain.proofs.constant.Constants.more_items.Goals.{in-Some+then-not-comma_follows, in_default}

pub returns-in_err-longer : goal.returns-in_err-longer
unfolding spec.more_items
returns-in_err-longer g c =
    let p = err_from_is_err_and c.from_residual.result c.from_residual.ensures.1 in
    let h : (not c.turns.closed && is_sign s.Comma c.in-Some.next.now.kind) ≡ true = search std_rules in
    rw (p.1, p.2) (fails (rules (line_in c.args.self.now.reader.lines.now)) is_low (suc c.args.self.now.reader.depth) (λ d t. not d.1 && is_sign s.Comma t.kind) (λ done _. taken (spec.item c.args.close done.0)) _ (c.turns.items, c.turns.closed) c.turns.tokens c.turns.invariant
    c.in-Some.next.now c.skip.new.self c.item.new.tokens c.in_err-longer.field-0.0 c.skip.ensures h c.in_err-longer.ensures)

pub turns-smaller : goal.turns-smaller
turns-smaller g c = smaller (rules (line_in c.args.self.now.reader.lines.now)) is_low (suc c.args.self.now.reader.depth) (taken (spec.item c.args.close c.turns.items)) c.turns.tokens c.in-Some.next.now c.skip.new.self (c.in_ok-longer.longer, c.in_ok-longer.ended) c.item.new.tokens c.skip.ensures c.in_ok-longer.ensures

pub turns-preserved : goal.turns-preserved
unfolding spec.more_items
turns-preserved g c =
    let h : (not c.turns.closed && is_sign s.Comma c.in-Some.next.now.kind) ≡ true = search std_rules in
    goes_on (rules (line_in c.args.self.now.reader.lines.now)) is_low (suc c.args.self.now.reader.depth) (λ d t. not d.1 && is_sign s.Comma t.kind) (λ done _. taken (spec.item c.args.close done.0)) _ (c.turns.items, c.turns.closed) c.turns.tokens c.turns.invariant
    c.in-Some.next.now c.skip.new.self c.item.new.tokens (c.in_ok-longer.longer, c.in_ok-longer.ended) c.skip.ensures h c.in_ok-longer.ensures

pub returns : goal.returns
unfolding spec.more_items
returns g c = elim c.match-peek.branch [
  | in-Some+then-not-comma_follows arm ↦ ends (rules (line_in c.args.self.now.reader.lines.now)) is_low (suc c.args.self.now.reader.depth) (λ d t. not d.1 && is_sign s.Comma t.kind) (λ done _. taken (spec.item c.args.close done.0)) _ (c.turns.items, c.turns.closed) c.turns.tokens c.turns.invariant
      (Some arm.in-Some.next.now) (search std_rules) (λ t e. let same : t ≡ arm.in-Some.next.now = cc in rw same (search std_rules))
  | in_default arm ↦ ends (rules (line_in c.args.self.now.reader.lines.now)) is_low (suc c.args.self.now.reader.depth) (λ d t. not d.1 && is_sign s.Comma t.kind) (λ done _. taken (spec.item c.args.close done.0)) _ (c.turns.items, c.turns.closed) c.turns.tokens c.turns.invariant
      None (search std_rules) (λ t e. cc)
]

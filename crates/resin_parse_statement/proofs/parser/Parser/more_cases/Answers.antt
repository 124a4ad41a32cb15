use Rattle.std.proofs.Common.{◌≡◌, suc, true, Some, None}
use Rattle.std.proofs.Common.{rules as std_rules}
use Rattle.std.specs.Prelude.{◌||◌}
use Rattle.std.proofs.lemmas.Result.{err_from_is_err_and}
use Rattle.resin_form.specs.Form.{taken}
use Rattle.resin_form.proofs.Turns.{smaller, goes_on, fails, ends}
use Rattle.resin_program_grammar.specs.Words.{is_word}
use Rattle.resin_program_grammar.specs.declared.word.Word.TheVariants as w
use Rattle.resin_program_grammar.specs.Statements as spec
use Rattle.resin_grammar.specs.Reading.{is_low}
use Rattle.resin_program_grammar.specs.Declarations.{rules}
use Rattle.resin_parse_plain.specs.Lines.{line_in}
use Rattle.resin_parse_statement.proofs.parser.Parser.more_cases.Goals as goal
use Rattle.resin_parse_statement.proofs.parser.Parser.more_cases.Goals.{in-Some+then-not-is_case, in_default}

pub returns-in_err-cases : goal.returns-in_err-cases
unfolding spec.more_cases
returns-in_err-cases g c =
    let p = err_from_is_err_and c.from_residual.result c.from_residual.ensures.1 in
    let h : (is_word w.Case c.in-Some.next.now.kind || is_word w.Default c.in-Some.next.now.kind) ≡ true = search std_rules in
    rw (p.1, p.2) (fails (rules (line_in c.args.self.now.reader.lines.now)) is_low (suc c.args.self.now.reader.depth) (λ d t. is_word w.Case t.kind || is_word w.Default t.kind) (λ cs t. taken (spec.case_after (line_in c.args.self.now.reader.lines.now) cs t.kind)) _ c.turns.cases c.turns.tokens c.turns.invariant
    c.in-Some.next.now c.skip.new.self c.case_after.new.tokens c.in_err-cases.field-0.0 c.skip.ensures h c.in_err-cases.ensures)

pub turns-smaller : goal.turns-smaller
turns-smaller g c = smaller (rules (line_in c.args.self.now.reader.lines.now)) is_low (suc c.args.self.now.reader.depth) (taken (spec.case_after (line_in c.args.self.now.reader.lines.now) c.turns.cases c.in-Some.next.now.kind)) c.turns.tokens c.in-Some.next.now c.skip.new.self c.in_ok-cases.cases c.case_after.new.tokens c.skip.ensures c.in_ok-cases.ensures

pub turns-preserved : goal.turns-preserved
unfolding spec.more_cases
turns-preserved g c =
    let h : (is_word w.Case c.in-Some.next.now.kind || is_word w.Default c.in-Some.next.now.kind) ≡ true = search std_rules in
    goes_on (rules (line_in c.args.self.now.reader.lines.now)) is_low (suc c.args.self.now.reader.depth) (λ d t. is_word w.Case t.kind || is_word w.Default t.kind) (λ cs t. taken (spec.case_after (line_in c.args.self.now.reader.lines.now) cs t.kind)) _ c.turns.cases c.turns.tokens c.turns.invariant
    c.in-Some.next.now c.skip.new.self c.case_after.new.tokens c.in_ok-cases.cases c.skip.ensures h c.in_ok-cases.ensures

pub returns : goal.returns
unfolding spec.more_cases
returns g c = elim c.match-peek.branch [
  | in-Some+then-not-is_case arm ↦ ends (rules (line_in c.args.self.now.reader.lines.now)) is_low (suc c.args.self.now.reader.depth) (λ d t. is_word w.Case t.kind || is_word w.Default t.kind) (λ cs t. taken (spec.case_after (line_in c.args.self.now.reader.lines.now) cs t.kind)) _ c.turns.cases c.turns.tokens c.turns.invariant
      (Some arm.in-Some.next.now) (search std_rules) (λ t e. let same : t ≡ arm.in-Some.next.now = cc in rw same (search std_rules))
  | in_default arm ↦ ends (rules (line_in c.args.self.now.reader.lines.now)) is_low (suc c.args.self.now.reader.depth) (λ d t. is_word w.Case t.kind || is_word w.Default t.kind) (λ cs t. taken (spec.case_after (line_in c.args.self.now.reader.lines.now) cs t.kind)) _ c.turns.cases c.turns.tokens c.turns.invariant
      None (search std_rules) (λ t e. cc)
]

use Rattle.std.proofs.Common.{◌≡◌, true, Some, None}
use Rattle.std.proofs.Common.{rules as std_rules}
use Rattle.std.specs.Prelude.{◌&&◌}
use Rattle.std.proofs.lemmas.Result.{err_from_is_err_and}
use Rattle.resin_form.specs.Reads.{first}
use Rattle.resin_program_grammar.specs.Plain.{begins_statement}
use Rattle.resin_program_grammar.specs.Statements.{is_nothing}
use Rattle.resin_parse_plain.specs.Lines.{line_in}
use Rattle.resin_parse_statement.proofs.Repeats.{statements_shorten, statements_go_on, statements_fail, statements_end}
use Rattle.resin_parse_statement.proofs.parser.Parser.more_statements.Goals as goal
use Rattle.resin_parse_statement.proofs.parser.Parser.more_statements.Goals.{in-Some+then-not-goes_on, in_default}

pub returns-in_err-read : goal.returns-in_err-read
returns-in_err-read g c =
    let p = err_from_is_err_and c.from_residual.result c.from_residual.ensures.1 in
    let h : (is_nothing (line_in c.args.self.now.reader.lines.now) c.turns.read.1 && begins_statement c.args.around.in_loop c.in-Some.next.now) ≡ true = search std_rules in
    let f : first c.turns.tokens ≡ Some c.in-Some.next.now = search std_rules in
    rw (p.1, p.2) (statements_fail (line_in c.args.self.now.reader.lines.now) c.args.self.now.reader.depth c.args.around c.turns.read c.statements_of.result c.in-Some.next.now c.turns.tokens c.statements_of.ensures f h _ c.turns.invariant c.one_more.new.tokens c.in_err-read.field-0.0 c.in_err-read.ensures)

pub turns-smaller : goal.turns-smaller
turns-smaller g c =
    let h : (is_nothing (line_in c.args.self.now.reader.lines.now) c.turns.read.1 && begins_statement c.args.around.in_loop c.in-Some.next.now) ≡ true = search std_rules in
    let f : first c.turns.tokens ≡ Some c.in-Some.next.now = search std_rules in
    statements_shorten (line_in c.args.self.now.reader.lines.now) c.args.self.now.reader.depth c.args.around c.turns.read c.statements_of.result c.in-Some.next.now c.turns.tokens c.statements_of.ensures f h c.one_more.new.tokens c.in_ok-read.read c.in_ok-read.ensures

pub turns-preserved : goal.turns-preserved
turns-preserved g c =
    let h : (is_nothing (line_in c.args.self.now.reader.lines.now) c.turns.read.1 && begins_statement c.args.around.in_loop c.in-Some.next.now) ≡ true = search std_rules in
    let f : first c.turns.tokens ≡ Some c.in-Some.next.now = search std_rules in
    statements_go_on (line_in c.args.self.now.reader.lines.now) c.args.self.now.reader.depth c.args.around c.turns.read c.statements_of.result c.in-Some.next.now c.turns.tokens c.statements_of.ensures f h _ c.turns.invariant c.one_more.new.tokens c.in_ok-read.read c.in_ok-read.ensures

pub returns : goal.returns
returns g c = elim c.match-peek.branch [
  | in-Some+then-not-goes_on arm ↦ statements_end (line_in c.args.self.now.reader.lines.now) c.args.self.now.reader.depth c.args.around _ c.turns.read c.turns.tokens c.turns.invariant
      (Some arm.in-Some.next.now) (search std_rules) (λ t e. let same : t ≡ arm.in-Some.next.now = cc in rw same (search std_rules))
  | in_default arm ↦ statements_end (line_in c.args.self.now.reader.lines.now) c.args.self.now.reader.depth c.args.around _ c.turns.read c.turns.tokens c.turns.invariant
      None (search std_rules) (λ t e. cc)
]

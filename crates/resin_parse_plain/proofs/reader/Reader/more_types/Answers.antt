use Rattle.std.proofs.Common.{◌≡◌, suc, true, Some, None}
use Rattle.std.proofs.Common.{rules as std_rules}
use Rattle.std.proofs.lemmas.Result.{err_from_is_err_and}
use Rattle.resin_form.specs.Form.{taken}
use Rattle.resin_form.proofs.Turns.{smaller, goes_on, fails, ends}
use Rattle.resin_program_grammar.specs.Words.{is_word}
use Rattle.resin_program_grammar.specs.declared.word.Word.TheVariants as w
use Rattle.resin_program_grammar.specs.Declarations as spec
use Rattle.resin_grammar.specs.Reading.{is_low}
use Rattle.resin_program_grammar.specs.Declarations.{rules}
use Rattle.resin_parse_plain.specs.Lines.{line_in}
use Rattle.resin_parse_plain.proofs.reader.Reader.more_types.Goals as goal

pub returns-in_err-one_type : goal.returns-in_err-one_type
unfolding spec.more_types
returns-in_err-one_type c =
    let p = err_from_is_err_and c.from_residual.result c.from_residual.ensures.1 in
    let h : (is_word w.Bar c.in-Some.next.now.kind) ≡ true = search std_rules in
    rw (p.1, p.2) (fails (rules (line_in c.args.self.now.lines.now)) is_low (suc c.args.self.now.depth) (λ d t. is_word w.Bar t.kind) (λ _ _. taken spec.one_type) _ tt c.turns.tokens c.turns.invariant
    c.in-Some.next.now c.skip.new.self c.one_type.new.tokens c.in_err-one_type.field-0.0 c.skip.ensures h c.in_err-one_type.ensures)

pub turns-smaller : goal.turns-smaller
turns-smaller c = smaller (rules (line_in c.args.self.now.lines.now)) is_low (suc c.args.self.now.depth) (taken spec.one_type) c.turns.tokens c.in-Some.next.now c.skip.new.self tt c.one_type.new.tokens c.skip.ensures c.in_ok-one_type.ensures

pub turns-preserved : goal.turns-preserved
unfolding spec.more_types
turns-preserved c =
    let h : (is_word w.Bar c.in-Some.next.now.kind) ≡ true = search std_rules in
    goes_on (rules (line_in c.args.self.now.lines.now)) is_low (suc c.args.self.now.depth) (λ d t. is_word w.Bar t.kind) (λ _ _. taken spec.one_type) _ tt c.turns.tokens c.turns.invariant
    c.in-Some.next.now c.skip.new.self c.one_type.new.tokens tt c.skip.ensures h c.in_ok-one_type.ensures

pub returns-then-not-is_word : goal.returns-then-not-is_word
unfolding spec.more_types
returns-then-not-is_word c =
    ends (rules (line_in c.args.self.now.lines.now)) is_low (suc c.args.self.now.depth) (λ d t. is_word w.Bar t.kind) (λ _ _. taken spec.one_type) _ tt c.turns.tokens c.turns.invariant
    (Some c.in-Some.next.now) (search std_rules) (λ t e. let same : t ≡ c.in-Some.next.now = cc in rw same (search std_rules))

pub returns-in_default : goal.returns-in_default
unfolding spec.more_types
returns-in_default c =
    ends (rules (line_in c.args.self.now.lines.now)) is_low (suc c.args.self.now.depth) (λ d t. is_word w.Bar t.kind) (λ _ _. taken spec.one_type) _ tt c.turns.tokens c.turns.invariant
    None (search std_rules) (λ t e. cc)

use Rattle.std.proofs.Common.{◌≡◌, suc, true, Some, None, refl}
use Rattle.std.proofs.Common.{rules as std_rules}
use Rattle.resin_form.specs.Form.{give, taken}
use Rattle.resin_form.proofs.Turns.{smaller, goes_on, ends}
use Rattle.resin_program_grammar.specs.Words.{is_word}
use Rattle.resin_program_grammar.specs.declared.word.Word.TheVariants as w
use Rattle.resin_program_grammar.specs.Declarations as spec
use Rattle.resin_grammar.specs.Reading.{is_low}
use Rattle.resin_program_grammar.specs.Declarations.{rules}
use Rattle.resin_parse_plain.specs.Lines.{line_in}
use Rattle.resin_parse.proofs.class.Declarations.finals.Goals as goal

pub turns-smaller : goal.turns-smaller
turns-smaller c = smaller (rules (line_in c.args.self.now.reader.lines.now)) is_low (suc c.args.self.now.reader.depth) {A = Unit {0}} (taken (give tt)) c.turns.tokens c.in-Some.next.now c.skip.new.self tt c.skip.new.self c.skip.ensures refl

pub turns-preserved : goal.turns-preserved
unfolding spec.finals
turns-preserved c =
    let h : (is_word w.Final c.in-Some.next.now.kind) ≡ true = search std_rules in
    goes_on (rules (line_in c.args.self.now.reader.lines.now)) is_low (suc c.args.self.now.reader.depth) (λ d t. is_word w.Final t.kind) (λ _ _. taken (give tt)) _ tt c.turns.tokens c.turns.invariant
    c.in-Some.next.now c.skip.new.self c.skip.new.self tt c.skip.ensures h refl

pub returns-then-not-is_word : goal.returns-then-not-is_word
unfolding spec.finals
returns-then-not-is_word c =
    ends (rules (line_in c.args.self.now.reader.lines.now)) is_low (suc c.args.self.now.reader.depth) (λ d t. is_word w.Final t.kind) (λ _ _. taken (give tt)) _ tt c.turns.tokens c.turns.invariant
    (Some c.in-Some.next.now) (search std_rules) (λ t e. let same : t ≡ c.in-Some.next.now = cc in rw same (search std_rules))

pub returns-in_default : goal.returns-in_default
unfolding spec.finals
returns-in_default c =
    ends (rules (line_in c.args.self.now.reader.lines.now)) is_low (suc c.args.self.now.reader.depth) (λ d t. is_word w.Final t.kind) (λ _ _. taken (give tt)) _ tt c.turns.tokens c.turns.invariant
    None (search std_rules) (λ t e. cc)

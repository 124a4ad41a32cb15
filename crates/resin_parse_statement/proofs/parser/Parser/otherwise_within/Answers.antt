use Rattle.std.proofs.Common.{◌≡◌, true, false, Some, sym, subst}
use Rattle.std.proofs.Common.{rules as std_rules}
use Rattle.resin_form.specs.Reads.{Reads, first}
use Rattle.resin_program_grammar.specs.declared.word.Word.TheVariants as w
use Rattle.resin_program_grammar.specs.Words.{is_word}
use Rattle.resin_parse_plain.specs.Lines.{line_in}
use Rattle.resin_program_grammar.specs.Plain.{begins_statement}
use Rattle.resin_parse_statement.proofs.Ahead.{link_here, other_here}
use Rattle.resin_parse_statement.proofs.parser.Parser.otherwise_within.Goals as goal

pub returns-then-is_word : goal.returns-then-is_word
returns-then-is_word g c =
    let f : first c.args.tokens.now ≡ Some c.in-Some.next.now = search std_rules in
    let s : begins_statement c.args.around.in_loop c.in-Some.next.now ≡ true = search std_rules in
    let h : is_word w.If c.in-Some.next.now.kind ≡ true = search std_rules in
    subst (λ o. Reads o c.link_within.result c.link_within.new.tokens)
    (sym (link_here (line_in c.args.self.now.reader.lines.now) c.args.self.now.reader.depth c.args.around c.in-Some.next.now c.args.tokens.now f s c.args.chain c.skip.new.self c.skip.ensures h)) c.link_within.ensures

pub returns-else-is_word : goal.returns-else-is_word
returns-else-is_word g c =
    let f : first c.args.tokens.now ≡ Some c.in-Some.next.now = search std_rules in
    let s : begins_statement c.args.around.in_loop c.in-Some.next.now ≡ true = search std_rules in
    let h : is_word w.If c.in-Some.next.now.kind ≡ false = search std_rules in
    subst (λ o. Reads o c.other_body.result c.other_body.new.tokens)
    (sym (other_here (line_in c.args.self.now.reader.lines.now) c.args.self.now.reader.depth c.args.around c.in-Some.next.now c.args.tokens.now f s c.args.chain h)) c.other_body.ensures

use Rattle.std.proofs.Common.{◌≡◌, true, false, Some, sym, subst}
use Rattle.std.proofs.Common.{rules as std_rules}
use Rattle.resin_form.specs.Reads.{Reads, first}
use Rattle.resin_program_grammar.specs.declared.word.Word.TheVariants as w
use Rattle.resin_program_grammar.specs.Words.{is_word}
use Rattle.resin_parse_plain.specs.Lines.{line_in}
use Rattle.resin_program_grammar.specs.Declarations.{begins_item}
use Rattle.resin_parse_statement.proofs.Ahead.{statement_here}
use Rattle.resin_parse.proofs.class.Declarations.one_item.Goals as goal

pub returns-else-is_word-3 : goal.returns-else-is_word-3
returns-else-is_word-3 c =
    let f : first c.args.tokens.now ≡ Some c.in-Some.next.now = search std_rules in
    let s : begins_item c.in-Some.next.now ≡ true = search std_rules in
    let h : is_word w.Function c.in-Some.next.now.kind ≡ false = search std_rules in
    let k : is_word w.Class c.in-Some.next.now.kind ≡ false = search std_rules in
    let m : is_word w.Final c.in-Some.next.now.kind ≡ false = search std_rules in
    subst (λ o. Reads o c.statement_item.result c.statement_item.new.tokens)
    (sym (statement_here (line_in c.args.self.now.reader.lines.now) c.args.self.now.reader.depth c.in-Some.next.now c.args.tokens.now f s h k m)) c.statement_item.ensures

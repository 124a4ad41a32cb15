use Rattle.std.proofs.Common.{◌≡◌, false, sym, subst}
use Rattle.std.proofs.Common.{rules as std_rules}
use Rattle.resin_form.specs.Reads.{Reads}
use Rattle.resin_program_grammar.specs.declared.word.Word.TheVariants as w
use Rattle.resin_program_grammar.specs.Words.{is_word}
use Rattle.resin_parse_plain.specs.Lines.{line_in}
use Rattle.resin_parse_statement.proofs.Ahead.{body_is_statement}
use Rattle.resin_parse_statement.proofs.parser.Parser.body_statement.Goals as goal

pub returns-then-not-is_word : goal.returns-then-not-is_word
returns-then-not-is_word g c =
    let h : is_word w.LeftBrace c.args.next.now.kind ≡ false = search std_rules in
    subst (λ o. Reads o c.statement_within.result c.statement_within.new.tokens)
    (sym (body_is_statement (line_in c.args.self.now.reader.lines.now) c.args.self.now.reader.depth c.args.around c.args.next.now c.args.tokens.now c.requires.next c.requires.begins h)) c.statement_within.ensures

use Rattle.std.proofs.Common.{◌≡◌, true, sym, subst}
use Rattle.std.proofs.Common.{rules as std_rules}
use Rattle.resin_form.specs.Reads.{Reads}
use Rattle.resin_program_grammar.specs.Statements.{is_nothing}
use Rattle.resin_parse_plain.specs.Lines.{line_in}
use Rattle.resin_parse_statement.proofs.Chains.{nothing_left}
use Rattle.resin_parse_statement.proofs.parser.Parser.chain_on.Goals as goal

pub returns-then-is_nothing : goal.returns-then-is_nothing
returns-then-is_nothing g c =
    let h : is_nothing (line_in c.args.self.now.reader.lines.now) c.args.left ≡ true = search std_rules in
    subst (λ o. Reads o c.chain_end.result c.chain_end.new.tokens)
    (sym (nothing_left (line_in c.args.self.now.reader.lines.now) c.args.self.now.reader.depth c.args.around c.args.chain c.args.tokens.now c.args.left h)) c.chain_end.ensures

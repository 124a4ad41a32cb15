use Rattle.std.proofs.Common.{take, sym, ◌∙◌, ap}
use Rattle.std.specs.Prelude.{nat_lt}
use Rattle.std.specs.List.{prefix_len}
use Rattle.resin_lex.specs.Lexes.{before}
use Rattle.resin_lex.specs.declared.token.Token.{Token}
use Rattle.resin_lex.proofs.lexer.keep_before.Goals as goal

pub returns-in-Some : goal.returns-in-Some
returns-in-Some c =
    let ts = c.args.tokens.now in
    c.truncate.ensures
    ∙ ap (λ n. take n ts) (c.count_before-count.ensures ∙ ap (prefix_len (λ (token : Token). nat_lt token.from c.in-Some.place)) c.as_slice.ensures)
    ∙ ap (λ f. before f ts) (sym c.in-Some.is)

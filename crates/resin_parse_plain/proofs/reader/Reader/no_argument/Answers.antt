use Rattle.std.proofs.Common.{◌≡◌, ◌<◌, true}
use Rattle.std.proofs.Common.{rules as std_rules}
use Rattle.resin_grammar.specs.Signs.{is_sign}
use Rattle.resin_grammar.specs.declared.sign.Sign.TheVariants as s
use Rattle.resin_parse_plain.specs.Lines.{line_in}
use Rattle.resin_parse_plain.proofs.Lifted.{nothing_steps}
use Rattle.resin_parse_plain.proofs.reader.Reader.no_argument.Goals as goal

pub returns-else-not-opens : goal.returns-else-not-opens
returns-else-not-opens c =
    let h : is_sign s.LeftRound c.in-Some.next.now.kind ≡ true = search std_rules in
    let room : 0 < c.args.self.now.depth = search std_rules in
    let e = nothing_steps (line_in c.args.self.now.lines.now) c.args.self.now.depth c.in-Some.next.now c.skip.new.self c.args.tokens.now room c.skip.ensures h in
    rw e c.expect.ensures

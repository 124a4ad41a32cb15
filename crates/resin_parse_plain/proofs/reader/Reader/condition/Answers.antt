use Rattle.std.proofs.Common.{◌≡◌, true, rules}
use Rattle.resin_grammar.specs.Signs.{is_sign}
use Rattle.resin_grammar.specs.declared.sign.Sign.TheVariants as s
use Rattle.resin_parse_plain.specs.Lines.{line_in}
use Rattle.resin_parse_plain.proofs.Lifted.{condition_steps}
use Rattle.resin_parse_plain.proofs.reader.Reader.condition.Goals as goal

pub returns-else-not-opens : goal.returns-else-not-opens
returns-else-not-opens c =
    let h : is_sign s.LeftRound c.in-Some.next.now.kind ≡ true = search rules in
    let e = condition_steps (line_in c.args.self.now.lines.now) c.args.self.now.depth c.inside.result.depth c.in-Some.next.now c.skip.new.self c.args.tokens.now c.inside.ensures.depth c.skip.ensures h in
    rw e (rw (← c.inside.ensures.lines) c.expression.ensures)

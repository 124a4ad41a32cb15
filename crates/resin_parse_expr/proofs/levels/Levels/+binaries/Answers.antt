use Rattle.std.proofs.Common.{◌≡◌, sym, subst}
use Rattle.resin_form.specs.Reads.{Reads}
use Rattle.resin_grammar.specs.Expressions as spec
use Rattle.resin_grammar.specs.Reading.{under}
use Rattle.resin_parse_expr.proofs.levels.Levels.+binaries.Goals as goal

pub returns-then-count-eq0 : goal.returns-then-count-eq0
unfolding spec.binaries
returns-then-count-eq0 g t c =
    subst (λ n. Reads (under c.args.self.now.parser.depth (spec.binaries n) c.args.tokens.now) c.negated.result c.negated.new.tokens) (sym c.if-count-eq0.true) c.negated.ensures

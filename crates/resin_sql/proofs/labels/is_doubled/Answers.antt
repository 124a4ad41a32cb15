use Rattle.std.proofs.Common.{rules, ◌≡◌, false}
use Rattle.std.specs.Prelude.{◌==◌}
use Rattle.resin_sql.proofs.Quotes.{quote_first, other_first}
use Rattle.resin_sql.proofs.labels.is_doubled.Goals as goal

pub returns-then-byte_at-eq39-clause-value : goal.returns-then-byte_at-eq39-clause-value
returns-then-byte_at-eq39-clause-value c =
    quote_first c.args.text.now c.args.at c.args.to c.byte_at.result c.if-at-to.true c.requires.within c.byte_at.ensures c.byte_at-then-byte_at-eq39.result c.byte_at-then-byte_at-eq39.ensures c.if-byte_at-eq39.true

pub returns-else-byte_at-eq39-clause-value : goal.returns-else-byte_at-eq39-clause-value
returns-else-byte_at-eq39-clause-value c =
    let n : (c.byte_at.result == 39) ≡ false = search rules in
    other_first c.args.text.now c.args.at c.args.to c.byte_at.result c.if-at-to.true c.requires.within c.byte_at.ensures n

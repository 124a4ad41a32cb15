use Rattle.std.proofs.Common.{rules, sym}
use Rattle.resin_value.specs.Seen.{tree_of}
use Rattle.resin_session.specs.Texts.{is_storable}
use Rattle.resin_session.proofs.Written.{all_more, all_fails}
use Rattle.resin_session.proofs.writing.are_storable.Goals as goal

pub returns-then-not-is_storable : goal.returns-then-not-is_storable
returns-then-not-is_storable c =
    sym (all_fails (λ e. is_storable e.1) c.args.array.now.entries c.loop-i.i (c.entry.result.0.now, tree_of c.entry.result.1.now) c.entry.ensures (search rules))

pub loop-i-preserved : goal.loop-i-preserved
loop-i-preserved c =
    all_more (λ e. is_storable e.1) c.args.array.now.entries c.loop-i.i (c.entry.result.0.now, tree_of c.entry.result.1.now) c.entry.ensures c.loop-i.invariant (search rules)

use Rattle.std.proofs.Common.{rules, sym}
use Rattle.resin_frozen.specs.Policies.{is_field_key}
use Rattle.resin_frozen.proofs.Loops.{all_more, all_fails}
use Rattle.resin_frozen.proofs.freezing.are_names.Goals as goal

pub returns-then-not-is_field_key : goal.returns-then-not-is_field_key
returns-then-not-is_field_key c = sym (all_fails (λ e. is_field_key e.0) c.args.pairs.now.entries c.loop-i.i (c.entry.result.0.now, _) c.entry.ensures (search rules))

pub loop-i-preserved : goal.loop-i-preserved
loop-i-preserved c = all_more (λ e. is_field_key e.0) c.args.pairs.now.entries c.loop-i.i (c.entry.result.0.now, _) c.entry.ensures c.loop-i.invariant (search rules)

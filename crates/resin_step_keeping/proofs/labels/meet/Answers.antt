use Rattle.std.proofs.Common.{arith, sym, ap, ◌∙◌}
use Rattle.std.specs.Prelude.{option_copied}
use Rattle.indexmap.specs.IndexSet.{insert_key}
use Rattle.resin_step_parts.specs.Under.label.Sets.{same}
use Rattle.resin_step_keeping.proofs.MetSets.{met_absent, met_none, met_one}
use Rattle.resin_step_keeping.proofs.labels.meet.Goals as goal

pub returns-then-len-eq0 : goal.returns-then-len-eq0
returns-then-len-eq0 c = met_none c.args.sets.now c.args.len c.args.place c.args.met.now.keys c.if-len-eq0.true

pub returns-in_default : goal.returns-in_default
returns-in_default c = met_absent c.args.sets.now c.args.len c.args.place c.args.met.now.keys (sym c.set_at.ensures ∙ ap option_copied c.in_default.is)

pub returns : goal.returns
returns c =
    met_one c.args.sets.now c.args.len c.args.place c.args.met.now.keys c.insert.new.met.keys c.in-Some.set.now (omega (arith, c.if-len-eq0.false)) (sym c.set_at.ensures ∙ ap option_copied c.in-Some.is)
    (c.in_ok-insert.ensures ∙ ap (insert_key same c.args.met.now.keys) c.in_ok-copy.ensures.cases)

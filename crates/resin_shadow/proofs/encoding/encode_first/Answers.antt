use Rattle.std.proofs.Common.{length, sym, ap, ◌∙◌}
use Rattle.std.proofs.lemmas.Bool.{true≢false}
use Rattle.resin_shadow.proofs.Ending.{none1, some1}
use Rattle.resin_shadow.proofs.encoding.encode_first.Goals as goal

pub returns-then-is_empty : goal.returns-then-is_empty
returns-then-is_empty c =
    none1 c.m.inside.table c.args.m.now c.in_ok-sets.sets.keys c.in_ok-texts.texts.keys c.new-text.result c.m.invariant c.m.view_is c.in_ok-sets.ensures c.in_ok-texts.ensures (c.is_empty.ensures.0 c.if-is_empty.true) c.new-text.ensures

pub returns : goal.returns
returns c =
    some1 c.m.inside.table c.args.m.now c.in_ok-sets.sets.keys c.in_ok-texts.texts.keys c.new-text.result c.push_slice.new.self c.push_line.new.text c.push_policies.new.text c.push_runs_first.new.text c.len.result (length c.as_slice.result.now)
    c.m.invariant c.m.view_is c.in_ok-sets.ensures c.in_ok-texts.ensures (λ z. true≢false (sym (c.is_empty.ensures.1 z) ∙ c.if-is_empty.false)) c.len.ensures.len (ap length c.as_slice.ensures.value) c.new-text.ensures c.in_ok-push_slice.ensures.ok c.in_ok-push_line.ensures
    c.in_ok-push_policies.ensures c.in_ok-push_runs_first.ensures

use Rattle.std.proofs.Common.{sym, ◌∙◌}
use Rattle.resin_value.specs.Seen.{tree_of}
use Rattle.resin_session.proofs.Pairs.{absent}
use Rattle.resin_session.proofs.Sessions.{added}
use Rattle.resin_session.proofs.entries.read_entry.Goals as goal

pub returns-in-Ok : goal.returns-in-Ok
returns-in-Ok c =
    added c.args.array c.put.new.self c.in_ok-head.head c.in_ok-key.key (tree_of c.in_ok-value.value) c.args.rest.now c.read_head.new.rest c.read_key.new.rest c.read_value.new.rest
    c.in_ok-head.ensures c.in_ok-key.ensures.reads (absent c.get.result _ _ (sym c.is_some.ensures ∙ c.if-is_some.false) c.get.ensures) c.in_ok-value.ensures c.requires c.in-Ok.ensures.ok

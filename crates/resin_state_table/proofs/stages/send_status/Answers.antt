use Rattle.std.proofs.Common.{rules, ◌≡◌, ◌∙◌}
use Rattle.std.specs.Fmt.{decimal}
use Rattle.resin_stage.proofs.Plain.{may_send_plain, text_plain}
use Rattle.resin_state_table.proofs.stages.send_status.Goals as goal

pub send_status-requires : goal.send_status-requires
send_status-requires c =
    let shown : c.as_bytes.result.now ≡ decimal c.args.status = search rules in
    record {
      may = may_send_plain _ _ _ _ _ c.in_ok-text.ensures c.in-Some.ensures.begun;
      told = text_plain _ _ c.in_ok-text.ensures ∙ shown;
    }

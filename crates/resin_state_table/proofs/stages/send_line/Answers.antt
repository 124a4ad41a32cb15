use Rattle.resin_stage.proofs.Plain.{may_send_plain, line_plain}
use Rattle.resin_state_table.proofs.stages.send_line.Goals as goal

pub send_header-requires : goal.send_header-requires
send_header-requires c = record {
  may = may_send_plain _ _ _ _ _ c.in_ok-text.ensures c.in-Some.ensures.begun;
  line = line_plain _ _ _ c.in_ok-text.ensures c.requires;
}

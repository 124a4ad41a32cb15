use Rattle.resin_stage.proofs.Plain.{may_send_plain}
use Rattle.resin_state_table.proofs.stages.send_page.Goals as goal

pub send_page-requires : goal.send_page-requires
send_page-requires c = may_send_plain _ _ _ _ _ c.in_ok-text.ensures c.in-Some.ensures.begun

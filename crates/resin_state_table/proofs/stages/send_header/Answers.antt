use Rattle.std.proofs.Common.{refl}
use Rattle.resin_state_table.proofs.stages.send_header.Goals as goal

pub send_line-requires : goal.send_line-requires
send_line-requires c = refl

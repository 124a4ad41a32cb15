use Rattle.std.proofs.Common.{◌∙◌, ap, arith}
use Rattle.std.specs.Prelude.{replicate}
use Rattle.std.specs.Rc.{rc_slice_items}
use Rattle.resin_label.specs.Sets.{NumberSet, empty}
use Rattle.resin_lstr.proofs.Zips.{one_set_text}
use Rattle.resin_lstr.proofs.Pieces.{length-carrying}
use Rattle.resin_lstr.proofs.body.TextBody.shared.Goals as goal

pub returns : goal.returns
returns c = (
  one_set_text c.shared-bytes.result (rc_slice_items c.args.bytes) c.in_ok-runs.runs empty c.shared-bytes.ensures
      (c.in_ok-runs.ensures.spelled ∙ ap (λ n. replicate n c.empty.result) c.len-2.ensures ∙ ap (replicate _) c.empty.ensures),
  omega (arith, length-carrying empty (rc_slice_items c.args.bytes)),
)

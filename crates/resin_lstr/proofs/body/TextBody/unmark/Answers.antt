use Rattle.std.proofs.Common.{◌∙◌, ap}
use Rattle.std.specs.List.{zip}
use Rattle.std.specs.Prelude.{map}
use Rattle.resin_label.specs.Sets.{NumberSet, remove}
use Rattle.resin_lstr.specs.Runs.{spell}
use Rattle.resin_lstr.proofs.Zips.{unmarked_text}
use Rattle.resin_lstr.proofs.body.TextBody.unmark.Goals as goal

pub returns : goal.returns
returns c =
    ap (λ bs. zip bs (spell 0 c.in_ok-runs-2.runs)) c.in_ok-bytes.ensures.cases
    ∙ unmarked_text c.self.inside.bytes c.self.inside.runs c.self.invariant c.self.view_is c.args.n c.in_ok-runs-2.runs
    (ap (spell 0) c.in_ok-runs-2.ensures ∙ c.in_ok-runs.ensures.spelled ∙ ap (λ rs. map (λ (s : NumberSet). remove s c.args.n) (spell 0 rs)) c.as_slice.ensures)

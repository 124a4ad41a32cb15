use Rattle.std.proofs.Common.{ap, ◌∙◌, sym}
use Rattle.resin_label.specs.Sets.{contains}
use Rattle.resin_lstr.specs.Texts.{first_range, sets_of}
use Rattle.resin_lstr.specs.Runs.{spell}
use Rattle.resin_lstr.proofs.Zips.{sets_text}
use Rattle.resin_lstr.proofs.body.TextBody.first_run_of.Goals as goal

pub returns : goal.returns
returns c =
    c.range_holding.ensures
    ∙ ap (first_range (λ s. contains s c.args.n)) (ap (spell 0) c.as_slice.ensures ∙ sym (sets_text _ _ c.self.invariant) ∙ ap sets_of c.self.view_is)

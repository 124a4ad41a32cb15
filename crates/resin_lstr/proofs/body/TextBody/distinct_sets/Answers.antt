use Rattle.std.proofs.Common.{◌≡◌, ap, ◌∙◌, sym, subst}
use Rattle.std.specs.Prelude.{IfOk}
use Rattle.resin_label.specs.Sets.{same}
use Rattle.resin_lstr.specs.Texts.{distinct, sets_of}
use Rattle.resin_lstr.specs.Runs.{spell}
use Rattle.resin_lstr.proofs.Zips.{sets_text}
use Rattle.resin_lstr.proofs.body.TextBody.distinct_sets.Goals as goal

pub returns : goal.returns
returns c =
    let is = ap (distinct same) (ap (spell 0) c.as_slice.ensures ∙ sym (sets_text _ _ c.self.invariant) ∙ ap sets_of c.self.view_is) in
    subst (λ ss. IfOk c.sets_once.result (λ sets. sets ≡ ss)) is c.sets_once.ensures

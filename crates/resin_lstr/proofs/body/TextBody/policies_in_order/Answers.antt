use Rattle.std.proofs.Common.{◌≡◌, ap, ◌∙◌, sym, subst}
use Rattle.std.specs.Prelude.{nat_eq, IfOk}
use Rattle.std.specs.List.{flat_map}
use Rattle.resin_label.specs.Sets.{numbers}
use Rattle.resin_lstr.specs.Texts.{distinct, sets_of}
use Rattle.resin_lstr.specs.Runs.{spell}
use Rattle.resin_lstr.proofs.Zips.{sets_text}
use Rattle.resin_lstr.proofs.body.TextBody.policies_in_order.Goals as goal

pub returns : goal.returns
returns c =
    let is = ap (spell 0) c.as_slice.ensures ∙ sym (sets_text _ _ c.self.invariant) ∙ ap sets_of c.self.view_is in
    subst (λ ss. IfOk c.numbers_once.result (λ list. list ≡ distinct nat_eq (flat_map numbers ss))) is c.numbers_once.ensures

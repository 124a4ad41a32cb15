use Rattle.std.proofs.Common.{ap, ◌∙◌, sym, arith, get_or, subst}
use Rattle.resin_label.specs.Sets.{empty}
use Rattle.resin_lstr.specs.Texts.{sets_of}
use Rattle.resin_lstr.specs.Runs.{spell, last_end, IsCoalesced}
use Rattle.resin_lstr.proofs.Spelled.{end_more}
use Rattle.resin_lstr.proofs.Places.{set_here}
use Rattle.resin_lstr.proofs.Zips.{last_is, sets_text}
use Rattle.resin_lstr.proofs.body.TextBody.set_at.Goals as goal

pub run_at-k-requires-clause-within : goal.run_at-k-requires-clause-within
run_at-k-requires-clause-within c = omega (arith, ap (last_end 0) c.as_slice-runs.ensures, last_is _ _ c.self.invariant c.self.view_is)

pub returns : goal.returns
returns c =
    let rs = c.as_slice-runs.result.now in
    let k = c.run_at-k.result in
    let run = c.index-runs-k.result in
    let coalesced = subst (IsCoalesced 0) (sym c.as_slice-runs.ensures) c.self.invariant.coalesced in
    set_here rs k c.args.i run empty coalesced c.run_at-k.ensures.inside c.run_at-k.ensures.begins
    (omega (arith, c.run_at-k.ensures.ends, end_more c.as_slice-runs.result.now c.run_at-k.result c.index-runs-k.result coalesced c.run_at-k.ensures.inside))
    ∙ ap (λ qs. get_or (spell 0 qs) c.args.i empty) c.as_slice-runs.ensures
    ∙ ap (λ ss. get_or ss c.args.i empty) (sym (sets_text _ _ c.self.invariant) ∙ ap sets_of c.self.view_is)

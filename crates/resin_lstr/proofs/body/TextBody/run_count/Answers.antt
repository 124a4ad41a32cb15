use Rattle.std.proofs.Common.{ℕ, length, ap, ◌∙◌, sym, subst}
use Rattle.resin_lstr.specs.Texts.{sets_of}
use Rattle.resin_lstr.specs.Runs.{IsLeastCount}
use Rattle.resin_lstr.proofs.Least.{least_count}
use Rattle.resin_lstr.proofs.Zips.{sets_text}
use Rattle.resin_lstr.proofs.body.TextBody.run_count.Goals as goal

pub returns : goal.returns
returns c =
    subst (λ (n : ℕ). IsLeastCount (sets_of c.args.self.now) n) (sym (ap length c.as_slice.ensures))
    (least_count c.self.inside.runs (sets_of c.args.self.now) c.self.invariant.coalesced (sym (sets_text _ _ c.self.invariant) ∙ ap sets_of c.self.view_is))

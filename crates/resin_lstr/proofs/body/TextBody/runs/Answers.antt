use Rattle.std.proofs.Common.{ℕ, List, length, ap, ◌∙◌, sym, subst}
use Rattle.resin_lstr.specs.declared.text.Run.{Run}
use Rattle.resin_lstr.specs.Texts.{sets_of}
use Rattle.resin_lstr.specs.Runs.{AreRunsOf, IsLeastCount, spell}
use Rattle.resin_lstr.proofs.Least.{least_count}
use Rattle.resin_lstr.proofs.Zips.{long, sets_text}
use Rattle.resin_lstr.proofs.body.TextBody.runs.Goals as goal

pub returns-clause-runs : goal.returns-clause-runs
returns-clause-runs c =
    subst (AreRunsOf (length c.args.self.now)) (sym c.as_slice.ensures)
    (subst (λ (n : ℕ). AreRunsOf n c.self.inside.runs) (long _ _ c.self.invariant c.self.view_is) c.self.invariant)

pub returns-clause-spelled : goal.returns-clause-spelled
returns-clause-spelled c = ap (spell 0) c.as_slice.ensures ∙ sym (sets_text _ _ c.self.invariant) ∙ ap sets_of c.self.view_is

pub returns-clause-least : goal.returns-clause-least
returns-clause-least c =
    subst (λ (rs : List Run). IsLeastCount (sets_of c.args.self.now) (length rs)) (sym c.as_slice.ensures)
    (least_count c.self.inside.runs (sets_of c.args.self.now) c.self.invariant.coalesced (sym (sets_text _ _ c.self.invariant) ∙ ap sets_of c.self.view_is))

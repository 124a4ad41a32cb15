use Rattle.std.proofs.Common.{ℕ, List, length, sym, ap, subst, ◌∙◌}
use Rattle.std.specs.List.{zip}
use Rattle.resin_lstr.specs.Texts.{sets_of}
use Rattle.resin_lstr.specs.declared.text.Run.{Run}
use Rattle.resin_lstr.specs.Runs.{spell, AreRunsOf}
use Rattle.resin_lstr.proofs.Zips.{sets_text, length_text}
use Rattle.resin_lstr.proofs.body.TextBody.with_bytes.Goals as goal

pub invariant_of-result : goal.invariant_of-result
invariant_of-result c =
    let bs = c.self.inside.bytes in
    let rs = c.self.inside.runs in
    subst (λ (n : ℕ). AreRunsOf n c.in_ok-runs.runs)
    (sym (length_text bs rs c.self.invariant) ∙ ap length c.self.view_is ∙ sym c.requires ∙ sym (ap length c.in_ok-bytes.ensures))
    (subst (λ (qs : List Run). AreRunsOf (length c.self.inside.bytes) qs) (sym c.in_ok-runs.ensures.cases) c.self.invariant)

pub returns : goal.returns
returns c =
    let bs = c.self.inside.bytes in
    let rs = c.self.inside.runs in
    ap (λ bytes. zip bytes (spell 0 c.in_ok-runs.runs)) c.in_ok-bytes.ensures
    ∙ ap (zip c.args.bytes.items) (ap (spell 0) c.in_ok-runs.ensures.cases ∙ sym (sets_text bs rs c.self.invariant) ∙ ap sets_of c.self.view_is)

use Rattle.std.proofs.Common.{refl, ap, ◌∙◌, ◌++◌}
use Rattle.resin_site.specs.Outcomes.{status_of, fixed_text}
use Rattle.resin_site.proofs.Made.{parts_are, response_is}
use Rattle.resin_site.proofs.outcome.with_parts.Goals as goal

pub returns : goal.returns
returns c = λ s es eh eb em ej.
    parts_are c.args.path.now c.args.head_only c.args.end s _ refl (c.status_of-status.ensures ∙ ap (λ n. status_of c.args.end n) es) (c.in_ok-headers.ensures ∙ eh)
    (c.in_ok-push_fixed.ensures ∙ ap (λ b. b ++ fixed_text c.args.end) eb)
    (response_is _ _ _ _ c.in_ok-head.head c.args.head_only (rw (c.kind_at-kind.ensures, c.as_slice-length.ensures) at c.in_ok-head.ensures)) em ej

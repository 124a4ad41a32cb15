-- Outcomes obey the access law.
use Rattle.std.proofs.Common.{◌≡◌, ℕ, Bool, List, ◌++◌, refl, ap, sym, subst, ◌⊎◌}
use Rattle.std.specs.Prelude.{decimal}
use Rattle.resin_request.specs.Under.stage.Stages.{Stage}
use Rattle.resin_request.specs.Under.stage.Ties.{IsTied, sent_lines, IsOneOf}
use Rattle.resin_request.specs.Under.stage.Writes as writes
use Rattle.resin_site.specs.declared.outcome.End.{End}
use Rattle.resin_site.specs.declared.outcome.End.TheVariants.{Served}
use Rattle.resin_site.specs.Laws.{IsLawful}
use Rattle.resin_site.specs.Outcomes.{status_of, fixed_text, with_parts}

-- what a tied stage of a lawful journal gives
pub lawful_parts : (request : ℕ) (path : List ℕ) (head_only : Bool) (end : End) (s : Stage) → writes.IsLawful s.journal s.writes → IsTied request s
    → IsLawful request (with_parts path head_only end s)
lawful_parts request path head_only end s law tied = record {
  writes = law.law;
  classes = law.named;
  body = ap (λ b. b ++ fixed_text end) tied.body;
  mail = tied.mail;
  headers = tied.headers;
  status = λ e. subst (λ x. (status_of x s.status ≡ 200) ⊎ ((status_of x s.status ≡ 302) ⊎ IsOneOf (decimal (status_of x s.status)) (sent_lines s.journal))) (sym e) tied.status;
  response = record { path = path; head_only = head_only; text = refl };
}

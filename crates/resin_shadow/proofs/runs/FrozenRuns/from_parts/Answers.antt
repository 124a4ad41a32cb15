use Rattle.std.proofs.Common.{List, ap, map, ◌∙◌, ◌++◌}
use Rattle.resin_shadow.specs.declared.table.Kind.{Kind}
use Rattle.resin_shadow.specs.Runs.{marks_of, set_of}
use Rattle.resin_shadow.specs.Parts.{spelled_by}
use Rattle.resin_shadow.proofs.runs.FrozenRuns.from_parts.Goals as goal

pub returns : goal.returns
returns c =
    c.in_ok-push_all.ensures.marks
    ∙ ap (λ v. v ++ spelled_by (map (λ k. k.set) c.deref.result.now) c.args.runs.now) (ap marks_of c.in_ok-kinds.ensures.runs ∙ c.new-table.ensures.empty)
    ∙ ap (λ (ks : List Kind). spelled_by (map (λ k. k.set) ks) c.args.runs.now) c.deref.ensures.value
    ∙ ap (λ s. spelled_by s c.args.runs.now) c.in_ok-kinds.ensures.sets

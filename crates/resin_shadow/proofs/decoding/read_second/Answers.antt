use Rattle.std.proofs.Common.{List, map, sym, ap, Some, ◌∙◌}
use Rattle.std.proofs.lemmas.Result.{err_from_is_err_and}
use Rattle.resin_frozen.proofs.Parts.{on}
use Rattle.resin_shadow.specs.declared.table.Kind.{Kind}
use Rattle.resin_shadow.specs.Runs.{marks_of}
use Rattle.resin_shadow.specs.Readers.{read2}
use Rattle.resin_shadow.proofs.Finding.{read2_runs, runs_fail}
use Rattle.resin_shadow.proofs.decoding.read_second.Goals as goal

pub returns-in_err-read_runs_second : goal.returns-in_err-read_runs_second
returns-in_err-read_runs_second c =
    let p = err_from_is_err_and c.from_residual-in_err-read_runs_second.result c.from_residual-in_err-read_runs_second.ensures.1 in
    rw (p.1, p.2) (runs_fail _ _ c.in_err-read_runs_second.field-0.0 (marks_of c.read_runs_second.new.table.runs.items) c.read_runs_second.new.rest
    (ap read2 (sym c.new-rest.ensures) ∙ read2_runs _ _ _ _ _ _ _ _ _ _ _ _ _ _ c.in_ok-literal.ensures c.in_ok-count_of_policies.ensures c.in_ok-count_of_sets.ensures c.in_ok-count.ensures c.in_ok-policies.ensures
    (c.in_ok-kinds.ensures.reads ∙ ap (λ (ks : List Kind). Some (map (λ k. k.set) ks, c.read_sets.new.rest)) (sym c.deref.ensures.value))
    (ap marks_of c.in_ok-kinds.ensures.runs ∙ c.new-table.ensures.empty)) c.in_err-read_runs_second.ensures.reads)

pub returns : goal.returns
returns c =
    ap read2 (sym c.new-rest.ensures) ∙ read2_runs _ _ _ _ _ _ _ _ _ _ _ _ _ _ c.in_ok-literal.ensures c.in_ok-count_of_policies.ensures c.in_ok-count_of_sets.ensures c.in_ok-count.ensures c.in_ok-policies.ensures
    c.in_ok-kinds.ensures.reads (ap marks_of c.in_ok-kinds.ensures.runs ∙ c.new-table.ensures.empty)
    ∙ on (λ v. Some v.0) (rw c.deref.ensures.value at c.in_ok-read_runs_second.ensures.reads)

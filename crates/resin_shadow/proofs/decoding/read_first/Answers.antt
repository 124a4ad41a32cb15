use Rattle.std.proofs.Common.{sym, ap, Some, ◌∙◌}
use Rattle.std.proofs.lemmas.Result.{err_from_is_err_and}
use Rattle.resin_frozen.proofs.Parts.{on}
use Rattle.resin_shadow.specs.Readers.{read1}
use Rattle.resin_shadow.proofs.Finding.{read1_runs, runs_fail}
use Rattle.resin_shadow.proofs.decoding.read_first.Goals as goal

pub returns-in_err-read_runs_first : goal.returns-in_err-read_runs_first
returns-in_err-read_runs_first c =
    let p = err_from_is_err_and c.from_residual-in_err-read_runs_first.result c.from_residual-in_err-read_runs_first.ensures.1 in
    rw (p.1, p.2) (runs_fail _ _ c.in_err-read_runs_first.field-0.0 _ _
    (ap read1 (sym c.new-rest.ensures) ∙ read1_runs _ _ _ _ _ _ _ _ _ _ c.in_ok-literal.ensures c.in_ok-count_of_policies.ensures c.in_ok-count.ensures c.in_ok-policies.ensures c.new-table.ensures.empty) c.in_err-read_runs_first.ensures.reads)

pub returns : goal.returns
returns c =
    ap read1 (sym c.new-rest.ensures) ∙ read1_runs _ _ _ _ _ _ _ _ _ _ c.in_ok-literal.ensures c.in_ok-count_of_policies.ensures c.in_ok-count.ensures c.in_ok-policies.ensures c.new-table.ensures.empty
    ∙ on (λ v. Some v.0) c.in_ok-read_runs_first.ensures.reads

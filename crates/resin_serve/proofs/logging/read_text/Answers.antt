use Rattle.std.proofs.Common.{◌<◌, ◌+◌, take, length, get_or, subst, arith}
use Rattle.std.proofs.lemmas.List.{take_more, take_all}
use Rattle.resin_site.specs.Under.label.Sets.{numbers}
use Rattle.resin_site.specs.Under.lstr.declared.text.Run.{Run}
use Rattle.resin_audit.specs.Under.journal_file.Limits.{Each, IsObject}
use Rattle.resin_serve.proofs.Telling.{each_more, each_spelled}
use Rattle.resin_serve.proofs.logging.read_text.Goals as goal

pub loop-run-preserved : goal.loop-run-preserved
loop-run-preserved c =
    let rs = c.runs-run-items.result.now in
    let k = c.loop-run.run-index in
    let d = c.run-item.result in
    let lt : k < length rs = omega arith in
    each_more (λ (r : Run). Each IsObject (numbers r.set)) (take k rs) (take (k + 1) rs) (get_or rs k d) (take_more rs k d lt) c.loop-run.invariant
    (subst (λ (r : Run). Each IsObject (numbers r.set)) c.run-item.is c.read_set.ensures)

pub returns : goal.returns
returns c =
    let rs = c.runs-run-items.result.now in (
      c.runs-run-items.ensures.runs.short,
      subst (Each (λ s. Each IsObject (numbers s))) c.runs-run-items.ensures.spelled
          (each_spelled (λ s. Each IsObject (numbers s)) 0 rs
          (subst (Each (λ (r : Run). Each IsObject (numbers r.set))) (take_all c.loop-run.run-index rs (omega arith)) c.loop-run.invariant)),
    )

use Rattle.std.proofs.Common.{◌≡◌, ◌++◌, ◌<◌, ◌-◌, take, length, get_or, sym, ap, ◌∙◌, append_assoc, arith}
use Rattle.std.specs.List.{flat_map}
use Rattle.std.proofs.lemmas.List.{take_more}
use Rattle.resin_lstr.specs.declared.text.Run.{Run}
use Rattle.resin_lstr.specs.Runs.{last_end}
use Rattle.resin_lstr.proofs.Spelled.{rises_more, end_more}
use Rattle.resin_journal_file.specs.Files.{run_line, lengths}
use Rattle.resin_journal_file.proofs.Lengths.{lines_more}
use Rattle.resin_journal_file.proofs.events.push_runs.Goals as goal

pub overflow_sub-run : goal.overflow_sub-run
overflow_sub-run c =
    let rs = c.args.runs.now in
    let k = c.loop-run.run-index in
    let d = c.run-item.result in
    let lt : k < length rs = omega arith in
    let up : last_end 0 (take k rs) < (get_or rs k d).end = rises_more rs k d c.requires lt in
    let is : d.end ≡ (get_or rs k d).end = ap (λ (r : Run). r.end) c.run-item.is in
    let before : c.loop-run.from ≡ last_end 0 (take k rs) = c.loop-run.invariant.from_is in
    omega arith

pub loop-run-preserved : goal.loop-run-preserved
loop-run-preserved c =
    let rs = c.args.runs.now in
    let k = c.loop-run.run-index in
    let d = c.run-item.result in
    let lt : k < length rs = omega arith in
    let is : d.end ≡ (get_or rs k d).end = ap (λ (r : Run). r.end) c.run-item.is in
    let from = last_end 0 (take k rs) in
    record {
      text_is = c.in_ok-push_run.ensures
          ∙ ap (λ n. c.loop-run.text ++ run_line (d.end - n, d.set)) c.loop-run.invariant.from_is
          ∙ ap (λ (r : Run). c.loop-run.text ++ run_line (r.end - from, r.set)) c.run-item.is
          ∙ ap (λ t. t ++ run_line ((get_or rs k d).end - from, (get_or rs k d).set)) c.loop-run.invariant.text_is
          ∙ append_assoc c.args.text.now (flat_map run_line (lengths 0 (take k rs))) (run_line ((get_or rs k d).end - from, (get_or rs k d).set))
          ∙ ap (λ t. c.args.text.now ++ t) (sym (lines_more rs k (get_or rs k d) (take_more rs k d lt)));
      from_is = is ∙ sym (end_more rs k d c.requires lt);
    }

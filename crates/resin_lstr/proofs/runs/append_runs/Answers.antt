use Rattle.std.proofs.Common.{◌≡◌, ◌≤◌, ◌+◌, ◌-◌, ◌++◌, take, drop, ap, ◌∙◌, sym, arith, append-nil, length-take, length-drop}
use Rattle.std.specs.Prelude.{replicate}
use Rattle.resin_lstr.specs.Runs.{spell, last_end}
use Rattle.resin_lstr.proofs.Spelled.{rises_more, end_more, appended}
use Rattle.resin_lstr.proofs.Places.{item_in_part, front_none, front_all}
use Rattle.resin_lstr.proofs.runs.append_runs.Goals as goal

pub loop-run-init : goal.loop-run-init
loop-run-init c =
    let from = c.args.from.now in
    let first = c.runs_within-first.result.0 in
    let none : first + 0 ≡ first = omega arith in
    let at_first : last_end 0 (take (first + 0) from) ≤ c.args.lo = omega (arith, ap (λ n. last_end 0 (take n from)) none, c.runs_within-first.ensures.begins) in record {
      coalesced = c.requires.coalesced;
      ends = omega (arith, ap (last_end 0) c.deref.ensures.value, c.end_of-base.ensures, at_first);
      spelled = sym (append-nil (spell 0 c.args.out.now.items)) ∙ ap (λ ss. spell 0 c.args.out.now.items ++ ss) (sym (front_none from (first + 0) c.args.lo (c.args.hi - c.args.lo) c.requires.from_coalesced at_first));
    }

pub push_run-requires-clause-rises : goal.push_run-requires-clause-rises
push_run-requires-clause-rises c =
    let from = c.args.from.now in
    let first = c.runs_within-first.result.0 in
    let item = item_in_part from first (c.runs_within-first.result.1 - first) c.loop-run.run-index c.run-item.result c.loop-run-test.true c.run-item.is in
    omega (arith, rises_more from (first + c.loop-run.run-index) c.run-item.result c.requires.from_coalesced item.0, ap (λ r. r.end) item.1, c.loop-run.invariant.ends)

pub loop-run-preserved : goal.loop-run-preserved
loop-run-preserved c =
    let from = c.args.from.now in
    let first = c.runs_within-first.result.0 in
    let k = first + c.loop-run.run-index in
    let item = item_in_part from first (c.runs_within-first.result.1 - first) c.loop-run.run-index c.run-item.result c.loop-run-test.true c.run-item.is in
    let next : (first + c.loop-run.run-index) + 1 ≡ first + (c.loop-run.run-index + 1) = omega arith in
    let count = (c.end_of-base.result + c.saturating_sub-to.result) - last_end 0 c.loop-run.out.items in record {
      coalesced = c.in_ok-push_run.ensures.coalesced;
      ends = omega (
        arith,
        c.in_ok-push_run.ensures.ends,
        ap (λ r. r.end) item.1,
        end_more from k c.run-item.result c.requires.from_coalesced item.0,
        ap (λ n. last_end 0 (take n from)) next,
      );
      spelled = appended from k c.run-item.result c.requires.from_coalesced item.0
          (spell 0 c.args.out.now.items) (spell 0 c.loop-run.out.items) (spell 0 c.push_run.new.runs.items) c.args.lo c.args.hi count
          c.requires.ordered (omega (arith, c.loop-run.invariant.ends, ap (λ r. r.end) item.1)) c.loop-run.invariant.spelled
          (c.in_ok-push_run.ensures.spelled ∙ ap (λ s. spell 0 c.loop-run.out.items ++ replicate count s) (c.in_ok-clone.ensures.cases ∙ ap (λ r. r.set) item.1))
          ∙ ap (λ n. spell 0 c.args.out.now.items ++ take (c.args.hi - c.args.lo) (drop c.args.lo (spell 0 (take n from)))) next;
    }

pub returns-clause-spelled : goal.returns-clause-spelled
returns-clause-spelled c =
    let from = c.args.from.now in
    let first = c.runs_within-first.result.0 in
    let behind = c.runs_within-first.result.1 in
    let last : first + c.loop-run.run-index ≡ behind
    = omega (arith, c.loop-run-test.false, c.loop-run.auto.run-index-end, length-take (behind - first) (drop first from), length-drop first from, c.runs_within-first.ensures.inside, c.runs_within-first.ensures.ordered) in
    c.loop-run.invariant.spelled
    ∙ ap (λ n. spell 0 c.args.out.now.items ++ take (c.args.hi - c.args.lo) (drop c.args.lo (spell 0 (take n from)))) last
    ∙ ap (λ ss. spell 0 c.args.out.now.items ++ ss) (front_all from behind c.args.lo c.args.hi c.requires.from_coalesced c.requires.ordered c.runs_within-first.ensures.ends)

pub returns-clause-ends : goal.returns-clause-ends
returns-clause-ends c =
    let from = c.args.from.now in
    let first = c.runs_within-first.result.0 in
    let behind = c.runs_within-first.result.1 in
    let last : first + c.loop-run.run-index ≡ behind
    = omega (arith, c.loop-run-test.false, c.loop-run.auto.run-index-end, length-take (behind - first) (drop first from), length-drop first from, c.runs_within-first.ensures.inside, c.runs_within-first.ensures.ordered) in
    omega (
      arith,
      c.loop-run.invariant.ends,
      ap (λ n. last_end 0 (take n from)) last,
      c.runs_within-first.ensures.ends,
      c.end_of-base.ensures,
      ap (last_end 0) c.deref.ensures.value,
    )

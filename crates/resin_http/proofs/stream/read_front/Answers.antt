use Rattle.std.proofs.Common.{arith, sym, ◌∙◌, Some, None, subst}
use Rattle.resin_http.specs.Stream.{most_head}
use Rattle.resin_http.specs.Steps.{Steps}
use Rattle.resin_http.proofs.StreamLemmas.{first_at, fits_step, no_end, no_end_full}
use Rattle.resin_http.proofs.WaitLemmas.{searched_front, announced_at}
use Rattle.resin_http.proofs.stream.read_front.Goals as goal

pub head_end-requires : goal.head_end-requires
head_end-requires c = searched_front c.args.stream.now c.args.searched c.min.result c.requires.searched

pub returns-then-stream-ge-MOST_HEAD-clause-steps : goal.returns-then-stream-ge-MOST_HEAD-clause-steps
returns-then-stream-ge-MOST_HEAD-clause-steps c =
    (most_head, first_at c.args.stream.now c.min.result None c.min.ensures (sym c.in_default.is ∙ c.head_end.ensures.value) ∙ no_end_full c.args.stream.now (omega arith))

pub returns-in_default-clause-steps : goal.returns-in_default-clause-steps
returns-in_default-clause-steps c =
    first_at c.args.stream.now c.min.result None c.min.ensures (sym c.in_default.is ∙ c.head_end.ensures.value) ∙ no_end c.args.stream.now (omega arith)

pub returns-in-Asks-clause-steps : goal.returns-in-Asks-clause-steps
returns-in-Asks-clause-steps c =
    let at = first_at c.args.stream.now c.min.result (Some c.in-Some.end) c.min.ensures c.in-Some.ensures.value in
    subst (λ f. Steps f c.in-Asks.step) (sym at) (rw c.in-Asks.is at c.in_ok-step.ensures)

pub returns-in-Asks-clause-fits : goal.returns-in-Asks-clause-fits
returns-in-Asks-clause-fits c = fits_step c.args.stream.now c.in-Asks.step (returns-in-Asks-clause-steps c)

pub returns-in-Awaits-clause-steps : goal.returns-in-Awaits-clause-steps
returns-in-Awaits-clause-steps c =
    let looks = rw c.in-Awaits.is at c.in_ok-step.ensures in
    first_at c.args.stream.now c.min.result (Some c.in-Some.end) c.min.ensures c.in-Some.ensures.value ∙ looks.0

pub returns-in-Awaits-clause-mark : goal.returns-in-Awaits-clause-mark
returns-in-Awaits-clause-mark c =
    let looks = rw c.in-Awaits.is at c.in_ok-step.ensures in
    announced_at c.args.stream.now c.min.result (Some c.in-Some.end) c.min.ensures c.in-Some.ensures.value ∙ looks.1

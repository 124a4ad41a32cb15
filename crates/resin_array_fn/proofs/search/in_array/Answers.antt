use Rattle.std.proofs.Common.{true, false, Ok, sym, ap, ◌∙◌}
use Rattle.std.proofs.lemmas.Result.{err_from_is_err_and}
use Rattle.resin_ops.specs.Under.value.Seen.{tree_of}
use Rattle.resin_array_fn.proofs.Fills.{search_turn}
use Rattle.resin_array_fn.proofs.search.in_array.Goals as goal

pub returns-in_err-fits-clause-answer : goal.returns-in_err-fits-clause-answer
returns-in_err-fits-clause-answer c =
    let turn = search_turn c.args.strict (tree_of c.args.needle.now) c.args.a.now.entries c.args.ticks.now.left c.loop-i.i c.loop-i.ticks.left (c.entry.result.0.now, tree_of c.entry.result.1.now) c.loop-i.invariant c.entry.ensures _ c.fits.new.ticks.left c.in_err-fits.ensures.answer c.in_err-fits.ensures.charged in
    let p = err_from_is_err_and c.from_residual.result c.from_residual.ensures.1 in
    rw (p.1, p.2) (λ j. (sym turn j).0)

pub returns-in_err-fits-clause-charged : goal.returns-in_err-fits-clause-charged
returns-in_err-fits-clause-charged c =
    let turn = search_turn c.args.strict (tree_of c.args.needle.now) c.args.a.now.entries c.args.ticks.now.left c.loop-i.i c.loop-i.ticks.left (c.entry.result.0.now, tree_of c.entry.result.1.now) c.loop-i.invariant c.entry.ensures _ c.fits.new.ticks.left c.in_err-fits.ensures.answer c.in_err-fits.ensures.charged in
    λ j. (sym turn j).1

pub returns-then-branch-clause-answer : goal.returns-then-branch-clause-answer
returns-then-branch-clause-answer c =
    let turn = search_turn c.args.strict (tree_of c.args.needle.now) c.args.a.now.entries c.args.ticks.now.left c.loop-i.i c.loop-i.ticks.left (c.entry.result.0.now, tree_of c.entry.result.1.now) c.loop-i.invariant c.entry.ensures (Ok true) c.fits.new.ticks.left (ap Ok (sym c.if-branch.true) ∙ c.in_ok-fits.ensures.answer) c.in_ok-fits.ensures.charged in
    λ j. (sym turn j).0

pub returns-then-branch-clause-charged : goal.returns-then-branch-clause-charged
returns-then-branch-clause-charged c =
    let turn = search_turn c.args.strict (tree_of c.args.needle.now) c.args.a.now.entries c.args.ticks.now.left c.loop-i.i c.loop-i.ticks.left (c.entry.result.0.now, tree_of c.entry.result.1.now) c.loop-i.invariant c.entry.ensures (Ok true) c.fits.new.ticks.left (ap Ok (sym c.if-branch.true) ∙ c.in_ok-fits.ensures.answer) c.in_ok-fits.ensures.charged in
    λ j. (sym turn j).1

pub loop-i-preserved : goal.loop-i-preserved
loop-i-preserved c =
    sym (search_turn c.args.strict (tree_of c.args.needle.now) c.args.a.now.entries c.args.ticks.now.left c.loop-i.i c.loop-i.ticks.left (c.entry.result.0.now, tree_of c.entry.result.1.now) c.loop-i.invariant c.entry.ensures (Ok false) c.fits.new.ticks.left (ap Ok (sym c.if-branch.false) ∙ c.in_ok-fits.ensures.answer) c.in_ok-fits.ensures.charged)

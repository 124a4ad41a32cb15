use Rattle.std.proofs.Common.{◌+◌, drop, map, ap}
use Rattle.std.proofs.lemmas.Result.{err_from_is_err_and}
use Rattle.resin_meaning_forms.specs.Under.value.Seen.{tree_of}
use Rattle.resin_meaning_forms.specs.Under.array_fn.Filled.{filled, in_order}
use Rattle.resin_meaning_forms.proofs.meaning_lemmas.Composition.{front}
use Rattle.resin_step_parts.proofs.Lists.{next_goes, next_stops}
use Rattle.resin_step_parts.proofs.reads.list.Goals as goal

pub returns-in_err-out-2 : goal.returns-in_err-out-2
returns-in_err-out-2 c = let p = err_from_is_err_and c.from_residual-in_err-out-2.result c.from_residual-in_err-out-2.ensures.1 in rw (p.1, p.2) (next_stops tree_of c.loop-v.out (filled (in_order (map tree_of c.args.values.now))) (drop c.loop-v.v-index c.args.values.now) (drop (c.loop-v.v-index + 1) c.args.values.now) c.v-item.result (tree_of c.in_ok-clone.field-0) c.loop-v.invariant (front c.args.values.now c.loop-v.v-index c.v-item.result c.loop-v-test.true c.v-item.is) (ap tree_of c.in_ok-clone.ensures.cases) _ c.in_err-out-2.ensures)

pub loop-v-preserved : goal.loop-v-preserved
loop-v-preserved c = next_goes tree_of c.loop-v.out (filled (in_order (map tree_of c.args.values.now))) (drop c.loop-v.v-index c.args.values.now) (drop (c.loop-v.v-index + 1) c.args.values.now) c.v-item.result (tree_of c.in_ok-clone.field-0) c.loop-v.invariant (front c.args.values.now c.loop-v.v-index c.v-item.result c.loop-v-test.true c.v-item.is) (ap tree_of c.in_ok-clone.ensures.cases) c.in_ok-out-2.out c.in_ok-out-2.ensures

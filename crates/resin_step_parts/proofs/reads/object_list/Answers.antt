use Rattle.std.proofs.Common.{◌+◌, drop, map, refl, get_or}
use Rattle.std.proofs.lemmas.Result.{err_from_is_err_and}
use Rattle.resin_meaning_forms.specs.Under.value.Trees.{object}
use Rattle.resin_meaning_forms.specs.Under.array_fn.Filled.{filled, in_order}
use Rattle.resin_meaning_forms.proofs.meaning_lemmas.Composition.{front_number}
use Rattle.resin_step_parts.proofs.Lists.{next_goes, next_stops}
use Rattle.resin_step_parts.proofs.reads.object_list.Goals as goal

pub returns-in_err-out-2 : goal.returns-in_err-out-2
returns-in_err-out-2 c = let p = err_from_is_err_and c.from_residual-in_err-out-2.result c.from_residual-in_err-out-2.ensures.1 in rw (p.1, p.2) (next_stops object c.loop-o.out (filled (in_order (map object c.args.objects.now))) (drop c.loop-o.o-index c.args.objects.now) (drop (c.loop-o.o-index + 1) c.args.objects.now) (get_or c.args.objects.now c.loop-o.o-index 0) (object (get_or c.args.objects.now c.loop-o.o-index 0)) c.loop-o.invariant (front_number c.args.objects.now c.loop-o.o-index c.loop-o-test.true) refl _ c.in_err-out-2.ensures)

pub loop-o-preserved : goal.loop-o-preserved
loop-o-preserved c = next_goes object c.loop-o.out (filled (in_order (map object c.args.objects.now))) (drop c.loop-o.o-index c.args.objects.now) (drop (c.loop-o.o-index + 1) c.args.objects.now) (get_or c.args.objects.now c.loop-o.o-index 0) (object (get_or c.args.objects.now c.loop-o.o-index 0)) c.loop-o.invariant (front_number c.args.objects.now c.loop-o.o-index c.loop-o-test.true) refl c.in_ok-out-2.out c.in_ok-out-2.ensures

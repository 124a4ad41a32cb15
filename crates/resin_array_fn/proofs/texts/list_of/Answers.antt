use Rattle.std.proofs.Common.{◌+◌, drop, ap}
use Rattle.std.specs.Prelude.{map, None}
use Rattle.std.proofs.lemmas.Result.{err_from_is_err_and}
use Rattle.resin_ops.specs.Under.value.Trees.{text}
use Rattle.resin_text_fn.proofs.Joins.{rest_more}
use Rattle.resin_array_fn.specs.Filled.{in_order}
use Rattle.resin_array_fn.specs.Rows.{list_of_texts}
use Rattle.resin_array_fn.proofs.Fills.{addition_stops, addition_goes, listed_front}
use Rattle.resin_array_fn.proofs.texts.list_of.Goals as goal

pub returns-in_err-out-2 : goal.returns-in_err-out-2
returns-in_err-out-2 c =
    let xs = c.args.texts.now in
    let k = c.loop-text.text-index in
    let x = c.text-item.result in
    let whole = list_of_texts c.args.texts.now in
    let more = rest_more xs k x c.loop-text-test.true c.text-item.is in
    let next = listed_front text (drop k xs) (drop (k + 1) xs) x (text c.in_ok-clone.field-0) c.loop-text.out whole c.loop-text.invariant more (ap text c.in_ok-clone.ensures.cases) in
    let p = err_from_is_err_and c.from_residual-in_err-out-2.result c.from_residual-in_err-out-2.ensures.1 in
    rw (p.1, p.2) (addition_stops c.loop-text.out None (text c.in_ok-clone.field-0) (in_order (map text (drop (k + 1) xs))) whole next _ c.in_err-out-2.ensures)

pub loop-text-preserved : goal.loop-text-preserved
loop-text-preserved c =
    let xs = c.args.texts.now in
    let k = c.loop-text.text-index in
    let x = c.text-item.result in
    let whole = list_of_texts c.args.texts.now in
    let more = rest_more xs k x c.loop-text-test.true c.text-item.is in
    let next = listed_front text (drop k xs) (drop (k + 1) xs) x (text c.in_ok-clone.field-0) c.loop-text.out whole c.loop-text.invariant more (ap text c.in_ok-clone.ensures.cases) in
    addition_goes c.loop-text.out None (text c.in_ok-clone.field-0) (in_order (map text (drop (k + 1) xs))) whole next c.in_ok-out-2.out c.in_ok-out-2.ensures

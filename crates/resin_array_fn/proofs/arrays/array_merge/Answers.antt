use Rattle.std.proofs.Common.{◌+◌, false, List, Ok, drop, sym, ap, ◌∙◌}
use Rattle.std.proofs.lemmas.Result.{err_from_is_err_and}
use Rattle.resin_ops.specs.Under.value.declared.value.Value.{Value}
use Rattle.resin_ops.specs.Under.value.Seen.{tree_of, trees_of}
use Rattle.resin_ops.specs.Under.value.Arrays.{EntryList, entries_of-row_of}
use Rattle.resin_text_fn.proofs.Joins.{rest_more}
use Rattle.resin_array_fn.specs.Filled.{filled_on, with_kept_keys}
use Rattle.resin_array_fn.specs.Rows.{merged_on, array_merge, entries_in}
use Rattle.resin_array_fn.proofs.Fills.{merged_stops, merged_goes, slice_whole, stop_same}
use Rattle.resin_array_fn.proofs.arrays.array_merge.Goals as goal

pub returns-in_err-out-2 : goal.returns-in_err-out-2
returns-in_err-out-2 c =
    let vs = c.args.arrays.now in
    let k = c.loop-value.value-index in
    let v = c.value-item.result in
    let a = c.in-Arr.a in
    let out = c.loop-value.out in
    let whole = array_merge (trees_of c.args.arrays.now) in
    let is = ap (λ (w : Value). entries_in (tree_of w)) c.in-Arr.is ∙ ap Ok (entries_of-row_of c.in-Arr.a.entries) in
    let next = sym (ap (λ (us : List Value). merged_on c.loop-value.out (trees_of us)) (rest_more vs k v c.loop-value-test.true c.value-item.is)) ∙ c.loop-value.invariant in
    let all = ap (λ (es : EntryList). filled_on c.loop-value.out (with_kept_keys false es)) (slice_whole c.in-Arr.a.entries c.len.result c.len.ensures.value) in
    let p = err_from_is_err_and c.from_residual-in_err-out-2.result c.from_residual-in_err-out-2.ensures.1 in
    rw (p.1, p.2) (merged_stops out (tree_of v) (trees_of (drop (k + 1) vs)) a.entries whole next is _ (stop_same _ _ _ all c.in_err-out-2.ensures))

pub loop-value-preserved : goal.loop-value-preserved
loop-value-preserved c =
    let vs = c.args.arrays.now in
    let k = c.loop-value.value-index in
    let v = c.value-item.result in
    let a = c.in-Arr.a in
    let out = c.loop-value.out in
    let whole = array_merge (trees_of c.args.arrays.now) in
    let is = ap (λ (w : Value). entries_in (tree_of w)) c.in-Arr.is ∙ ap Ok (entries_of-row_of c.in-Arr.a.entries) in
    let next = sym (ap (λ (us : List Value). merged_on c.loop-value.out (trees_of us)) (rest_more vs k v c.loop-value-test.true c.value-item.is)) ∙ c.loop-value.invariant in
    let all = ap (λ (es : EntryList). filled_on c.loop-value.out (with_kept_keys false es)) (slice_whole c.in-Arr.a.entries c.len.result c.len.ensures.value) in
    merged_goes out (tree_of v) (trees_of (drop (k + 1) vs)) a.entries whole next is c.in_ok-out-2.out (sym all ∙ c.in_ok-out-2.ensures)

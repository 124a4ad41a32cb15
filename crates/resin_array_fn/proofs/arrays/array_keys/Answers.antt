use Rattle.std.proofs.Common.{◌+◌, drop}
use Rattle.std.specs.Prelude.{map, None}
use Rattle.std.proofs.lemmas.Result.{err_from_is_err_and}
use Rattle.resin_ops.specs.Under.value.Seen.{tree_of}
use Rattle.resin_ops.specs.Under.value.declared.key.Key.{Key}
use Rattle.resin_ops.specs.Under.value.Trees.{Tree}
use Rattle.resin_ops.proofs.value_lemmas.Compared.{drop_at}
use Rattle.resin_array_fn.specs.Filled.{in_order}
use Rattle.resin_array_fn.specs.Rows.{key_value, array_keys}
use Rattle.resin_array_fn.proofs.Fills.{addition_stops, addition_goes, listed_front}
use Rattle.resin_array_fn.proofs.arrays.array_keys.Goals as goal

pub returns-in_err-out-2 : goal.returns-in_err-out-2
returns-in_err-out-2 c =
    let es = c.args.a.now.entries in
    let i = c.loop-i.i in
    let f = λ (e : Key × Tree). key_value e.0 in
    let whole = array_keys c.args.a.now in
    let more = drop_at es i (c.entry.result.0.now, tree_of c.entry.result.1.now) c.entry.ensures in
    let next = listed_front f (drop i es) (drop (i + 1) es) (c.entry.result.0.now, tree_of c.entry.result.1.now) (tree_of c.in_ok-key_value.field-0) c.loop-i.out whole c.loop-i.invariant more c.in_ok-key_value.ensures in
    let p = err_from_is_err_and c.from_residual-in_err-out-2.result c.from_residual-in_err-out-2.ensures.1 in
    rw (p.1, p.2) (addition_stops c.loop-i.out None (tree_of c.in_ok-key_value.field-0) (in_order (map f (drop (i + 1) es))) whole next _ c.in_err-out-2.ensures)

pub loop-i-preserved : goal.loop-i-preserved
loop-i-preserved c =
    let es = c.args.a.now.entries in
    let i = c.loop-i.i in
    let f = λ (e : Key × Tree). key_value e.0 in
    let whole = array_keys c.args.a.now in
    let more = drop_at es i (c.entry.result.0.now, tree_of c.entry.result.1.now) c.entry.ensures in
    let next = listed_front f (drop i es) (drop (i + 1) es) (c.entry.result.0.now, tree_of c.entry.result.1.now) (tree_of c.in_ok-key_value.field-0) c.loop-i.out whole c.loop-i.invariant more c.in_ok-key_value.ensures in
    addition_goes c.loop-i.out None (tree_of c.in_ok-key_value.field-0) (in_order (map f (drop (i + 1) es))) whole next c.in_ok-out-2.out c.in_ok-out-2.ensures

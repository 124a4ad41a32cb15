use Rattle.std.proofs.Common.{◌≡◌, ◌+◌, ◌-◌, take, ap, arith}
use Rattle.std.specs.Prelude.{reverse}
use Rattle.std.proofs.lemmas.Result.{err_from_is_err_and}
use Rattle.resin_ops.specs.Under.value.Seen.{tree_of}
use Rattle.resin_array_fn.specs.Filled.{kept_key, with_kept_keys}
use Rattle.resin_array_fn.specs.Rows.{array_reverse}
use Rattle.resin_array_fn.proofs.Fills.{addition_stops, addition_goes, kept_front, backwards_more, lawful_at}
use Rattle.resin_array_fn.proofs.arrays.array_reverse.Goals as goal

pub with_entry-requires : goal.with_entry-requires
with_entry-requires c =
    lawful_at c.args.a.now.entries (c.loop-left.left - 1) c.entry.result.0.now (tree_of c.entry.result.1.now) c.len-left.ensures.kept.lawful c.entry.ensures

pub returns-in_err-out-2 : goal.returns-in_err-out-2
returns-in_err-out-2 c =
    let es = c.args.a.now.entries in
    let left = c.loop-left.left in
    let k = c.entry.result.0.now in
    let t = tree_of c.entry.result.1.now in
    let u = tree_of c.in_ok-clone.field-0 in
    let whole = array_reverse c.args.a.now c.args.keep in
    let rest = reverse (take (c.loop-left.left - 1) c.args.a.now.entries) in
    let down : c.loop-left.left ≡ c.loop-left.left - 1 + 1 = omega (arith, c.loop-left-test.true) in
    let more = backwards_more es left (left - 1) (k, t) down c.entry.ensures in
    let next = kept_front c.args.keep (reverse (take left es)) rest k t u c.loop-left.out whole c.loop-left.invariant.is more (ap tree_of c.in_ok-clone.ensures.cases) in
    let p = err_from_is_err_and c.from_residual-in_err-out-2.result c.from_residual-in_err-out-2.ensures.1 in
    rw (p.1, p.2) (addition_stops c.loop-left.out (kept_key c.args.keep k) u (with_kept_keys c.args.keep rest) whole next _ c.in_err-out-2.ensures)

pub loop-left-preserved : goal.loop-left-preserved
loop-left-preserved c =
    let es = c.args.a.now.entries in
    let left = c.loop-left.left in
    let k = c.entry.result.0.now in
    let t = tree_of c.entry.result.1.now in
    let u = tree_of c.in_ok-clone.field-0 in
    let whole = array_reverse c.args.a.now c.args.keep in
    let rest = reverse (take (c.loop-left.left - 1) c.args.a.now.entries) in
    let down : c.loop-left.left ≡ c.loop-left.left - 1 + 1 = omega (arith, c.loop-left-test.true) in
    let more = backwards_more es left (left - 1) (k, t) down c.entry.ensures in
    let next = kept_front c.args.keep (reverse (take left es)) rest k t u c.loop-left.out whole c.loop-left.invariant.is more (ap tree_of c.in_ok-clone.ensures.cases) in
    record {
      within = omega (arith, c.loop-left.invariant.within);
      is = addition_goes c.loop-left.out (kept_key c.args.keep k) u (with_kept_keys c.args.keep rest) whole next c.in_ok-out-2.out c.in_ok-out-2.ensures;
    }

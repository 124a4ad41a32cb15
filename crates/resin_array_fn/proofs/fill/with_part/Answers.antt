use Rattle.std.proofs.Common.{◌+◌, ap}
use Rattle.std.specs.List.{slice_range}
use Rattle.std.proofs.lemmas.Result.{err_from_is_err_and}
use Rattle.resin_ops.specs.Under.value.Seen.{tree_of}
use Rattle.resin_array_fn.specs.Filled.{kept_key, filled_on, with_kept_keys}
use Rattle.resin_array_fn.proofs.Fills.{addition_stops, addition_goes, kept_front, slice_more, lawful_at}
use Rattle.resin_array_fn.proofs.fill.with_part.Goals as goal

pub with_entry-requires : goal.with_entry-requires
with_entry-requires c =
    lawful_at c.args.a.now.entries c.loop-i.i c.entry.result.0.now (tree_of c.entry.result.1.now) c.len-len.ensures.kept.lawful c.entry.ensures

pub returns-in_err-out : goal.returns-in_err-out
returns-in_err-out c =
    let es = c.args.a.now.entries in
    let i = c.loop-i.i in
    let to = c.args.to in
    let k = c.entry.result.0.now in
    let t = tree_of c.entry.result.1.now in
    let u = tree_of c.in_ok-clone.field-0 in
    let whole = filled_on c.args.out (with_kept_keys c.args.keep (slice_range c.args.a.now.entries c.args.from c.args.to)) in
    let rest = slice_range c.args.a.now.entries (c.loop-i.i + 1) c.args.to in
    let more = slice_more es i to (k, t) c.entry.ensures c.loop-i-test.true in
    let next = kept_front c.args.keep (slice_range es i to) rest k t u c.loop-i.out whole c.loop-i.invariant more (ap tree_of c.in_ok-clone.ensures.cases) in
    let p = err_from_is_err_and c.from_residual-in_err-out.result c.from_residual-in_err-out.ensures.1 in
    rw (p.1, p.2) (addition_stops c.loop-i.out (kept_key c.args.keep k) u (with_kept_keys c.args.keep rest) whole next _ c.in_err-out.ensures)

pub loop-i-preserved : goal.loop-i-preserved
loop-i-preserved c =
    let es = c.args.a.now.entries in
    let i = c.loop-i.i in
    let to = c.args.to in
    let k = c.entry.result.0.now in
    let t = tree_of c.entry.result.1.now in
    let u = tree_of c.in_ok-clone.field-0 in
    let whole = filled_on c.args.out (with_kept_keys c.args.keep (slice_range c.args.a.now.entries c.args.from c.args.to)) in
    let rest = slice_range c.args.a.now.entries (c.loop-i.i + 1) c.args.to in
    let more = slice_more es i to (k, t) c.entry.ensures c.loop-i-test.true in
    let next = kept_front c.args.keep (slice_range es i to) rest k t u c.loop-i.out whole c.loop-i.invariant more (ap tree_of c.in_ok-clone.ensures.cases) in
    addition_goes c.loop-i.out (kept_key c.args.keep k) u (with_kept_keys c.args.keep rest) whole next c.in_ok-out.out c.in_ok-out.ensures

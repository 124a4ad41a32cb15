use Rattle.std.proofs.Common.{◌≡◌, Some, slice_get}
use Rattle.std.proofs.lemmas.Result.{err_from_is_err_and}
use Rattle.resin_value.specs.declared.key.Key.TheVariants.{Text}
use Rattle.resin_value.specs.Seen.{tree_of}
use Rattle.resin_frozen.specs.Policies.{ROOM, pairs_of}
use Rattle.resin_frozen.proofs.Loops.{slice_from, pairs_at, field_more, value_fails}
use Rattle.resin_frozen.proofs.freezing.push_fields.Goals as goal

pub returns-in_err-push_value : goal.returns-in_err-push_value
returns-in_err-push_value c =
    let f = c.loop-name-item.result in
    let i = c.loop-name.name-index in
    let at : slice_get c.args.fields.now i ≡ Some f = slice_from c.args.fields.now i f f c.loop-name-test.true c.loop-name-item.is in
    let p = err_from_is_err_and c.from_residual-in_err-push_value.result c.from_residual-in_err-push_value.ensures.1 in
    rw (p.1, p.2) (value_fails ROOM c.args.text.now c.push_bytes.new.text (pairs_of c.args.fields.now) i (Text f.0) (tree_of f.1) c.in_err-push_value.field-0.0 c.push_value.new.text c.push_value.new.text (pairs_at c.args.fields.now i f at) c.in_err-push_value.ensures)

pub loop-name-preserved : goal.loop-name-preserved
loop-name-preserved c =
    let f = c.loop-name-item.result in
    let i = c.loop-name.name-index in
    let at : slice_get c.args.fields.now i ≡ Some f = slice_from c.args.fields.now i f f c.loop-name-test.true c.loop-name-item.is in
    field_more c.args.text.now c.args.fields.now i f c.loop-name.text c.push_bytes.new.text c.push_value.new.text at c.loop-name.invariant
    (rw c.as_slice.ensures at c.in_ok-push_bytes.ensures.text) (rw c.as_slice.ensures at c.push_bytes.ensures.count) c.in_ok-push_value.ensures.0 c.in_ok-push_value.ensures.1 c.in_ok-push_value.ensures.2

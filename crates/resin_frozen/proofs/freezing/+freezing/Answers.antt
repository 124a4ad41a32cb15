use Rattle.std.proofs.Common.{◌≡◌, ◌+◌, ◌-◌, arith, sym, ap, ◌∙◌, length}
use Rattle.std.proofs.lemmas.Result.{err_from_is_err_and}
use Rattle.resin_value.specs.Arrays.{row_of, entries_of, entries_of-row_of}
use Rattle.resin_value.specs.Seen.{tree_of}
use Rattle.resin_frozen.specs.Texts.{pairs_text}
use Rattle.resin_frozen.proofs.Loops.{one_more, value_fails, array_text, array_storable, array_whole}
use Rattle.resin_frozen.proofs.freezing.+freezing.Goals as goal

pub push_pairs-loop-i-preserved : goal.push_pairs-loop-i-preserved
push_pairs-loop-i-preserved t c =
    one_more c.args.room c.args.text.now c.args.array.now.entries c.loop-i.i c.entry.result.0.now (tree_of c.entry.result.1.now) c.loop-i.text c.push_key.new.text c.push_value.new.text
    c.entry.ensures c.loop-i.invariant c.in_ok-push_key.ensures.text c.push_key.ensures.whole c.in_ok-push_value.ensures.0 c.in_ok-push_value.ensures.1 c.in_ok-push_value.ensures.2

pub push_pairs-returns-in_err-push_value : goal.push_pairs-returns-in_err-push_value
push_pairs-returns-in_err-push_value t c =
    let p = err_from_is_err_and c.from_residual-in_err-push_value.result c.from_residual-in_err-push_value.ensures.1 in
    rw (p.1, p.2) (value_fails c.args.room c.args.text.now c.push_key.new.text c.args.array.now.entries c.loop-i.i c.entry.result.0.now (tree_of c.entry.result.1.now) c.in_err-push_value.field-0.0 c.push_value.new.text c.push_value.new.text c.entry.ensures c.in_err-push_value.ensures)

pub push_array-returns : goal.push_array-returns
push_array-returns t c =
    let a = c.args.array.now in
    let same : (c.args.room - 1) + 1 ≡ c.args.room = omega arith in
    let len : c.len.result ≡ length (entries_of (row_of a.entries)) = c.len.ensures.value ∙ ap length (sym (entries_of-row_of a.entries)) in (
      array_text c.args.text.now c.push_slice.new.self c.push_number.new.text c.push_slice-2.new.self c.push_pairs.new.text c.push.new.self c.len.result (length (entries_of (row_of a.entries))) (pairs_text (row_of a.entries))
          c.in_ok-push_slice.ensures.ok c.in_ok-push_number.ensures c.in_ok-push_slice-2.ensures.ok c.in_ok-push_pairs.ensures.0 c.in_ok-push.ensures.ok len,
      array_storable c.args.room (c.args.room - 1) a same ∙ c.in_ok-push_pairs.ensures.1,
      array_whole c.args.room (c.args.room - 1) a same (omega (arith, c.len.ensures.value)) c.len.ensures.kept c.in_ok-push_pairs.ensures.2,
    )

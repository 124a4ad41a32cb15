use Rattle.std.proofs.Common.{◌+◌, ◌++◌, Ok, drop, sym, ap, ◌∙◌}
use Rattle.std.specs.Prelude.{map}
use Rattle.std.proofs.lemmas.Result.{err_from_is_err_and}
use Rattle.resin_ops.specs.Under.value.Seen.{tree_of}
use Rattle.resin_ops.specs.Under.value.Arrays.{EntryList}
use Rattle.resin_ops.proofs.value_lemmas.Compared.{drop_at}
use Rattle.resin_array_fn.specs.Filled.{and_then}
use Rattle.resin_array_fn.specs.Rows.{values, texts_in}
use Rattle.resin_array_fn.proofs.Fills.{text_stops, text_goes}
use Rattle.resin_array_fn.proofs.texts.texts_in.Goals as goal

pub returns-in_err-to_text : goal.returns-in_err-to_text
returns-in_err-to_text c =
    let es = c.args.a.now.entries in
    let i = c.loop-i.i in
    let t = tree_of c.entry.result.1.now in
    let ts = map (λ e. e.1) (drop (c.loop-i.i + 1) c.args.a.now.entries) in
    let next = sym (ap (λ (ds : EntryList). and_then (texts_in (map (λ e. e.1) ds)) (λ ys. Ok (c.loop-i.out ++ ys))) (drop_at es i (c.entry.result.0.now, t) c.entry.ensures)) ∙ c.loop-i.invariant in
    let p = err_from_is_err_and c.from_residual.result c.from_residual.ensures.1 in
    rw (p.1, p.2) (text_stops c.loop-i.out t ts (texts_in (values c.args.a.now)) next _ c.in_err-to_text.ensures)

pub loop-i-preserved : goal.loop-i-preserved
loop-i-preserved c =
    let es = c.args.a.now.entries in
    let i = c.loop-i.i in
    let t = tree_of c.entry.result.1.now in
    let ts = map (λ e. e.1) (drop (c.loop-i.i + 1) c.args.a.now.entries) in
    let next = sym (ap (λ (ds : EntryList). and_then (texts_in (map (λ e. e.1) ds)) (λ ys. Ok (c.loop-i.out ++ ys))) (drop_at es i (c.entry.result.0.now, t) c.entry.ensures)) ∙ c.loop-i.invariant in
    ap (λ o. and_then (texts_in ts) (λ ys. Ok (o ++ ys))) c.in_ok-push.ensures.ok
    ∙ text_goes c.loop-i.out t ts (texts_in (values c.args.a.now)) next c.in_ok-to_text.field-0 c.in_ok-to_text.ensures

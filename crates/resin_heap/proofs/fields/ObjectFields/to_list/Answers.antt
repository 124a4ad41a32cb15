use Rattle.std.proofs.Common.{◌<◌, ◌++◌, ◌∷◌, [], sym, ap, ◌∙◌, arith, length, take, ℕ, List}
use Rattle.std.proofs.lemmas.List.{take_more}
use Rattle.std.proofs.lemmas.Option.{get_or_from_slice_get}
use Rattle.resin_value.specs.declared.value.Value.{Value}
use Rattle.resin_heap.proofs.fields.ObjectFields.to_list.Goals as goal

pub loop-i-preserved : goal.loop-i-preserved
loop-i-preserved c =
    let fields = c.args.self.now in
    let i = c.loop-i.i in
    let e : List ℕ × Value = (c.entry.result.0.now, c.entry.result.1.now) in
    let within : i < length fields = omega (arith, c.len-i-end.ensures.value) in
    c.in_ok-push.ensures.ok
    ∙ (λ j. c.loop-i.invariant j ++ (c.in_ok-from_slice.ensures j, c.in_ok-clone.ensures.cases j) ∷ [])
    ∙ ap (λ x. take i fields ++ x ∷ []) (sym (get_or_from_slice_get fields i e e c.entry.ensures))
    ∙ sym (take_more fields i e within)

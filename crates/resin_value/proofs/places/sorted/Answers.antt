use Rattle.std.proofs.Common.{◌≡◌, ◌<◌, ◌+◌, ◌++◌, ◌∷◌, [], ap, sym, subst, ◌∙◌, arith, cond, length, get_or, take, slice_get, Some}
use Rattle.std.proofs.lemmas.List.{take_more, length-take}
use Rattle.std.proofs.lemmas.Option.{slice_get-get_or}
use Rattle.resin_value.specs.Changes.{lookup}
use Rattle.resin_value.specs.Keys.{key_eq}
use Rattle.resin_value.specs.Placed.{IsNumbered}
use Rattle.resin_value.specs.Seen.{keys_of}
use Rattle.resin_value.proofs.Pairs.{length-keys, key_at}
use Rattle.resin_value.proofs.Numbered.{counting_fresh, sorted_put, some_same}
use Rattle.resin_value.proofs.places.sorted.Goals as goal

pub loop-i-preserved : goal.loop-i-preserved
loop-i-preserved c =
    let list = c.args.list.now in
    let ks = keys_of list.items in
    let first = c.args.first in
    let i = c.loop-i.i in
    let k = c.index.result.now.key in
    let m = c.loop-i.map in
    let within : i < length list.items = omega (arith, c.loop-i-test.true, c.len-i-end.ensures, list.ok) in
    let within_keys : i < length ks = omega (arith, within, length-keys list.items) in
    let at : slice_get ks i ≡ Some k = key_at list.items i c.index.result.now within c.index.ensures in
    let is : get_or ks i k ≡ k = some_same (get_or ks i k) k (sym (slice_get-get_or ks i k within_keys) ∙ at) in
    let longer : take (i + 1) ks ≡ take i ks ++ k ∷ [] = take_more ks i k within_keys ∙ ap (λ x. take i ks ++ x ∷ []) is in
    let len : first + i ≡ first + length (take i ks) = omega (arith, length-take i ks, within_keys) in
    subst (λ zs. IsNumbered first c.put_number.new.map zs) (sym longer)
    (sorted_put first m c.put_number.new.map (take i ks) k c.loop-i.invariant (counting_fresh first ks i k c.requires at)
    (λ q. c.in_ok-put_number.ensures.ok q ∙ (λ j. cond (key_eq k q) (Some (len j)) (lookup q m.entries))))

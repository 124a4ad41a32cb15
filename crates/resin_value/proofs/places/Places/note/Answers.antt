use Rattle.std.proofs.Common.{◌≡◌, ◌+◌, subst, ◌∙◌, arith, length, Some, cond}
use Rattle.resin_value.specs.Changes.{lookup}
use Rattle.resin_value.specs.Keys.{key_eq}
use Rattle.resin_value.specs.Placed.{AreNumbered}
use Rattle.resin_value.specs.Seen.{keys_of}
use Rattle.resin_value.proofs.Pairs.{length-keys, on_ok}
use Rattle.resin_value.proofs.Numbered.{not_there, sorted_put}
use Rattle.resin_value.proofs.places.Places.note.Goals as goal

pub returns-in_ok-put_number-in-Counting-clause-ok : goal.returns-in_ok-put_number-in-Counting-clause-ok
returns-in_ok-put_number-in-Counting-clause-ok c =
    let first = c.args.self.now.first in
    let list = c.args.list.now in
    let ks = keys_of list.items in
    let k = c.args.k.now in
    let m = c.in_ok-map-in-Counting.map in
    let number : first + c.len.result ≡ first + length ks = omega (arith, c.len.ensures, list.ok, length-keys list.items) in
    sorted_put first m c.put_number.new.map ks k c.in_ok-map-in-Counting.ensures (not_there k ks c.requires.fresh)
    (λ q. c.in_ok-put_number-in-Counting.ensures.ok q ∙ (λ j. cond (key_eq k q) (Some (number j)) (lookup q m.entries)))

pub returns-in-Sorted-clause-ok : goal.returns-in-Sorted-clause-ok
returns-in-Sorted-clause-ok c =
    let first = c.args.self.now.first in
    let list = c.args.list.now in
    let ks = keys_of list.items in
    let k = c.args.k.now in
    let m = c.in-Sorted.map in
    let number : first + c.len.result ≡ first + length ks = omega (arith, c.len.ensures, list.ok, length-keys list.items) in
    on_ok c.put_number-in-Sorted.result
    (λ is. sorted_put first m c.put_number-in-Sorted.new.map ks k (subst (λ n. AreNumbered first n ks) c.in-Sorted.is c.requires.placed) (not_there k ks c.requires.fresh)
    (λ q. is q ∙ (λ j. cond (key_eq k q) (Some (number j)) (lookup q m.entries))))
    c.put_number-in-Sorted.ensures.ok

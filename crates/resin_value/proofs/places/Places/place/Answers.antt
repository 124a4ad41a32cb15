use Rattle.std.proofs.Common.{ap, sym, subst, ◌∙◌, length}
use Rattle.resin_value.specs.declared.places.Numbers.TheVariants.{Counting}
use Rattle.resin_value.specs.Placed.{IsNumbered, AreNumbered, counted}
use Rattle.resin_value.proofs.Numbered.{is_position, counted_places, found_by_order, sorted_found, sorted_missed}
use Rattle.resin_value.proofs.places.Places.place.Goals as goal

pub returns-in-Counting : goal.returns-in-Counting
returns-in-Counting c ks len placed =
    let first = c.args.self.now.first in
    let k = c.args.k.now in
    let old : AreNumbered first Counting ks = subst (λ n. AreNumbered first n ks) c.in-Counting.is placed in
    c.counted.ensures ∙ ap (counted k first) (sym len) ∙ is_position k ks (counted k first (length ks)) (counted_places first k ks old)

pub returns-in-Some : goal.returns-in-Some
returns-in-Some c ks len placed =
    let first = c.args.self.now.first in
    let k = c.args.k.now in
    let m = c.in-Sorted.map in
    let old : IsNumbered first m ks = subst (λ n. AreNumbered first n ks) c.in-Sorted.is placed in
    sorted_found first m ks k c.in-Some.number.now c.checked_sub.result old (sym (found_by_order k m.entries) ∙ sym c.in-Some.ensures.value) c.checked_sub.ensures

pub returns-in-None : goal.returns-in-None
returns-in-None c ks len placed =
    let first = c.args.self.now.first in
    let k = c.args.k.now in
    let m = c.in-Sorted.map in
    let old : IsNumbered first m ks = subst (λ n. AreNumbered first n ks) c.in-Sorted.is placed in
    sorted_missed first m ks k old (sym (found_by_order k m.entries) ∙ sym c.in-None.ensures.value)

use Rattle.std.proofs.Common.{◌<◌, arith, subst, length}
use Rattle.resin_value.specs.Placed.{AreNumbered}
use Rattle.resin_value.specs.Seen.{keys_of}
use Rattle.resin_value.proofs.Pairs.{key_at}
use Rattle.resin_value.proofs.Numbered.{sorted_taken}
use Rattle.resin_value.proofs.places.Numbers.close_up.Goals as goal

pub returns-in_ok-map-in-Counting-clause-ok : goal.returns-in_ok-map-in-Counting-clause-ok
returns-in_ok-map-in-Counting-clause-ok c =
    let list = c.args.list.now in
    let e = c.index.result.now in
    let within : c.args.i < length list.items = omega (arith, c.requires.there, list.ok) in
    sorted_taken c.args.first c.in_ok-map-in-Counting.map c.close_up.new.map (keys_of list.items) e.key c.in_ok-map-in-Counting.ensures
    c.args.i (key_at list.items c.args.i e within c.index.ensures) c.close_up.ensures

pub returns-in-Sorted-clause-ok : goal.returns-in-Sorted-clause-ok
returns-in-Sorted-clause-ok c =
    let list = c.args.list.now in
    let ks = keys_of list.items in
    let e = c.index-in-Sorted.result.now in
    let within : c.args.i < length list.items = omega (arith, c.requires.there, list.ok) in
    sorted_taken c.args.first c.in-Sorted.map c.close_up-in-Sorted.new.map ks e.key (subst (λ n. AreNumbered c.args.first n ks) c.in-Sorted.is c.requires.numbered)
    c.args.i (key_at list.items c.args.i e within c.index-in-Sorted.ensures) c.close_up-in-Sorted.ensures

use Rattle.std.proofs.Common.{◌≡◌, ap, sym, subst, ◌∙◌, arith, length, get_or, set, ◌++◌, ◌∷◌, []}
use Rattle.resin_value.specs.Placed.{IsPlaced}
use Rattle.resin_value.specs.Seen.{tree_of, pairs_of, keys_of}
use Rattle.resin_value.specs.Changes.{lookup, put_at}
use Rattle.resin_value.proofs.Pairs.{found_place, past_place, lookup_past, put_there, put_last, on_ok, length-keys, keys_set}
use Rattle.resin_value.proofs.value.Entries.put.Goals as goal

pub invariant_of-self : goal.invariant_of-self
invariant_of-self c =
    let s = c.self.inside in
    subst (λ ks. IsPlaced s.places ks) (sym (keys_set s.list.items c.in-Some.i c.index_mut.result.now c.args.v c.index_mut.ensures.value)) c.self.invariant

pub returns-in-Some-clause-ok : goal.returns-in-Some-clause-ok
returns-in-Some-clause-ok c =
    let s = c.self.inside in
    let ks = keys_of s.list.items in
    let k = c.args.k.now in
    let e = c.index_mut.result.now in
    let len : length ks ≡ c.len.result = omega (arith, length-keys s.list.items, s.list.ok, c.len.ensures) in
    let at = found_place k ks c.in-Some.i (sym c.in-Some.is ∙ c.place.ensures ks len c.self.invariant) in
    ap (λ n. pairs_of (set s.list.items n (record { key = e.key; value = c.args.v }))) (sym at.0)
    ∙ put_there k c.args.v s.list.items e (c.index_mut.ensures.value ∙ ap (λ n. get_or s.list.items n e) (sym at.0)) (omega (arith, at.0, at.1, length-keys s.list.items))
    ∙ ap (put_at k (tree_of c.args.v)) c.self.view_is

pub push-requires : goal.push-requires
push-requires c =
    let s = c.self.inside in
    let ks = keys_of s.list.items in
    let k = c.args.k.now in
    let len : length ks ≡ c.len.result = omega (arith, length-keys s.list.items, s.list.ok, c.len.ensures) in
    let past = past_place k ks (sym c.in-None.is ∙ c.place.ensures ks len c.self.invariant) in
    ap (λ j. lookup j c.args.self.now) c.in_ok-clone-in-None.ensures.cases ∙ ap (lookup k) (sym c.self.view_is)
    ∙ lookup_past k s.list.items (omega (arith, past, length-keys s.list.items))

pub returns-in_ok-clone-in-None-clause-ok : goal.returns-in_ok-clone-in-None-clause-ok
returns-in_ok-clone-in-None-clause-ok c =
    let s = c.self.inside in
    let ks = keys_of s.list.items in
    let k = c.args.k.now in
    let t = tree_of c.args.v in
    let len : length ks ≡ c.len.result = omega (arith, length-keys s.list.items, s.list.ok, c.len.ensures) in
    let past = past_place k ks (sym c.in-None.is ∙ c.place.ensures ks len c.self.invariant) in
    let absent = ap (lookup k) (sym c.self.view_is) ∙ lookup_past k s.list.items (omega (arith, past, length-keys s.list.items)) in
    on_ok c.push.result
    (λ e. e ∙ ap (λ j. c.args.self.now ++ (j, t) ∷ []) c.in_ok-clone-in-None.ensures.cases ∙ sym (put_last k t c.args.self.now absent))
    c.push.ensures.ok

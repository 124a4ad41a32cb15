use Rattle.std.proofs.Common.{◌≡◌, ap, sym, ◌∙◌, arith, Some, get_or, length}
use Rattle.resin_value.specs.Seen.{tree_of, keys_of}
use Rattle.resin_value.specs.Changes.{lookup}
use Rattle.resin_value.proofs.Pairs.{found_place, past_place, lookup_there, lookup_past, length-keys}
use Rattle.resin_value.proofs.value.Entries.get.Goals as goal

pub index-requires : goal.index-requires
index-requires c =
    let s = c.self.inside in
    let ks = keys_of s.list.items in
    let len : length ks ≡ c.len.result = omega (arith, length-keys s.list.items, s.list.ok, c.len.ensures) in
    let at = found_place c.args.k.now ks c.in-Some.i (sym c.in-Some.is ∙ c.place.ensures ks len c.self.invariant) in
    omega (arith, at.1, length-keys s.list.items, s.list.ok)

pub returns-in-Some : goal.returns-in-Some
returns-in-Some c =
    let s = c.self.inside in
    let ks = keys_of s.list.items in
    let k = c.args.k.now in
    let e = c.index.result.now in
    let len : length ks ≡ c.len.result = omega (arith, length-keys s.list.items, s.list.ok, c.len.ensures) in
    let at = found_place k ks c.in-Some.i (sym c.in-Some.is ∙ c.place.ensures ks len c.self.invariant) in
    ap (λ x. Some (tree_of x.value)) c.index.ensures
    ∙ ap (λ n. Some (tree_of (get_or s.list.items n e).value)) (sym at.0)
    ∙ sym (lookup_there k s.list.items e (omega (arith, at.0, at.1, length-keys s.list.items)))
    ∙ ap (lookup k) c.self.view_is

pub returns-in-None : goal.returns-in-None
returns-in-None c =
    let s = c.self.inside in
    let ks = keys_of s.list.items in
    let k = c.args.k.now in
    let len : length ks ≡ c.len.result = omega (arith, length-keys s.list.items, s.list.ok, c.len.ensures) in
    let past = past_place k ks (sym c.in-None.is ∙ c.place.ensures ks len c.self.invariant) in
    sym (lookup_past k s.list.items (omega (arith, past, length-keys s.list.items))) ∙ ap (lookup k) c.self.view_is

use Rattle.std.proofs.Common.{◌≡◌, ap, sym, subst, ◌∙◌, arith, length, remove}
use Rattle.resin_value.specs.Placed.{IsPlaced}
use Rattle.resin_value.specs.Seen.{pairs_of, keys_of}
use Rattle.resin_value.specs.Changes.{lookup, remove_at}
use Rattle.resin_value.proofs.Pairs.{found_place, remove_there, past_place, lookup_past, remove_absent, length-keys, keys_remove}
use Rattle.resin_value.proofs.value.Entries.remove.Goals as goal

pub forget-requires-clause-there : goal.forget-requires-clause-there
forget-requires-clause-there c =
    let s = c.self.inside in
    let ks = keys_of s.list.items in
    let len : length ks ≡ c.len.result = omega (arith, length-keys s.list.items, s.list.ok, c.len.ensures) in
    let at = found_place c.args.k.now ks c.in-Some.i (sym c.in-Some.is ∙ c.place.ensures ks len c.self.invariant) in
    omega (arith, at.1, length-keys s.list.items, s.list.ok)

pub take_entry-requires : goal.take_entry-requires
take_entry-requires c =
    let s = c.self.inside in
    let ks = keys_of s.list.items in
    let len : length ks ≡ c.len.result = omega (arith, length-keys s.list.items, s.list.ok, c.len.ensures) in
    let at = found_place c.args.k.now ks c.in-Some.i (sym c.in-Some.is ∙ c.place.ensures ks len c.self.invariant) in
    omega (arith, at.1, length-keys s.list.items, s.list.ok)

pub invariant_of-self-2 : goal.invariant_of-self-2
invariant_of-self-2 c =
    let s = c.self.inside in
    let ks : keys_of c.take_entry.new.list.items ≡ remove (keys_of s.list.items) c.in-Some.i = ap keys_of c.take_entry.ensures ∙ keys_remove s.list.items c.in-Some.i in
    subst (λ zs. IsPlaced c.forget.new.self zs) (sym ks) c.in_ok-forget.ensures.ok

pub returns-clause-ok : goal.returns-clause-ok
returns-clause-ok c =
    let s = c.self.inside in
    let ks = keys_of s.list.items in
    let k = c.args.k.now in
    let len : length ks ≡ c.len.result = omega (arith, length-keys s.list.items, s.list.ok, c.len.ensures) in
    let at = found_place k ks c.in-Some.i (sym c.in-Some.is ∙ c.place.ensures ks len c.self.invariant) in
    ap pairs_of c.take_entry.ensures
    ∙ ap (λ n. pairs_of (remove s.list.items n)) (sym at.0)
    ∙ remove_there k s.list.items (omega (arith, at.0, at.1, length-keys s.list.items))
    ∙ ap (remove_at k) c.self.view_is

pub returns-in_default-clause-ok : goal.returns-in_default-clause-ok
returns-in_default-clause-ok c =
    let s = c.self.inside in
    let ks = keys_of s.list.items in
    let k = c.args.k.now in
    let len : length ks ≡ c.len.result = omega (arith, length-keys s.list.items, s.list.ok, c.len.ensures) in
    let past = past_place k ks (sym c.in_default.is ∙ c.place.ensures ks len c.self.invariant) in
    sym (remove_absent k c.args.self.now (ap (lookup k) (sym c.self.view_is) ∙ lookup_past k s.list.items (omega (arith, past, length-keys s.list.items))))

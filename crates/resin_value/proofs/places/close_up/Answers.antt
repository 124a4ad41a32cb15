use Rattle.std.proofs.Common.{◌≡◌, ap, sym, ◌∙◌, cond, rules, None, map}
use Rattle.std.specs.Option.{option_map}
use Rattle.std.proofs.lemmas.Map.Made.{map_same_pairs}
use Rattle.resin_value.specs.Changes.{lookup}
use Rattle.resin_value.specs.Keys.{key_eq}
use Rattle.resin_value.specs.Placed.{closed_up}
use Rattle.resin_value.proofs.Numbered.{at_key, found_by_order, lookup_map, map_unless}
use Rattle.resin_value.proofs.places.close_up.Goals as goal

pub returns : goal.returns
returns c q =
    let m = c.args.map.now in
    let k = c.args.k.now in
    let i = c.args.i in
    let left = c.remove-number.new.self in
    let moved : c.retain.new.self.entries ≡ map (λ e. (e.0, closed_up i e.1)) left.entries = map_same_pairs _ (closed_up i) _ (λ k v b w f' t. search rules) _ _ c.retain.ensures.filtered in
    let taken : lookup q left.entries ≡ cond (key_eq k q) None (lookup q m.entries) =
    sym (found_by_order q left.entries) ∙ c.remove-number.ensures.updates.0 q ∙ (λ i. cond (at_key k q i) None (found_by_order q m.entries i)) in
    ap (lookup q) moved ∙ lookup_map q (closed_up i) left.entries ∙ ap (option_map (closed_up i)) taken ∙ map_unless (key_eq k q) (closed_up i) (lookup q m.entries)

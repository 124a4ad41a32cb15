use Rattle.std.proofs.Common.{ap, sym, ◌∙◌, cond, Some}
use Rattle.resin_value.specs.Changes.{lookup}
use Rattle.resin_value.specs.Keys.{key_eq}
use Rattle.resin_value.proofs.Numbered.{at_key, found_by_order}
use Rattle.resin_value.proofs.places.put_number.Goals as goal

pub returns-clause-ok : goal.returns-clause-ok
returns-clause-ok c q =
    let m = c.args.map.now in
    sym (found_by_order q c.insert.new.self.entries)
    ∙ c.in_ok-insert.ensures.updates.0 q
    ∙ (λ i. cond (at_key c.in_ok-clone.field-0 q i) (Some c.args.number) (found_by_order q m.entries i))
    ∙ ap (λ k. cond (key_eq k q) (Some c.args.number) (lookup q m.entries)) c.in_ok-clone.ensures.cases

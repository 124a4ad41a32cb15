use Rattle.std.proofs.Common.{sym, ◌∙◌, cond, None}
use Rattle.resin_value.proofs.Numbered.{at_key, found_by_order}
use Rattle.resin_value.proofs.places.take_out.Goals as goal

pub returns : goal.returns
returns c q =
    let m = c.args.map.now in
    sym (found_by_order q c.remove-number.new.self.entries) ∙ c.remove-number.ensures.updates.0 q ∙ (λ i. cond (at_key c.args.k.now q i) None (found_by_order q m.entries i))

use Rattle.std.proofs.Common.{◌≡◌, sym, ap, ◌∙◌, position, Some}
use Rattle.std.specs.Map.{keys_of}
use Rattle.std.specs.Str.{bytes_eq}
use Rattle.resin_heap.specs.Objects.{with_field}
use Rattle.resin_heap.proofs.Field_places.{written_at}
use Rattle.resin_heap.proofs.fields.ObjectFields.exchange.Goals as goal

pub returns-clause-new : goal.returns-clause-new
returns-clause-new c =
    let fields = c.self.inside.map.entries in
    let at : Some c.unwrap-i.result ≡ position (bytes_eq c.args.name.now) (keys_of fields) =
    sym c.unwrap-i.ensures ∙ c.place_of.ensures.place in
    c.exchange_at.ensures.new ∙ written_at c.args.name.now c.args.v fields c.unwrap-i.result at ∙ ap (with_field c.args.name.now c.args.v) c.self.view_is

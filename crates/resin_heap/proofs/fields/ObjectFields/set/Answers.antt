use Rattle.std.proofs.Common.{◌≡◌, ap, ◌∙◌, position, Some}
use Rattle.std.specs.Map.{keys_of}
use Rattle.std.specs.Str.{bytes_eq}
use Rattle.resin_heap.specs.Objects.{with_field}
use Rattle.resin_heap.proofs.Field_places.{written_at}
use Rattle.resin_heap.proofs.fields.ObjectFields.set.Goals as goal

pub returns-in-Some-clause-ok : goal.returns-in-Some-clause-ok
returns-in-Some-clause-ok c =
    let fields = c.self.inside.map.entries in
    let at : Some c.in-Some.i ≡ position (bytes_eq c.args.name.now) (keys_of fields) =
    c.in-Some.ensures.place in
    c.write_at.ensures ∙ written_at c.args.name.now c.args.v fields c.in-Some.i at ∙ ap (with_field c.args.name.now c.args.v) c.self.view_is

use Rattle.std.proofs.Common.{◌≡◌, sym, ap, ◌∙◌, position, Some, None}
use Rattle.std.specs.Map.{keys_of}
use Rattle.std.specs.Str.{bytes_eq}
use Rattle.resin_heap.specs.Objects.{field, without_field}
use Rattle.resin_heap.proofs.Field_places.{taken_at, nothing_out}
use Rattle.resin_heap.proofs.fields.ObjectFields.unset.Goals as goal

pub returns-in-Some-clause-left : goal.returns-in-Some-clause-left
returns-in-Some-clause-left c =
    let fields = c.self.inside.map.entries in
    let at : Some c.in-Some.i ≡ position (bytes_eq c.args.name.now) (keys_of fields) =
    c.in-Some.ensures.place in
    c.remove_at.ensures ∙ taken_at c.args.name.now fields c.in-Some.i at ∙ ap (without_field c.args.name.now) c.self.view_is

pub returns-in-None-clause-left : goal.returns-in-None-clause-left
returns-in-None-clause-left c =
    let fields = c.self.inside.map.entries in
    let absent : field c.args.name.now c.args.self.now ≡ None =
    ap (field c.args.name.now) (sym c.self.view_is) ∙ c.in-None.ensures.value in
    sym (nothing_out (bytes_eq c.args.name.now) c.args.self.now absent)

use Rattle.resin_heap.proofs.LawLemmas.{finds_what_was_set, sets_one_field, keeps_places, forgets_what_was_unset, unsets_one_field, has_its_fields, changes_one_object, keeps_classes}
use Rattle.resin_heap.proofs.laws.object_laws.Goals as goal

pub returns : goal.returns
returns c = record {
  finds_what_was_set = finds_what_was_set;
  sets_one_field = sets_one_field;
  keeps_places = keeps_places;
  forgets_what_was_unset = forgets_what_was_unset;
  unsets_one_field = unsets_one_field;
  has_its_fields = has_its_fields;
  changes_one_object = changes_one_object;
  keeps_classes = keeps_classes;
}

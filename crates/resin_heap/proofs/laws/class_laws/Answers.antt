use Rattle.resin_heap.proofs.LawLemmas.{parents_are_smaller, is_itself, is_what_its_parent_is, is_nothing_else, own_methods_go_first, methods_are_inherited, no_other_methods, parents_properties_go_first, no_other_properties}
use Rattle.resin_heap.proofs.laws.class_laws.Goals as goal

pub returns : goal.returns
returns c = record {
  parents_are_smaller = parents_are_smaller;
  is_itself = is_itself;
  is_what_its_parent_is = is_what_its_parent_is;
  is_nothing_else = is_nothing_else;
  own_methods_go_first = own_methods_go_first;
  methods_are_inherited = methods_are_inherited;
  no_other_methods = no_other_methods;
  parents_properties_go_first = parents_properties_go_first;
  no_other_properties = no_other_properties;
}

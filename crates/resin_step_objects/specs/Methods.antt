-- What the code's pair of a method's place and its declaration is seen as.
use Rattle.resin_step_functions.specs.Under.meaning_forms.Invoke as evaluation
use Rattle.resin_step_objects.specs.declared.invoke.Method.{Method}

abbrev pub seen_method : Method → evaluation.Method
seen_method m = (m.at, m.function)

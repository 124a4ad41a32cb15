-- The programs of Operands are framed.
use Rattle.std.specs.Prelude.{Option}
use Rattle.std.specs.Prelude.{ℕ, Bool, true, false, List}
use Rattle.resin_meaning_forms.specs.Under.value.declared.key.Key.{Key}
use Rattle.resin_meaning_forms.specs.Under.value.declared.value.Value.{Value}
use Rattle.resin_meaning_forms.specs.Under.value.declared.value.Value.TheVariants.{Null}
use Rattle.resin_meaning_forms.specs.Under.value.Seen.{tree_of}
use Rattle.resin_meaning_forms.specs.Under.ops.Conversions.{key_of}
use Rattle.resin_meaning_forms.specs.Under.meaning.Programs.{Prog}
use Rattle.resin_meaning_forms.specs.Under.target.Reads.{at_index, at_property}
use Rattle.resin_meaning_forms.specs.Parts.{computed, looked}
use Rattle.resin_meaning_forms.specs.Operands.{is_nothing, keyed, index_of, soft_index_of, property_of}
use Rattle.resin_frame.specs.Frames.{IsFramed}
use Rattle.resin_frame.proofs.Frames.{framed_looked, framing}
use Rattle.resin_frame.proofs.Numbers.{at_property_numberless}

pub keyed_framed : {own : Option (List ℕ)} (k : Value) → IsFramed {A = Key} own (keyed k)
keyed_framed k = search framing depth 12

pub index_of_framed : {own : Option (List ℕ)} (v : Value) (k : Value) → IsFramed {A = Value} own (index_of v k)
index_of_framed v k = search framing depth 12

pub soft_index_of_framed : {own : Option (List ℕ)} (v : Value) (k : Value) → IsFramed {A = Value} own (soft_index_of v k)
soft_index_of_framed v k = search framing depth 12

pub property_of_framed : {own : Option (List ℕ)} (v : Value) (p : List ℕ) → IsFramed {A = Value} own (property_of v p)
property_of_framed v p = framed_looked (at_property p v) (at_property_numberless p v)

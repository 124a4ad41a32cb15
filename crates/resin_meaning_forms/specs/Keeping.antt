-- Policies beside stored data: what is kept of the policies of a text, and what a read makes of an entry (RESIN's persistent policies in
-- outline; the texts, the charges and lost policies are this project's own).
use Rattle.std.specs.Prelude.{ℕ, Bool, ◌==◌, ◌&&◌, nat_lt, not, slice_index_or}
use Rattle.std.specs.Prelude.{List, [], ◌∷◌, ◌++◌, length, map, zip, codes, Option, None, Some, if◌then◌else◌}
use Rattle.std.specs.Option.{option_map, option_and_then}
use Rattle.resin_builtin.specs.Under.label.Sets.{NumberSet, numbers, same, empty as no_labels, set_of as labels_of}
use Rattle.resin_builtin.specs.Under.lstr.declared.limits.TheConstants.{LONGEST}
use Rattle.resin_builtin.specs.Under.lstr.Texts.{Text as LabelledText, carrying, distinct}
use Rattle.resin_builtin.specs.Under.scalar.declared.faults.ScriptFault.TheVariants.{NotStorable, TextTooLong, BadShadow}
use Rattle.resin_builtin.specs.Under.value.declared.key.Key.{Key}
use Rattle.resin_builtin.specs.Under.value.declared.key.Key.TheVariants.{Int as IntKey, Text as TextKey}
use Rattle.resin_builtin.specs.Under.value.declared.value.Value.TheVariants.{Text, Arr}
use Rattle.resin_builtin.specs.Under.value.Arrays.{EntryList, Array}
use Rattle.resin_builtin.specs.Under.value.Values.{value_of}
use Rattle.resin_target.specs.Under.heap.Classes.{find_class, is_a}
use Rattle.resin_target.specs.Under.heap.Objects.{fields_at}
use Rattle.resin_target.specs.Under.heap.Prelude.{number_of}
use Rattle.resin_target.specs.Under.heap.declared.prelude.PreludeClass.TheVariants.{Policy, LostPolicy}
use Rattle.resin_target.specs.Under.machine.State.{State}
use Rattle.resin_target.specs.Under.machine.Steps.{charge}
use Rattle.resin_target.specs.Under.machine.Objects.{is_object, make_object, set_field}
use Rattle.resin_target.specs.Under.machine.Leaving.{class_name_of}
use Rattle.resin_meaning_tables.specs.Under.meaning.Programs.{Prog, give, act, ◌>>=◌}
use Rattle.resin_frozen.specs.Policies.{frozen}
use Rattle.resin_frozen.specs.Reading.{Said, said}
use Rattle.resin_shadow.specs.Marks.{TextSet, Marks, policies}
use Rattle.resin_shadow.specs.Shadows.{places}
use Rattle.resin_shadow.specs.Runs.{set_of}
use Rattle.resin_meaning_tables.specs.Under.store.Entries.{Marked, LabelledEntry, Good, Bad, marks}
use Rattle.resin_meaning_forms.specs.Parts.{faulted, looked, ◌>>◌}

-- ---- freezing: what is kept of the policies of a text

-- the policy text of an object: that of its class and fields, without the labels inside them; of a lost policy that of what it was. None
-- where it has none
abbrev pub frozen_policy : State → ℕ → Option (List ℕ)
frozen_policy m o = if is_object m.heap o then frozen (class_name_of o m) (fields_at m.heap o) else None

-- each of some answers, or none where one is missing
abbrev pub each_of : {A : Type 0} → List (Option A) → Option (List A)
each_of [] = Some []
each_of (o ∷ os) = option_and_then (λ x. option_map (λ xs. x ∷ xs) (each_of os)) o

-- the policy texts of a set of policies, where each has one; policies with one text are kept as one
abbrev pub frozen_set : State → NumberSet → Option TextSet
frozen_set m s = option_map set_of (each_of (map (frozen_policy m) (numbers s)))

-- the policy texts of each byte
abbrev pub frozen_marks : State → LabelledText → Option Marks
frozen_marks m t = each_of (map (λ b. frozen_set m b.1) t)

abbrev pub or_not_storable : Option Marks → Prog Marks
or_not_storable (Some v) = give v
or_not_storable None = faulted NotStorable

-- what is kept of the policies of a text; NotStorable comes exactly where a policy has no text
abbrev pub freeze_text : LabelledText → Prog Marks
freeze_text t = looked (λ m. frozen_marks m t) >>= or_not_storable

-- ---- thawing: what a read makes of an entry

-- stored policies of a class can be objects of it: it is under Policy, and isn't that of lost policies
abbrev pub is_able : State → ℕ → Bool
is_able m c = is_a m.classes c (number_of Policy) && not (c == number_of LostPolicy)

-- the class of a name, where it is declared and stored policies of it can be its objects
abbrev pub policy_class : List ℕ → State → Option ℕ
policy_class name m = option_and_then (λ c. if is_able m c then Some c else None) (find_class m.classes name)

-- the name of a field by its key
abbrev pub name_in : Key → List ℕ
name_in (TextKey name) = name
name_in (IntKey n) = []

-- an object is given fields, in order
abbrev pub set_fields : ℕ → EntryList → Prog (Unit {0})
set_fields o [] = give tt
set_fields o (e ∷ es) = act (set_field o (name_in e.0) (value_of e.1)) >> set_fields o es

-- an object of a class with fields, without a constructor
abbrev pub make_policy : ℕ → EntryList → Prog ℕ
make_policy class fields = do
  o ← act (make_object class)
  _ ← set_fields o fields
  give o

-- a lost policy, which keeps the name of a class, and fields
abbrev pub make_lost : List ℕ → Array → Prog ℕ
make_lost name fields = do
  o ← act (make_object (number_of LostPolicy))
  _ ← act (set_field o (codes "of") (Text (carrying no_labels name)))
  _ ← act (set_field o (codes "fields") (Arr fields))
  give o

-- an object for a class and fields that were kept
abbrev pub remade : Said → Option ℕ → Prog ℕ
remade p (Some class) = make_policy class p.1.entries
remade p None = make_lost p.0 p.1

-- what a policy text says is one object; each text of a good entry says something
abbrev pub thaw_said : Option Said → Prog ℕ
thaw_said (Some p) = looked (policy_class p.0) >>= remade p
thaw_said None = faulted BadShadow

abbrev pub thaw_policy : List ℕ → Prog ℕ
thaw_policy text = thaw_said (said text)

-- an object for each of some policy texts, in order, behind those that are there
abbrev pub thaw_policies : List ℕ → List (List ℕ) → Prog (List ℕ)
thaw_policies so_far [] = give so_far
thaw_policies so_far (t ∷ ts) = thaw_policy t >>= λ o. thaw_policies (so_far ++ o ∷ []) ts

-- the objects of the policy texts of a set; the texts of a table have the objects at their places
abbrev pub labels_for : List (List ℕ) → List ℕ → TextSet → NumberSet
labels_for table objects s = labels_of (map (λ place. slice_index_or objects place 0) (places table s))

-- each byte with the objects of its policies
abbrev pub labelled : List (List ℕ) → List ℕ → Marked → LabelledText
labelled table objects d = map (λ b. (b.0, labels_for table objects b.1)) d

-- the bytes with their policies: each policy text takes a tick, all before the first object is made, and is one object, in the order of the
-- shadow's table
abbrev pub thaw_marked : Marked → Prog LabelledText
thaw_marked d =
    act (charge (length (policies (marks d)))) >>= λ _. thaw_policies [] (policies (marks d)) >>= λ objects.
    give (labelled (policies (marks d)) objects d)

-- The sets of objects that some bytes carry, each once, in the order in which they first occur. The objects are charged and made in the same way.
abbrev pub thaw_sets : Marks → Prog (List NumberSet)
thaw_sets w =
    act (charge (length (policies w))) >>= λ _. thaw_policies [] (policies w) >>= λ objects.
    give (distinct same (map (labels_for (policies w) objects) w))

-- a read of an entry that holds so many bytes
abbrev pub thaw_short : LabelledEntry → Prog LabelledText
thaw_short (Good d version) = thaw_marked d
thaw_short (Bad bytes shadow) = faulted BadShadow

abbrev pub size : LabelledEntry → ℕ
size (Good d version) = length d
size (Bad bytes shadow) = length bytes

-- what a read makes of an entry: TextTooLong comes before its shadow is looked at, then BadShadow where it is damaged
abbrev pub thaw_entry : LabelledEntry → Prog LabelledText
thaw_entry e = if nat_lt LONGEST (size e) then faulted TextTooLong else thaw_short e

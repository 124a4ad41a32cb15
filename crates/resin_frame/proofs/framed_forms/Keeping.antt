-- The programs of Keeping are framed.
use Rattle.std.specs.Prelude.{ℕ, Bool, ◌==◌, ◌&&◌, nat_lt, not, slice_index_or, List, [], ◌∷◌, ◌++◌, length, map, zip, codes, Option, None, Some, if◌then◌else◌}
use Rattle.std.specs.Option.{option_map, option_and_then}
use Rattle.resin_meaning_forms.specs.Under.label.Sets.{NumberSet, numbers, same, empty as no_labels, set_of as labels_of}
use Rattle.resin_meaning_forms.specs.Under.lstr.declared.limits.TheConstants.{LONGEST}
use Rattle.resin_meaning_forms.specs.Under.lstr.Texts.{Text as LabelledText, carrying, distinct}
use Rattle.resin_meaning_forms.specs.Under.scalar.declared.faults.ScriptFault.TheVariants.{NotStorable, TextTooLong, BadShadow}
use Rattle.resin_meaning_forms.specs.Under.value.declared.key.Key.{Key}
use Rattle.resin_meaning_forms.specs.Under.value.declared.key.Key.TheVariants.{Int as IntKey, Text as TextKey}
use Rattle.resin_meaning_forms.specs.Under.value.declared.value.Value.TheVariants.{Text, Arr}
use Rattle.resin_meaning_forms.specs.Under.value.Arrays.{EntryList, Array}
use Rattle.resin_meaning_forms.specs.Under.value.Values.{value_of}
use Rattle.resin_meaning_forms.specs.Under.heap.Classes.{find_class, is_a}
use Rattle.resin_meaning_forms.specs.Under.heap.Objects.{fields_at}
use Rattle.resin_meaning_forms.specs.Under.heap.Prelude.{number_of}
use Rattle.resin_meaning_forms.specs.Under.heap.declared.prelude.PreludeClass.TheVariants.{Policy, LostPolicy}
use Rattle.resin_meaning_forms.specs.Under.machine.State.{State}
use Rattle.resin_meaning_forms.specs.Under.machine.Steps.{charge}
use Rattle.resin_meaning_forms.specs.Under.machine.Objects.{is_object, make_object, set_field}
use Rattle.resin_meaning_forms.specs.Under.machine.Leaving.{class_name_of}
use Rattle.resin_meaning_forms.specs.Under.meaning.Programs.{Prog, give, act, ◌>>=◌}
use Rattle.resin_frozen.specs.Policies.{frozen}
use Rattle.resin_frozen.specs.Reading.{Said, said}
use Rattle.resin_shadow.specs.Marks.{TextSet, Marks, policies}
use Rattle.resin_shadow.specs.Shadows.{places}
use Rattle.resin_shadow.specs.Runs.{set_of}
use Rattle.resin_meaning_forms.specs.Under.store.Entries.{Marked, LabelledEntry, Good, Bad, marks}
use Rattle.resin_meaning_forms.specs.Parts.{faulted, looked, ◌>>◌}
use Rattle.resin_meaning_forms.specs.Keeping.{frozen_policy, each_of, frozen_set, frozen_marks, or_not_storable, freeze_text, is_able, policy_class, name_in, set_fields, make_policy, make_lost, remade, thaw_said, thaw_policy, thaw_policies, labels_for, labelled, thaw_marked, thaw_sets, thaw_short, size, thaw_entry}
use Rattle.resin_frame.specs.Frames.{IsFramed}
use Rattle.resin_frame.proofs.Frames.{framing}

pub or_not_storable_framed : {own : Option (List ℕ)} (a0 : Option Marks) → IsFramed {A = Marks} own (or_not_storable a0)
or_not_storable_framed (Some v) = search framing depth 12
or_not_storable_framed None = search framing depth 12

pub freeze_text_framed : {own : Option (List ℕ)} (t : LabelledText) → IsFramed {A = Marks} own (freeze_text t)
freeze_text_framed t = search (framing, or_not_storable_framed) depth 12

pub set_fields_framed : {own : Option (List ℕ)} (o : ℕ) (a1 : EntryList) → IsFramed {A = (Unit {0})} own (set_fields o a1)
set_fields_framed o [] = search framing depth 12
set_fields_framed {own = own} o (e ∷ es) = let ih = set_fields_framed {own = own} o es in search framing depth 12

pub make_policy_framed : {own : Option (List ℕ)} (class : ℕ) (fields : EntryList) → IsFramed {A = ℕ} own (make_policy class fields)
make_policy_framed class fields = search (framing, set_fields_framed) depth 12

pub make_lost_framed : {own : Option (List ℕ)} (name : List ℕ) (fields : Array) → IsFramed {A = ℕ} own (make_lost name fields)
make_lost_framed name fields = search framing depth 12

pub remade_framed : {own : Option (List ℕ)} (p : Said) (a1 : Option ℕ) → IsFramed {A = ℕ} own (remade p a1)
remade_framed p (Some class) = search (framing, make_policy_framed) depth 12
remade_framed p None = search (framing, make_lost_framed) depth 12

pub thaw_said_framed : {own : Option (List ℕ)} (a0 : Option Said) → IsFramed {A = ℕ} own (thaw_said a0)
thaw_said_framed (Some p) = search (framing, remade_framed) depth 12
thaw_said_framed None = search framing depth 12

pub thaw_policy_framed : {own : Option (List ℕ)} (a0 : List ℕ) → IsFramed {A = ℕ} own (thaw_policy a0)
thaw_policy_framed text = search (framing, thaw_said_framed) depth 12

pub thaw_policies_framed : {own : Option (List ℕ)} (so_far : List ℕ) (a1 : List (List ℕ)) → IsFramed {A = (List ℕ)} own (thaw_policies so_far a1)
thaw_policies_framed so_far [] = search framing depth 12
thaw_policies_framed {own = own} so_far (t ∷ ts) = let ih = λ (y0 : List ℕ). thaw_policies_framed {own = own} y0 ts in search (framing, thaw_policy_framed, ih) depth 12

pub thaw_marked_framed : {own : Option (List ℕ)} (d : Marked) → IsFramed {A = LabelledText} own (thaw_marked d)
thaw_marked_framed d = search (framing, thaw_policies_framed) depth 12

pub thaw_sets_framed : {own : Option (List ℕ)} (w : Marks) → IsFramed {A = (List NumberSet)} own (thaw_sets w)
thaw_sets_framed w = search (framing, thaw_policies_framed) depth 12

pub thaw_short_framed : {own : Option (List ℕ)} (a0 : LabelledEntry) → IsFramed {A = LabelledText} own (thaw_short a0)
thaw_short_framed (Good d version) = search (framing, thaw_marked_framed) depth 12
thaw_short_framed (Bad bytes shadow) = search framing depth 12

pub thaw_entry_framed : {own : Option (List ℕ)} (e : LabelledEntry) → IsFramed {A = LabelledText} own (thaw_entry e)
thaw_entry_framed e = search (framing, thaw_short_framed) depth 12

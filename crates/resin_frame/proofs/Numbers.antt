-- Steps on the state that are blind to the number of the request: had it another, they would do the same, and leave the same state but for the number.
use Rattle.std.proofs.Common.{◌≡◌, ℕ, suc, ◌+◌, ◌/◌, Bool, true, false, nat_lt, nat_le, List, [], ◌∷◌, ◌++◌, length, Option, Some, None, is_some, Result, Ok, Err, refl, sym, ap, ◌∙◌}
use Rattle.std.specs.Prelude.{◌-◌, ◌^◌, if◌then◌else◌}
use Rattle.std.specs.Option.{option_map, option_and_then}
use Rattle.std.specs.List.{list_any, list_all}
use Rattle.std.proofs.lemmas.List.{append-nil}
use Rattle.std.proofs.lemmas.Grind.{flat_map-append}
use Rattle.resin_meaning_forms.specs.Under.label.Sets.{NumberSet}
use Rattle.resin_meaning_forms.specs.Under.lstr.declared.limits.TheConstants.{LONGEST}
use Rattle.resin_meaning_forms.specs.Under.lstr.Texts.{Text as LabelledText}
use Rattle.resin_meaning_forms.specs.Under.scalar.declared.faults.CallStop.{CallStop}
use Rattle.resin_meaning_forms.specs.Under.scalar.declared.faults.CallStop.TheVariants.{Throw, Fault as CallFault, Memory as CallMemory}
use Rattle.resin_meaning_forms.specs.Under.scalar.declared.faults.ScriptFault.{ScriptFault}
use Rattle.resin_meaning_forms.specs.Under.scalar.declared.faults.ScriptFault.TheVariants.{FuelSpent, ChannelInCheck, TextTooLong, UndefinedClass, Redeclared, BadOperand}
use Rattle.resin_meaning_forms.specs.Under.value.declared.value.Value.{Value}
use Rattle.resin_meaning_forms.specs.Under.value.declared.value.Value.TheVariants.{Null, Bool as Truth, Int, Text, Arr, Obj}
use Rattle.resin_meaning_forms.specs.Under.value.Trees.{Tree, object}
use Rattle.resin_meaning_forms.specs.Under.value.Arrays.{Array}
use Rattle.resin_meaning_forms.specs.Under.value.Values.{value_of as tree_value}
use Rattle.resin_meaning_forms.specs.Under.tree.declared.declaration.Function.{Function}
use Rattle.resin_meaning_forms.specs.Under.tree.declared.declaration.ClassDecl.{ClassDecl}
use Rattle.resin_meaning_forms.specs.Under.tree.declared.statement.Catch.{Catch, out-Catch}
use Rattle.resin_meaning_forms.specs.Under.heap.Classes.{find_class, parent_of, properties_of}
use Rattle.resin_meaning_forms.specs.Under.heap.declared.prelude.PreludeClass.{PreludeClass}
use Rattle.resin_meaning_forms.specs.Under.journal.declared.channel.Channel.{Channel}
use Rattle.resin_meaning_forms.specs.Under.journal.declared.channel.Channel.TheVariants.{Http, Header, Email}
use Rattle.resin_meaning_forms.specs.Under.journal.declared.event.Event.{Event}
use Rattle.resin_meaning_forms.specs.Under.journal.declared.event.Event.TheVariants.{Passed, Sent, Denied, FilterDenied}
use Rattle.resin_meaning_forms.specs.Under.journal.Events.{EventList}
use Rattle.resin_meaning_forms.specs.Under.scope.Chained.{chain_of, function_chain}
use Rattle.resin_meaning_forms.specs.Under.scope.Pages.{innermost}
use Rattle.resin_meaning_forms.specs.Under.stage.Stages.{Stage, sent_page, sent_header, sent_status}
use Rattle.resin_meaning_forms.specs.Under.stage.Ties.{sending_of, letter_bytes, sent_mails}
use Rattle.resin_meaning_forms.specs.Under.machine.declared.stop.Stop.{Stop}
use Rattle.resin_meaning_forms.specs.Under.machine.State.{State}
use Rattle.resin_meaning_forms.specs.Under.machine.Steps.{Act, faults, charge, charge_bytes, awake, at_line, back_at_line, hushed, unhushed}
use Rattle.resin_meaning_forms.specs.Under.machine.Variables.{is_input, is_session, with_variable, read, assign, without_variable, bind_global, set_session, in_call, after_call}
use Rattle.resin_meaning_forms.specs.Under.machine.Objects.{last_number, is_object, function_named, declare_function, lacks_parent, declare_class, found_class, find_class_of, make_object, with_object, class_of, read_field, set_field, unset_field, throw_new, class_of_error, settled}
use Rattle.resin_meaning_forms.specs.Under.machine.Filters.{add_filter, add_function_filter, is_imported, import_path}
use Rattle.resin_meaning_forms.specs.Under.machine.Leaving.{draw, class_name_of, note, pass, deny, deny_filter, send_page, send_header, send_status, send_mail, open_buffer, close_buffer, buffer}
use Rattle.resin_meaning_forms.specs.Under.target.declared.path.Index.{Index}
use Rattle.resin_meaning_forms.specs.Under.target.declared.path.Hop.{Hop}
use Rattle.resin_meaning_forms.specs.Under.target.declared.path.Path.{Path}
use Rattle.resin_meaning_forms.specs.Under.target.declared.place.Place.{Place}
use Rattle.resin_meaning_forms.specs.Under.target.declared.place.Place.TheVariants.{Variable, Property}
use Rattle.resin_meaning_forms.specs.Under.target.Reads.{on, at_property}
use Rattle.resin_meaning_forms.specs.Under.target.Stores.{found, stored, erased}
use Rattle.resin_meaning_forms.specs.Under.target.Targets.{standing, read_indices, read_hop, read_hops, value_of, fetch, object_in, on_place, hopped, reached, put_at_place, put_result, store_at, store, remove_place, is_null, erase_there, erase_at, erase}
use Rattle.resin_meaning_forms.specs.Under.builtin.declared.builtin.Builtin.{Builtin}
use Rattle.resin_meaning_forms.specs.Under.builtin.Rows.{mapped}
use Rattle.resin_meaning_forms.specs.Under.builtin.Calls.{called}
use Rattle.resin_meaning_forms.specs.Under.meaning.Programs.{Prog}
use Rattle.resin_meaning_forms.specs.Under.meaning_tables.Plans.{ticks_left}
use Rattle.resin_meaning_forms.specs.declared.outgoing.Outgoing.{Outgoing}
use Rattle.resin_meaning_forms.specs.declared.outgoing.Outgoing.TheVariants.{Page, Header as HeaderLine, Status, Mail}
use Rattle.resin_meaning_forms.specs.Functions.{work, remove_filter, marks_under}
use Rattle.resin_meaning_forms.specs.Invoke.{method_named}
use Rattle.resin_meaning_forms.specs.Keeping.{frozen_marks, policy_class}
use Rattle.resin_meaning_forms.specs.Merges.{is_under}
use Rattle.resin_meaning_forms.specs.Names.{callee_named}
use Rattle.resin_meaning_forms.specs.Operators.{with_ticks, fits}
use Rattle.resin_meaning_forms.specs.Statements.{catch_for}
use Rattle.resin_meaning_forms.specs.Writes.{chain_for}
use Rattle.resin_frame.specs.Frames.{renumbered}

pub record IsNumberBlind {A : Type 0} (a : Act A) : Type 0 where
  pub blind : (number : ℕ) (m : State) → a (renumbered number m) ≡ ((a m).0, renumbered number (a m).1)

-- what is read off the state, whatever the number
pub record ReadsBlind {A : Type 0} (read : State → A) : Type 0 where
  pub reads : (number : ℕ) (m : State) → read (renumbered number m) ≡ read m

-- a change of the state before a program, and what is put back after it
pub record AreNumberBlind (enter : State → State) (leave : State → State → State) : Type 0 where
  pub enters : (number : ℕ) (m : State) → enter (renumbered number m) ≡ renumbered number (enter m)
  pub leaves : (number : ℕ) (was m : State) → leave (renumbered number was) (renumbered number m) ≡ renumbered number (leave was m)

-- a change of the state
pub record ChangesBlind (change : State → State) : Type 0 where
  pub changes : (number : ℕ) (m : State) → change (renumbered number m) ≡ renumbered number (change m)

-- ---- how steps are made of others

-- what is read is given
pub looked_numberless : {A : Type 0} (read : State → A) → ReadsBlind read → IsNumberBlind (λ m. (Ok (read m), m))
looked_numberless read h = record { blind = λ n m. λ i. (Ok (h.reads n m i), renumbered n m) }

-- the state changes
pub changed_numberless : (change : State → State) → ChangesBlind change → IsNumberBlind {A = Unit {0}} (λ m. (Ok tt, change m))
changed_numberless change h = record { blind = λ n m. λ i. (Ok tt, h.changes n m i) }

-- what is read chooses the step
pub chosen_numberless : {A B : Type 0} (read : State → B) (next : B → Act A) → ReadsBlind read → ((v : B) → IsNumberBlind (next v)) → IsNumberBlind (λ m. next (read m) m)
chosen_numberless read next h hn = record { blind = λ n m. ap (λ v. next v (renumbered n m)) (h.reads n m) ∙ (hn (read m)).blind n m }

-- a test chooses it
pub if_numberless : {A : Type 0} (test : State → Bool) (a b : Act A) → ReadsBlind test → IsNumberBlind a → IsNumberBlind b → IsNumberBlind (λ m. if test m then a m else b m)
if_numberless test a b ht ha hb = chosen_numberless test (λ t m. if t then a m else b m) ht by
  where
    by : (t : Bool) → IsNumberBlind (λ m. if t then a m else b m)
    by true = ha
    by false = hb

-- a test chooses the change
if_changes : (test : State → Bool) (f g : State → State) → ReadsBlind test → ChangesBlind f → ChangesBlind g → ChangesBlind (λ m. if test m then f m else g m)
if_changes test f g ht hf hg = record { changes = λ n m. ap (λ t. if t then f (renumbered n m) else g (renumbered n m)) (ht.reads n m) ∙ by n m (test m) }
  where
    by : (n : ℕ) (m : State) (t : Bool) → (if t then f (renumbered n m) else g (renumbered n m)) ≡ renumbered n (if t then f m else g m)
    by n m true = hf.changes n m
    by n m false = hg.changes n m

-- ---- ticks and faults

pub faults_numberless : {A : Type 0} (f : ScriptFault) → IsNumberBlind (faults {A = A} f)
faults_numberless f = record { blind = λ n m. refl }

pub charge_numberless : (ticks : ℕ) → IsNumberBlind (charge ticks)
charge_numberless ticks = if_numberless (λ m. nat_le ticks m.ticks) _ _ (record { reads = λ n m. refl }) (record { blind = λ n m. refl }) (faults_numberless FuelSpent)

pub charge_bytes_numberless : (bytes : ℕ) → IsNumberBlind (charge_bytes bytes)
charge_bytes_numberless bytes = charge_numberless (bytes / 256)

pub awake_numberless : IsNumberBlind awake
awake_numberless = if_numberless (λ m. m.checking) _ _ (record { reads = λ n m. refl }) (faults_numberless ChannelInCheck) (record { blind = λ n m. refl })

pub ticks_left_numberless : IsNumberBlind ticks_left
ticks_left_numberless = record { blind = λ n m. refl }

pub throw_new_numberless : {A : Type 0} (class : PreludeClass) (message : List ℕ) → IsNumberBlind (throw_new {A = A} class message)
throw_new_numberless class message = if_numberless (λ m. nat_lt (length m.heap) last_number) _ _ (record { reads = λ n m. refl }) (record { blind = λ n m. refl }) (faults_numberless FuelSpent)

pub settled_numberless : {A : Type 0} (r : Result A CallStop) → IsNumberBlind (settled r)
settled_numberless (Ok v) = record { blind = λ n m. refl }
settled_numberless (Err (Throw kind)) = throw_new_numberless (class_of_error kind) []
settled_numberless (Err (CallFault f)) = faults_numberless f
settled_numberless (Err CallMemory) = record { blind = λ n m. refl }

-- a comparison, and a builtin function, which spend ticks
pub with_ticks_numberless : (compare : ℕ → Result Bool CallStop × ℕ) → IsNumberBlind (with_ticks compare)
with_ticks_numberless compare = record { blind = λ n m. (settled_numberless (compare m.ticks).0).blind n (record m { ticks = (compare m.ticks).1 }) }

pub work_numberless : (b : Builtin) (ts : List Tree) (set : NumberSet) → IsNumberBlind (work b ts set)
work_numberless b ts set = record { blind = λ n m. (settled_numberless (mapped tree_value (called b ts set m.ticks).0)).blind n (record m { ticks = (called b ts set m.ticks).1 }) }

-- ---- variables

with_variable_changes : (name : List ℕ) (v : Value) → ChangesBlind (with_variable name v)
with_variable_changes name v =
    if_changes (λ m. is_input name) _ _ (record { reads = λ n m. refl }) (record { changes = λ n m. refl })
    (if_changes (λ m. is_session name) _ _ (record { reads = λ n m. refl }) (record { changes = λ n m. refl }) (record { changes = λ n m. refl }))

without_variable_changes : (name : List ℕ) → ChangesBlind (without_variable name)
without_variable_changes name =
    if_changes (λ m. is_input name) _ _ (record { reads = λ n m. refl }) (record { changes = λ n m. refl })
    (if_changes (λ m. is_session name) _ _ (record { reads = λ n m. refl }) (record { changes = λ n m. refl }) (record { changes = λ n m. refl }))

pub read_numberless : (name : List ℕ) → IsNumberBlind (read name)
read_numberless name = record { blind = λ n m. refl }

pub assign_numberless : (name : List ℕ) (v : Value) → IsNumberBlind (assign name v)
assign_numberless name v = changed_numberless _ (with_variable_changes name v)

bound_changes : (name : List ℕ) → ChangesBlind (λ m. (bind_global name m).1)
bound_changes name =
    if_changes (λ m. is_input name) _ _ (record { reads = λ n m. refl }) (record { changes = λ n m. refl })
    (if_changes (λ m. is_session name) _ _ (record { reads = λ n m. refl }) (record { changes = λ n m. refl }) (record { changes = λ n m. refl }))

pub bind_global_numberless : (name : List ℕ) → IsNumberBlind (bind_global name)
bind_global_numberless name = changed_numberless _ (bound_changes name)

pub set_session_numberless : (a : Array) → IsNumberBlind (set_session a)
set_session_numberless a = record { blind = λ n m. refl }

-- ---- functions, classes and objects

pub declare_function_numberless : (f : Function) → IsNumberBlind (declare_function f)
declare_function_numberless f = if_numberless (λ m. is_some (function_named f.name m)) _ _ (record { reads = λ n m. refl }) (faults_numberless Redeclared) (record { blind = λ n m. refl })

pub declare_class_numberless : (d : ClassDecl) → IsNumberBlind (declare_class d)
declare_class_numberless d =
    if_numberless (λ m. nat_lt (length m.classes) last_number) _ _ (record { reads = λ n m. refl })
    (if_numberless (λ m. is_some (find_class m.classes d.name)) _ _ (record { reads = λ n m. refl }) (faults_numberless Redeclared)
    (if_numberless (λ m. lacks_parent m.classes d) _ _ (record { reads = λ n m. refl }) (faults_numberless UndefinedClass) (record { blind = λ n m. refl })))
    (faults_numberless FuelSpent)

pub find_class_of_numberless : (name : List ℕ) → IsNumberBlind (find_class_of name)
find_class_of_numberless name = chosen_numberless (λ m. find_class m.classes name) found_class (record { reads = λ n m. refl }) by
  where
    by : (class : Option ℕ) → IsNumberBlind (found_class class)
    by None = faults_numberless UndefinedClass
    by (Some class) = record { blind = λ n m. refl }

pub make_object_numberless : (class : ℕ) → IsNumberBlind (make_object class)
make_object_numberless class = if_numberless (λ m. nat_lt (length m.heap) last_number) _ _ (record { reads = λ n m. refl }) (record { blind = λ n m. refl }) (faults_numberless FuelSpent)

with_object_numberless : {A : Type 0} (o : ℕ) (a : Act A) → IsNumberBlind a → IsNumberBlind (with_object o a)
with_object_numberless o a h = if_numberless (λ m. is_object m.heap o) a _ (record { reads = λ n m. refl }) h (faults_numberless BadOperand)

pub class_of_numberless : (o : ℕ) → IsNumberBlind (class_of o)
class_of_numberless o = with_object_numberless o _ (record { blind = λ n m. refl })

pub read_field_numberless : (o : ℕ) (name : List ℕ) → IsNumberBlind (read_field o name)
read_field_numberless o name = with_object_numberless o _ (record { blind = λ n m. refl })

pub set_field_numberless : (o : ℕ) (name : List ℕ) (v : Value) → IsNumberBlind (set_field o name v)
set_field_numberless o name v = with_object_numberless o _ (record { blind = λ n m. refl })

unset_field_numberless : (o : ℕ) (name : List ℕ) → IsNumberBlind (unset_field o name)
unset_field_numberless o name = with_object_numberless o _ (record { blind = λ n m. refl })

-- ---- filters and imports

pub add_filter_numberless : (c : Channel) (f : ℕ) → IsNumberBlind (add_filter c f)
add_filter_numberless c f = record { blind = λ n m. refl }

pub remove_filter_numberless : (c : Channel) (f : ℕ) → IsNumberBlind (remove_filter c f)
remove_filter_numberless c f = record { blind = λ n m. refl }

pub add_function_filter_numberless : (name : List ℕ) (f : ℕ) → IsNumberBlind (add_function_filter name f)
add_function_filter_numberless name f = record { blind = λ n m. refl }

pub import_path_numberless : (path : List ℕ) → IsNumberBlind (import_path path)
import_path_numberless path = record { blind = λ n m. refl }

-- ---- targets: what their paths lead to, and what is stored and unset there

pub at_property_numberless : (name : List ℕ) (v : Value) → ReadsBlind (at_property name v)
at_property_numberless name Null = record { reads = λ n m. refl }
at_property_numberless name (Truth b) = record { reads = λ n m. refl }
at_property_numberless name (Int k s) = record { reads = λ n m. refl }
at_property_numberless name (Text t) = record { reads = λ n m. refl }
at_property_numberless name (Arr a) = record { reads = λ n m. refl }
at_property_numberless name (Obj o) = record { reads = λ n m. refl }

standing_numberless : (at : Place) → ReadsBlind (standing at)
standing_numberless (Variable name) = record { reads = λ n m. refl }
standing_numberless (Property o name) = record { reads = λ n m. refl }

read_hop_numberless : (h : Hop) (here : Value) → ReadsBlind (read_hop h here)
read_hop_numberless h here = record { reads = λ n m. λ i. on (read_indices h.indices here) (λ v. Ok ((at_property_numberless h.property v).reads n m i)) }

read_hops_numberless : (hs : List Hop) (here : Value) → ReadsBlind (read_hops hs here)
read_hops_numberless [] here = record { reads = λ n m. refl }
read_hops_numberless (h ∷ hs) here = record { reads = λ n m. λ i. on ((read_hop_numberless h here).reads n m i) (λ v. (read_hops_numberless hs v).reads n m i) }

value_of_numberless : (name : List ℕ) (path : Path) → ReadsBlind (value_of name path)
value_of_numberless name path = record { reads = λ n m. ap (λ r. on r (read_indices path.indices)) ((read_hops_numberless path.hops (standing (Variable name) m)).reads n m) }

hopped_numberless : (h : Hop) (at : Place) → ReadsBlind (hopped h at)
hopped_numberless h at = record {
  reads = λ n m. ap (λ here. on (found h.indices here) (λ v. on (object_in v) (λ o. Ok (option_map (λ k. Property k h.property) o)))) ((standing_numberless at).reads n m);
}

reached_numberless : (hs : List Hop) (at : Place) → ReadsBlind (reached hs at)
reached_numberless [] at = record { reads = λ n m. refl }
reached_numberless (h ∷ hs) at =
    record { reads = λ n m. λ i. on ((hopped_numberless h at).reads n m i) (λ further. on_place further (λ p. (reached_numberless hs p).reads n m i)) }

pub fetch_numberless : (name : List ℕ) (path : Path) → IsNumberBlind (fetch name path)
fetch_numberless name path = chosen_numberless (value_of name path) settled (value_of_numberless name path) settled_numberless

put_at_place_numberless : (at : Place) (v : Value) → IsNumberBlind (put_at_place at v)
put_at_place_numberless (Variable name) v = assign_numberless name v
put_at_place_numberless (Property o name) v = set_field_numberless o name v

put_result_numberless : (at : Place) (r : Result Value CallStop) → IsNumberBlind (put_result at r)
put_result_numberless at (Ok v) = put_at_place_numberless at v
put_result_numberless at (Err stop) = settled_numberless (Err stop)

-- what is made of what stands at a place is put there
put_made_numberless : (at : Place) (made : Value → Result Value CallStop) → IsNumberBlind (λ m. put_result at (made (standing at m)) m)
put_made_numberless at made = chosen_numberless (standing at) (λ here. put_result at (made here)) (standing_numberless at) (λ here. put_result_numberless at (made here))

store_at_numberless : (is : List Index) (v : Value) (r : Result (Option Place) CallStop) → IsNumberBlind (store_at is v r)
store_at_numberless is v (Ok (Some at)) = put_made_numberless at (stored is v)
store_at_numberless is v (Ok None) = faults_numberless BadOperand
store_at_numberless is v (Err stop) = settled_numberless (Err stop)

pub store_numberless : (name : List ℕ) (path : Path) (v : Value) → IsNumberBlind (store name path v)
store_numberless name path v = chosen_numberless (reached path.hops (Variable name)) (store_at path.indices v) (reached_numberless path.hops (Variable name)) (store_at_numberless path.indices v)

remove_place_numberless : (at : Place) → IsNumberBlind (remove_place at)
remove_place_numberless (Variable name) = changed_numberless _ (without_variable_changes name)
remove_place_numberless (Property o name) = unset_field_numberless o name

erase_there_numberless : (at : Place) (is : List Index) → IsNumberBlind (erase_there at is)
erase_there_numberless at [] = remove_place_numberless at
erase_there_numberless at (i ∷ is) =
    if_numberless (λ m. is_null (standing at m)) _ _ (record { reads = λ n m. ap is_null ((standing_numberless at).reads n m) }) (record { blind = λ n m. refl }) (put_made_numberless at (erased (i ∷ is)))

erase_at_numberless : (is : List Index) (r : Result (Option Place) CallStop) → IsNumberBlind (erase_at is r)
erase_at_numberless is (Ok (Some at)) = erase_there_numberless at is
erase_at_numberless is (Ok None) = record { blind = λ n m. refl }
erase_at_numberless is (Err stop) = settled_numberless (Err stop)

pub erase_numberless : (name : List ℕ) (path : Path) → IsNumberBlind (erase name path)
erase_numberless name path = chosen_numberless (reached path.hops (Variable name)) (erase_at path.indices) (reached_numberless path.hops (Variable name)) (erase_at_numberless path.indices)

-- ---- writes: an event comes to the journal, and the mail that the journal tells stays, or is one letter longer

pub draw_numberless : IsNumberBlind draw
draw_numberless =
    if_numberless (λ m. m.checking) _ _ (record { reads = λ n m. refl }) (faults_numberless ChannelInCheck)
    (if_numberless (λ m. nat_lt m.stage.writes (2 ^ 64 - 1)) _ _ (record { reads = λ n m. refl }) (record { blind = λ n m. refl }) (faults_numberless FuelSpent))

mails_with : (number : ℕ) (j : EventList) (e : Event) → sent_mails number (j ++ e ∷ []) ≡ sent_mails number j ++ letter_bytes number (sending_of e)
mails_with number j e =
    flat_map-append (λ e. letter_bytes number (sending_of e)) j (e ∷ []) ∙ ap (λ bytes. sent_mails number j ++ bytes) (append-nil (letter_bytes number (sending_of e)))

-- an event that is no letter
mails_without : (number : ℕ) (j : EventList) (e : Event) → letter_bytes number (sending_of e) ≡ [] → sent_mails number j ≡ sent_mails number (j ++ e ∷ [])
mails_without number j e h = sym (mails_with number j e ∙ ap (λ bytes. sent_mails number j ++ bytes) h ∙ append-nil (sent_mails number j))

-- the end of a write that leaves this stage, of this number and with this mail
abbrev written : ℕ → State → Stage → List ℕ → Result (Unit {0}) Stop × State
written number m s mail = (Ok tt, record m { request = number; stage = record s { mail = mail } })

note_numberless : (e : Event) → ((number : ℕ) → letter_bytes number (sending_of e) ≡ []) → IsNumberBlind (note e)
note_numberless e h = record { blind = λ n m. ap (written n m (record m.stage { journal = m.stage.journal ++ e ∷ [] })) (mails_without n m.stage.journal e (h n)) }

pub pass_numberless : (w p : ℕ) → IsNumberBlind (pass w p)
pass_numberless w p = note_numberless (Passed w p) (λ n. refl)

pub deny_numberless : (w : ℕ) (c : Channel) (p from to thrown : ℕ) → IsNumberBlind (deny w c p from to thrown)
deny_numberless w c p from to thrown = record { blind = λ n m. (note_numberless (Denied w c p (class_name_of p m) from to (class_name_of thrown m)) (λ k. refl)).blind n m }

pub deny_filter_numberless : (w : ℕ) (c : Channel) (f len thrown : ℕ) → IsNumberBlind (deny_filter w c f len thrown)
deny_filter_numberless w c f len thrown = record { blind = λ n m. (note_numberless (FilterDenied w c f (class_name_of f m) len (class_name_of thrown m)) (λ k. refl)).blind n m }

pub send_page_numberless : (w : ℕ) (t : LabelledText) → IsNumberBlind (send_page w t)
send_page_numberless w t = record { blind = λ n m. ap (written n m (sent_page w t m.stage)) (mails_without n m.stage.journal (Sent w Http t) refl) }

pub send_header_numberless : (w : ℕ) (t : LabelledText) (name value : List ℕ) (replace : Bool) → IsNumberBlind (send_header w t name value replace)
send_header_numberless w t name value replace =
    record { blind = λ n m. ap (written n m (sent_header w t name value replace m.stage)) (mails_without n m.stage.journal (Sent w Header t) refl) }

pub send_status_numberless : (w : ℕ) (t : LabelledText) (status : ℕ) → IsNumberBlind (send_status w t status)
send_status_numberless w t status = record { blind = λ n m. ap (written n m (sent_status w t status m.stage)) (mails_without n m.stage.journal (Sent w Header t) refl) }

pub send_mail_numberless : (w : ℕ) (t : LabelledText) → IsNumberBlind (send_mail w t)
send_mail_numberless w t = record {
  blind = λ n m. ap (written n m (record m.stage { journal = m.stage.journal ++ Sent w Email t ∷ [] })) (sym (mails_with n m.stage.journal (Sent w Email t)));
}

-- ---- output buffers

pub open_buffer_numberless : IsNumberBlind open_buffer
open_buffer_numberless = record { blind = λ n m. refl }

pub close_buffer_numberless : IsNumberBlind close_buffer
close_buffer_numberless = record { blind = λ n m. refl }

pub buffer_numberless : (t : LabelledText) → IsNumberBlind (buffer t)
buffer_numberless t = if_numberless (λ m. nat_le (length (innermost m.stage.buffers ++ t)) LONGEST) _ _ (record { reads = λ n m. refl }) (record { blind = λ n m. refl }) (faults_numberless TextTooLong)

-- ---- what is looked at

-- the chains of a channel and of a function
pub chain_of_numberless : (c : Channel) → ReadsBlind (λ m. chain_of c m.chains)
chain_of_numberless c = record { reads = λ n m. refl }

pub function_chain_numberless : (name : List ℕ) → ReadsBlind (λ m. function_chain name m.chains)
function_chain_numberless name = record { reads = λ n m. refl }

pub chain_for_numberless : (what : Outgoing) → ReadsBlind (chain_for what)
chain_for_numberless Page = record { reads = λ n m. refl }
chain_for_numberless (HeaderLine replace) = record { reads = λ n m. refl }
chain_for_numberless (Status status) = record { reads = λ n m. refl }
chain_for_numberless (Mail to subject) = record { reads = λ n m. refl }

-- functions, classes and methods
pub callee_named_numberless : (name : List ℕ) → ReadsBlind (callee_named name)
callee_named_numberless name = record { reads = λ n m. refl }

pub running_parent_numberless : ReadsBlind (λ m. option_and_then (parent_of m.classes) m.running)
running_parent_numberless = record { reads = λ n m. refl }

pub properties_of_numberless : (class : ℕ) → ReadsBlind (λ m. properties_of m.classes class)
properties_of_numberless class = record { reads = λ n m. refl }

pub method_named_numberless : (class : ℕ) (name : List ℕ) → ReadsBlind (method_named class name)
method_named_numberless class name = record { reads = λ n m. refl }

pub policy_class_numberless : (name : List ℕ) → ReadsBlind (policy_class name)
policy_class_numberless name = record { reads = λ n m. refl }

-- objects and the classes that they are of
pub class_name_of_numberless : (o : ℕ) → ReadsBlind (class_name_of o)
class_name_of_numberless o = record { reads = λ n m. refl }

pub is_under_numberless : (class : PreludeClass) (t : Tree) → ReadsBlind (λ m. is_under class m t)
is_under_numberless class (object o) = record { reads = λ n m. refl }
is_under_numberless class t = record { reads = λ n m. refl }

pub are_under_numberless : (class : PreludeClass) (ts : List Tree) → ReadsBlind (λ m. list_all (is_under class m) ts)
are_under_numberless class ts = record { reads = λ n m. λ i. list_all (λ t. (is_under_numberless class t).reads n m i) ts }

pub marks_under_numberless : (class : ℕ) (t : LabelledText) → ReadsBlind (marks_under class t)
marks_under_numberless class t = record { reads = λ n m. refl }

pub fits_numberless : (name : List ℕ) (t : Tree) → ReadsBlind (fits name t)
fits_numberless name (object o) = record { reads = λ n m. refl }
fits_numberless name t = record { reads = λ n m. refl }

pub catch_for_numberless : (o : ℕ) (cs : List Catch) → ReadsBlind (catch_for o cs)
catch_for_numberless o [] = record { reads = λ n m. refl }
catch_for_numberless o (c ∷ cs) =
    record { reads = λ n m. λ i. if list_any (λ name. (fits_numberless name (object o)).reads n m i) (out-Catch c).classes then Some c else (catch_for_numberless o cs).reads n m i }

pub is_imported_numberless : (path : List ℕ) → ReadsBlind (is_imported path)
is_imported_numberless path = record { reads = λ n m. refl }

pub frozen_marks_numberless : (t : LabelledText) → ReadsBlind (λ m. frozen_marks m t)
frozen_marks_numberless t = record { reads = λ n m. refl }

-- the rest of the state
pub status_numberless : ReadsBlind (λ m. m.stage.status)
status_numberless = record { reads = λ n m. refl }

pub open_buffers_numberless : ReadsBlind (λ m. length m.stage.buffers)
open_buffers_numberless = record { reads = λ n m. refl }

pub session_numberless : {A : Type 0} (f : Value → A) → ReadsBlind (λ m. f m.session)
session_numberless f = record { reads = λ n m. refl }

-- ---- programs in a changed state, and those that the state chooses

pub hushed_numberless : AreNumberBlind hushed unhushed
hushed_numberless = record { enters = λ n m. refl; leaves = λ n was m. refl }

pub at_line_numberless : (line : ℕ) → AreNumberBlind (at_line line) back_at_line
at_line_numberless line = record { enters = λ n m. refl; leaves = λ n was m. refl }

pub in_call_numberless : (class : Option ℕ) → AreNumberBlind (in_call class) after_call
in_call_numberless class = record { enters = λ n m. refl; leaves = λ n was m. refl }

pub by_ticks_numberless : {A : Type 0} (turns : ℕ → Prog A) → ReadsBlind (λ m. turns (suc m.ticks))
by_ticks_numberless turns = record { reads = λ n m. refl }

-- ---- all of them, for `search`

pub ruleset ticking = (faults_numberless, charge_numberless, charge_bytes_numberless, awake_numberless, ticks_left_numberless, throw_new_numberless, settled_numberless, with_ticks_numberless, work_numberless)

pub ruleset varying = (read_numberless, assign_numberless, bind_global_numberless, set_session_numberless, fetch_numberless, store_numberless, erase_numberless)

pub ruleset declaring = (declare_function_numberless, declare_class_numberless, find_class_of_numberless, make_object_numberless, class_of_numberless, read_field_numberless, set_field_numberless)

pub ruleset filtering = (add_filter_numberless, remove_filter_numberless, add_function_filter_numberless, import_path_numberless)

pub ruleset leaving = (draw_numberless, pass_numberless, deny_numberless, deny_filter_numberless, send_page_numberless, send_header_numberless, send_status_numberless, send_mail_numberless, open_buffer_numberless, close_buffer_numberless, buffer_numberless)

pub ruleset looking = (looked_numberless, chain_of_numberless, function_chain_numberless, chain_for_numberless, callee_named_numberless, running_parent_numberless, properties_of_numberless, method_named_numberless, policy_class_numberless, class_name_of_numberless, is_under_numberless, are_under_numberless, marks_under_numberless, fits_numberless, catch_for_numberless, is_imported_numberless, frozen_marks_numberless, at_property_numberless, status_numberless, open_buffers_numberless, session_numberless)

pub ruleset entering = (hushed_numberless, at_line_numberless, in_call_numberless, by_ticks_numberless)

pub ruleset numberless = (ticking, varying, declaring, filtering, leaving, looking, entering)

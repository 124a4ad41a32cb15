-- The programs of Imports are framed.
use Rattle.std.specs.Prelude.{ℕ, pos, ◌&&◌, List, Bool, true, false, if◌then◌else◌, Option, None, Some}
use Rattle.resin_meaning_forms.specs.Under.label.Sets.{empty as no_labels}
use Rattle.resin_meaning_forms.specs.Under.lstr.Texts.{Text as LabelledText, bytes_of}
use Rattle.resin_meaning_forms.specs.Under.journal.declared.channel.Channel.TheVariants.{Code}
use Rattle.resin_meaning_forms.specs.Under.value.declared.value.Value.{Value}
use Rattle.resin_meaning_forms.specs.Under.value.declared.value.Value.TheVariants.{Bool as Boolean, Int}
use Rattle.resin_meaning_forms.specs.Under.value.Trees.{text}
use Rattle.resin_meaning_forms.specs.Under.value.Seen.{tree_of}
use Rattle.resin_meaning_forms.specs.Under.ops.Conversions.{text_of}
use Rattle.resin_meaning_forms.specs.Under.tree.declared.expression.Import.{Import}
use Rattle.resin_meaning_forms.specs.Under.tree.declared.expression.Import.TheVariants.{Include, IncludeOnce, Require, RequireOnce}
use Rattle.resin_meaning_forms.specs.Under.heap.declared.prelude.PreludeClass.TheVariants.{Error}
use Rattle.resin_meaning_forms.specs.Under.machine.Filters.{is_imported, import_path}
use Rattle.resin_meaning_forms.specs.Under.machine.Steps.{awake}
use Rattle.resin_meaning_forms.specs.Under.store.Entries.{LabelledEntry}
use Rattle.resin_meaning_forms.specs.Under.meaning.Programs.{Prog, give, act, ◌>>=◌}
use Rattle.resin_meaning_forms.specs.Under.meaning.KeeperCalls.{read_file}
use Rattle.resin_meaning_forms.specs.declared.course.Course.{Course}
use Rattle.resin_meaning_forms.specs.declared.course.Course.TheVariants.{Next, Break, Continue, Return}
use Rattle.resin_meaning_forms.specs.Parts.{Evals, computed, thrown_new, looked, charge_text, ◌>>◌}
use Rattle.resin_meaning_forms.specs.Files.{at_lawful}
use Rattle.resin_meaning_forms.specs.Keeping.{thaw_entry}
use Rattle.resin_meaning_forms.specs.Reading.{path_context, read_through}
use Rattle.resin_meaning_forms.specs.Sources.{source}
use Rattle.resin_meaning_forms.specs.Imports.{is_once, is_required, value_of_course, code_of, run_entry, missing, run_found, run_path, import_named, import_value}
use Rattle.resin_frame.specs.Frames.{IsFramed}
use Rattle.std.proofs.Common.{◌≡◌, false}
use Rattle.resin_meaning_forms.specs.Sessions.{is_of_other}
use Rattle.resin_frame.proofs.Frames.{framed_bind, framed_read, lawful_seen, FramedEvals, framing}
use Rattle.resin_frame.proofs.framed_forms.Keeping.{thaw_entry_framed}
use Rattle.resin_frame.proofs.framed_forms.Reading.{read_through_framed}
use Rattle.resin_frame.proofs.framed_forms.Sources.{source_framed}
use Rattle.resin_frame.proofs.framed_forms.Parts.{charge_text_framed}
use Rattle.resin_frame.proofs.framed_forms.Files.{at_lawful_framed}

pub code_of_framed : {own : Option (List ℕ)} (ev : Evals) (path : List ℕ) (e : LabelledEntry) → FramedEvals own ev → IsFramed {A = (List ℕ)} own (code_of ev path e)
code_of_framed ev path e h = search (framing, thaw_entry_framed, read_through_framed) depth 12

pub run_entry_framed : {own : Option (List ℕ)} (ev : Evals) (path : List ℕ) (e : LabelledEntry) → FramedEvals own ev → IsFramed {A = Value} own (run_entry ev path e)
run_entry_framed ev path e h = search (framing, source_framed, code_of_framed) depth 12

pub missing_framed : {own : Option (List ℕ)} (kind : Import) → IsFramed {A = Value} own (missing kind)
missing_framed kind = search framing depth 12

pub run_found_framed : {own : Option (List ℕ)} (ev : Evals) (kind : Import) (path : List ℕ) (a3 : Option LabelledEntry) → FramedEvals own ev → IsFramed {A = Value} own (run_found ev kind path a3)
run_found_framed ev kind path (Some e) h = search (framing, run_entry_framed) depth 12
run_found_framed ev kind path None h = search (framing, missing_framed) depth 12

pub run_path_framed : {own : Option (List ℕ)} (ev : Evals) (kind : Import) (path : List ℕ) → is_of_other own path ≡ false → FramedEvals own ev → IsFramed {A = Value} own (run_path ev kind path)
run_path_framed ev kind path k h = search (framing, run_found_framed, framed_read) depth 12

pub import_named_framed : {own : Option (List ℕ)} (ev : Evals) (kind : Import) (t : LabelledText) → FramedEvals own ev → IsFramed {A = Value} own (import_named ev kind t)
import_named_framed ev kind t h =
    framed_bind _ _ (charge_text_framed (text t)) (λ u. at_lawful_framed (bytes_of t) _ (λ k. run_path_framed ev kind (bytes_of t) (lawful_seen _ (bytes_of t) k) h))

pub import_value_framed : {own : Option (List ℕ)} (ev : Evals) (kind : Import) (v : Value) → FramedEvals own ev → IsFramed {A = Value} own (import_value ev kind v)
import_value_framed ev kind v h = search (framing, import_named_framed) depth 12

-- One request is framed: what it touches is what its keeper calls name, and none of them names a session of another visitor.
use Rattle.std.specs.Prelude.{◌&&◌, not}
use Rattle.std.proofs.Common.{◌≡◌, ℕ, zero, suc, ◌==◌, Bool, true, false, List, [], ◌∷◌, length, Option, Some, None, Result, Ok, Err, refl, sym, ap, ◌∙◌}
use Rattle.resin_http.specs.Head.{same_bytes}
use Rattle.resin_inputs.specs.declared.arrays.InputArrays.{InputArrays}
use Rattle.resin_inputs.specs.Under.bytes.Paths.{is_lawful_path}
use Rattle.resin_inputs.specs.Under.lstr.Texts.{Text as LabelledText, bytes_of}
use Rattle.resin_inputs.specs.Under.value.Arrays.{Array}
use Rattle.resin_inputs.specs.Under.scalar.declared.faults.CallStop.{CallStop}
use Rattle.resin_session.specs.Reading.{session as session_in}
use Rattle.resin_interp.specs.Under.journal.declared.channel.Channel.{Channel}
use Rattle.resin_interp.specs.Under.journal.declared.channel.Channel.TheVariants.{File}
use Rattle.resin_interp.specs.Under.store.Entries.{Marked, LabelledEntry}
use Rattle.resin_interp.specs.Under.meaning.Programs.{Prog, give, act, ◌>>=◌}
use Rattle.resin_interp.specs.Under.meaning.KeeperCalls.{read_file}
use Rattle.resin_frame.specs.Frames.{IsFramed}
use Rattle.resin_interp.specs.Under.meaning_forms.Parts.{◌>>◌}
use Rattle.resin_interp.specs.Under.meaning_forms.Programs.{evals, most_open}
use Rattle.resin_interp.specs.Under.meaning_forms.Reading.{path_context, read_through}
use Rattle.resin_interp.specs.Under.meaning_forms.Sessions.{session_path, is_of_other}
use Rattle.resin_interp.specs.Pages.{write_page, end_buffers, end_open, close_more, leave_joined}
use Rattle.resin_frame.proofs.Frames.{framing, framed_bind, framed_ended, framed_if, framed_where, framed_read, framed_write, lawful_seen, own_seen, FramedEvals}
use Rattle.resin_frame.proofs.framed_forms.Imports.{code_of_framed}
use Rattle.resin_frame.proofs.framed_forms.Inputs.{set_inputs_framed}
use Rattle.resin_frame.proofs.framed_forms.Keeping.{freeze_text_framed, thaw_entry_framed}
use Rattle.resin_frame.proofs.framed_forms.Programs.{evals_framed, program_framed}
use Rattle.resin_frame.proofs.framed_forms.Reading.{read_through_framed}
use Rattle.resin_frame.proofs.framed_forms.Sources.{program_of_framed}
use Rattle.resin_frame.proofs.framed_forms.Writes.{leave_framed}
use Rattle.resin_request.specs.declared.request.Finish.{Finish}
use Rattle.resin_request.specs.declared.request.Finish.TheVariants.{Answered, Missing}
use Rattle.resin_request.specs.Paths.{boot_path, is_open, is_script}
use Rattle.resin_request.specs.Requests.{run_found, run_boot, put_inputs, run_script, send_file, serve_file, serve_and_end, serve_found, request_program}
use Rattle.resin_request.specs.Sessions.{session_of, set_kept, set_found, begin_session, text_of_value, write_changed, keep_text, end_session, in_session}
use Rattle.resin_request.specs.Sources.{run_source}

-- ---- pages

write_page_framed : {own : Option (List ℕ)} (t : LabelledText) → IsFramed own (write_page t)
write_page_framed t = search (framing, leave_framed, evals_framed) depth 12

leave_joined_framed : {own : Option (List ℕ)} (ts : List LabelledText) → IsFramed own (leave_joined ts)
leave_joined_framed ts = search (framing, write_page_framed) depth 12

close_more_framed : {own : Option (List ℕ)} (n : ℕ) (ts : List LabelledText) → IsFramed own (close_more n ts)
close_more_framed zero ts = search framing depth 12
close_more_framed {own = own} (suc n) ts = let ih = λ (us : List LabelledText). close_more_framed {own = own} n us in search (framing, ih) depth 12

end_open_framed : {own : Option (List ℕ)} (n : ℕ) → IsFramed own (end_open n)
end_open_framed n = search (framing, close_more_framed, leave_joined_framed) depth 12

end_buffers_framed : {own : Option (List ℕ)} → IsFramed own end_buffers
end_buffers_framed = search (framing, end_open_framed) depth 12

-- ---- the steps

run_source_framed : {own : Option (List ℕ)} (src : List ℕ) → IsFramed own (run_source src)
run_source_framed src = search (framing, program_of_framed, program_framed) depth 12

run_found_framed : {own : Option (List ℕ)} (o : Option LabelledEntry) → IsFramed own (run_found o)
run_found_framed None = search framing depth 12
run_found_framed (Some e) = search (framing, thaw_entry_framed, run_source_framed) depth 12

run_boot_framed : {own : Option (List ℕ)} → IsFramed own run_boot
run_boot_framed = framed_bind _ _ (framed_read boot_path (lawful_seen _ boot_path refl)) run_found_framed

put_inputs_framed : {own : Option (List ℕ)} (a : InputArrays) → IsFramed own (put_inputs a)
put_inputs_framed a = search (framing, set_inputs_framed, evals_framed) depth 12

serve_file_framed : {own : Option (List ℕ)} (path : List ℕ) (e : LabelledEntry) → IsFramed own (serve_file path e)
serve_file_framed path e =
    framed_if (is_script path) _ _ (search (framing, code_of_framed, evals_framed, run_source_framed) depth 12)
    (search (framing, thaw_entry_framed, read_through_framed, evals_framed, write_page_framed) depth 12)

serve_and_end_framed : {own : Option (List ℕ)} (path : List ℕ) (e : LabelledEntry) → IsFramed own (serve_and_end path e)
serve_and_end_framed path e = framed_bind _ _ (serve_file_framed path e) (λ u. end_buffers_framed)

-- ---- sessions

set_kept_framed : {own : Option (List ℕ)} (o : Option Array) → IsFramed own (set_kept o)
set_kept_framed (Some a) = search framing depth 12
set_kept_framed None = search framing depth 12

set_found_framed : {own : Option (List ℕ)} (o : Option LabelledEntry) → IsFramed own (set_found o)
set_found_framed None = search framing depth 12
set_found_framed (Some e) = search (framing, thaw_entry_framed, set_kept_framed) depth 12

begin_session_framed : (name : List ℕ) → IsFramed (Some name) (begin_session name)
begin_session_framed name =
    framed_bind _ _ (framed_read (session_path name) (own_seen name)) (λ found. framed_bind _ _ (set_found_framed found) (λ u. framed_ended (Ok found)))

write_changed_framed : (name : List ℕ) (found : Option LabelledEntry) (d : Marked) → IsFramed (Some name) (write_changed (session_path name) found d)
write_changed_framed name found d = framed_if _ _ _ (framed_ended (Ok tt)) (framed_write (session_path name) d (own_seen name))

keep_text_framed : (name : List ℕ) (found : Option LabelledEntry) (t : LabelledText) → IsFramed (Some name) (keep_text name found t)
keep_text_framed name found t = search (framing, freeze_text_framed, write_changed_framed) depth 12

end_session_framed : (name : List ℕ) (found : Option LabelledEntry) → IsFramed (Some name) (end_session name found)
end_session_framed name found = search (framing, keep_text_framed) depth 12

in_session_framed : (own : Option (List ℕ)) (p : Prog (Unit {0})) → IsFramed own p → IsFramed own (in_session own p)
in_session_framed None p h = h
in_session_framed (Some name) p h = framed_bind _ _ (begin_session_framed name) (λ found. framed_bind _ _ h (λ u. end_session_framed name found))

-- ---- the whole

serve_found_framed : (path : List ℕ) (inputs : InputArrays) (o : Option LabelledEntry) → IsFramed (session_of inputs) (serve_found path inputs o)
serve_found_framed path inputs None = framed_ended (Ok Missing)
serve_found_framed path inputs (Some e) =
    framed_bind _ _ run_boot_framed (λ u. framed_bind _ _ (put_inputs_framed inputs) (λ v.
    framed_bind _ _ (in_session_framed (session_of inputs) _ (serve_and_end_framed path e)) (λ w. framed_ended (Ok Answered))))

first : (a b : Bool) → a && b ≡ true → a ≡ true
first true b h = refl
first false b h = h

open_lawful : (path : List ℕ) → is_open path ≡ true → is_lawful_path path ≡ true
open_lawful path h = first (is_lawful_path path) (not (same_bytes path boot_path)) h

pub request_framed : (path : List ℕ) (inputs : InputArrays) → IsFramed (session_of inputs) (request_program path inputs)
request_framed path inputs =
    framed_where (is_open path) _ _
    (λ h. framed_bind _ _ (framed_read path (lawful_seen _ path (open_lawful path h))) (serve_found_framed path inputs))
    (framed_ended (Ok Missing))

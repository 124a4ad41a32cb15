-- One request, as a program over its state and the keepers (this project).
use Rattle.std.specs.Prelude.{ℕ, List, codes, Option, Some, None, if◌then◌else◌}
use Rattle.resin_inputs.specs.Under.lstr.Texts.{bytes_of}
use Rattle.resin_interp.specs.Under.journal.declared.channel.Channel.TheVariants.{File}
use Rattle.resin_inputs.specs.declared.arrays.InputArrays.{InputArrays}
use Rattle.resin_interp.specs.Under.store.Entries.{LabelledEntry}
use Rattle.resin_interp.specs.Under.meaning.Programs.{Prog, give, ◌>>=◌}
use Rattle.resin_interp.specs.Under.meaning.KeeperCalls.{read_file}
use Rattle.resin_interp.specs.Under.meaning_forms.Parts.{◌>>◌}
use Rattle.resin_interp.specs.Under.meaning_forms.Imports.{code_of}
use Rattle.resin_interp.specs.Under.meaning_forms.Inputs.{set_inputs}
use Rattle.resin_interp.specs.Under.meaning_forms.Keeping.{thaw_entry}
use Rattle.resin_interp.specs.Under.meaning_forms.Programs.{evals, most_open}
use Rattle.resin_interp.specs.Under.meaning_forms.Reading.{path_context, read_through}
use Rattle.resin_interp.specs.Pages.{write_page, end_buffers}
use Rattle.resin_request.specs.declared.request.Finish.{Finish}
use Rattle.resin_request.specs.declared.request.Finish.TheVariants.{Answered, Missing}
use Rattle.resin_request.specs.Paths.{boot_path, is_open, is_script}
use Rattle.resin_request.specs.Sessions.{session_of, in_session}
use Rattle.resin_request.specs.Sources.{run_source}

-- the file that runs before each request, where it is there. Its top-level `return`, or an `exit` anywhere, ends it alone
abbrev pub run_found : Option LabelledEntry → Prog (Unit {0})
run_found None = give tt
run_found (Some e) = thaw_entry e >>= λ t. run_source (bytes_of t)

abbrev pub run_boot : Prog (Unit {0})
run_boot = read_file boot_path >>= run_found

-- the inputs pass their filters, and are set
abbrev pub put_inputs : InputArrays → Prog (Unit {0})
put_inputs a = set_inputs (evals most_open) a.get a.post a.cookie a.server

-- a script passes the filters of source text, counts as imported, and runs
abbrev pub run_script : List ℕ → LabelledEntry → Prog (Unit {0})
run_script path e = code_of (evals most_open) path e >>= run_source

-- another file passes the filters of files, and goes out as one write
abbrev pub send_file : List ℕ → LabelledEntry → Prog (Unit {0})
send_file path e = thaw_entry e >>= λ t. read_through (evals most_open) File (path_context File path) t >>= write_page

-- the file of the request, as it was read first
abbrev pub serve_file : List ℕ → LabelledEntry → Prog (Unit {0})
serve_file path e = if is_script path then run_script path e else send_file path e

-- the file of the request runs, or goes out, and then what open buffers hold
abbrev pub serve_and_end : List ℕ → LabelledEntry → Prog (Unit {0})
serve_and_end path e = serve_file path e >> end_buffers

-- the steps behind the first read
abbrev pub serve_found : List ℕ → InputArrays → Option LabelledEntry → Prog Finish
serve_found path inputs None = give Missing
serve_found path inputs (Some e) = do
  run_boot
  put_inputs inputs
  in_session (session_of inputs) (serve_and_end path e)
  give Answered

-- One request for a path; where the path isn't open to requests, nothing is read. The file is read; where there is none, nothing else happens.
-- `boot.php` runs, with empty inputs and an empty `$_SESSION`. The inputs are set. What is kept of the request's session becomes `$_SESSION`. The
-- file runs, or goes out. What open buffers hold goes out. What `$_SESSION` holds is kept.
abbrev pub request_program : List ℕ → InputArrays → Prog Finish
request_program path inputs = if is_open path then read_file path >>= serve_found path inputs else give Missing

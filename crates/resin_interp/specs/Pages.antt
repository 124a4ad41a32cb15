-- Output buffers that are open when a request's file came to its end (this project, after PHP's flush at shutdown).
use Rattle.std.specs.Prelude.{ℕ, zero, suc, ◌==◌, List, [], ◌∷◌, ◌++◌, length, Option, Some, None, if◌then◌else◌}
use Rattle.resin_eval_calls.specs.Under.lstr.Texts.{Text}
use Rattle.resin_eval_calls.specs.Under.journal.declared.channel.Channel.{Channel}
use Rattle.resin_eval_calls.specs.Under.journal.declared.channel.Channel.TheVariants.{Http, Header, Email, File, Sql, Code, Input, Func}
use Rattle.resin_eval_calls.specs.Under.machine.Filters.{import_path}
use Rattle.resin_eval_calls.specs.Under.machine.Leaving.{close_buffer}
use Rattle.resin_eval_calls.specs.Under.meaning.Programs.{Prog, give, act, ◌>>=◌}
use Rattle.resin_eval_calls.specs.Under.meaning_forms.declared.outgoing.Outgoing.TheVariants.{Page}
use Rattle.resin_eval_calls.specs.Under.meaning_forms.Parts.{computed, looked, ◌>>◌}
use Rattle.resin_eval_calls.specs.Under.meaning_forms.Operators.{too_long}
use Rattle.resin_eval_calls.specs.Under.meaning_forms.Writes.{context_of, leave}
use Rattle.resin_eval_calls.specs.Under.meaning_forms.Programs.{evals, most_open}
use Rattle.resin_eval_calls.specs.Under.meaning_forms.Reading.{path_context, read_through}

-- a text leaves as one write on `http`, while no evaluation is open
abbrev pub write_page : Text → Prog (Unit {0})
write_page t = leave (evals most_open) Page (context_of Http) t

-- a text that was read at a path passes the filters of a channel, while no evaluation is open
abbrev pub filter_read : Channel → List ℕ → Text → Prog Text
filter_read c path t = read_through (evals most_open) c (path_context c path) t

-- the path of a source text counts as imported
abbrev pub note_read : Channel → List ℕ → Prog (Unit {0})
note_read Code path = act (import_path path)
note_read Http path = give tt
note_read Header path = give tt
note_read Email path = give tt
note_read File path = give tt
note_read Sql path = give tt
note_read Input path = give tt
note_read Func path = give tt

-- the same as a call of its own: the path of a source text counts as imported then
abbrev pub read_named : Channel → List ℕ → Text → Prog Text
read_named c path t = do
  read ← filter_read c path t
  note_read c path
  give read

-- texts of which the innermost buffer's comes first, joined from the outermost to the innermost
abbrev pub joined_outwards : List Text → Text
joined_outwards [] = []
joined_outwards (t ∷ ts) = joined_outwards ts ++ t

-- the text of a buffer behind others, where there was a buffer
abbrev pub with_closed : List Text → Option Text → List Text
with_closed ts None = ts
with_closed ts (Some t) = ts ++ t ∷ []

-- closes so many buffers, and puts their texts behind these
abbrev pub close_more : ℕ → List Text → Prog (List Text)
close_more zero ts = give ts
close_more (suc n) ts = act close_buffer >>= λ t. close_more n (with_closed ts t)

-- the texts of closed buffers leave as one write
abbrev pub leave_joined : List Text → Prog (Unit {0})
leave_joined ts = computed (too_long (joined_outwards ts)) >>= write_page

-- so many buffers are open
abbrev pub end_open : ℕ → Prog (Unit {0})
end_open n = if n == 0 then give tt else close_more n [] >>= leave_joined

-- the open buffers are closed, and what they hold leaves as one write, where any is open
abbrev pub end_buffers : Prog (Unit {0})
end_buffers = looked (λ m. length m.stage.buffers) >>= end_open

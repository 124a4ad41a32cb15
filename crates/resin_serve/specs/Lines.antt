-- What a connection still gives (this project).
use Rattle.std.specs.Prelude.{◌≡◌, ℕ, List, [], ◌++◌, if◌then◌else◌, Option, Some, None, map}
use Rattle.resin_site.specs.Under.http.Stream.{Answer, answers}
use Rattle.resin_trace.specs.declared.event.TraceEvent.{TraceEvent}
use Rattle.resin_trace.specs.Lines.{Waiting, at}
use Rattle.resin_serve.specs.Meaning.{Owed, life}

-- the answers that the connection still gives, where these bytes follow
unfoldable pub still : Option Waiting → List ℕ → List Answer
still None more = answers more
still (Some w) more = if w.refused then [] else answers (w.stream ++ more)

-- whatever follows, the stream's answers are those so far and then the connection's
abbrev pub Ready : List ℕ → List Answer → Option Waiting → Type 0
Ready s done w = (more : List ℕ) → answers (s ++ more) ≡ done ++ still w more

-- answers that are owed on a connection
abbrev pub asked : ℕ → ℕ → List Answer → List Owed
asked conn place answers = map (λ a. record { conn = conn; asked = a; place = place }) answers

-- each connection stands where its life does
abbrev pub Hold : List (Option Waiting) → List TraceEvent → Type 0
Hold connections seen = (c : ℕ) → Ready (life c seen) (answers (life c seen)) (at connections c)

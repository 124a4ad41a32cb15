-- What a sample run tells (this project): the line of its answers and of its denial lines.
use Rattle.std.specs.Prelude.{◌≡◌, ℕ, ◌-◌, ◌≤◌, ◌==◌, List, [], ◌∷◌, ◌++◌, length, filter, codes, decimal, Option, ⊤, ◌⊎◌}
use Rattle.std.specs.FinMap.{empty}
use Rattle.resin_site.specs.Under.base.FileStore.{FileStore}
use Rattle.resin_site.specs.Under.store.Files.{lift_files}
use Rattle.resin_site.specs.Keeping.{Store, state}
use Rattle.resin_trace.specs.declared.event.TraceEvent.{TraceEvent}
use Rattle.resin_trace.specs.Records.{Records}
use Rattle.resin_bench_site.specs.Site.{site_files, with_files}
use Rattle.resin_bench_site.specs.Trace.{trace_text}
use Rattle.resin_serve.specs.declared.logging.Logging.TheVariants.{Denials}
use Rattle.resin_serve.specs.declared.give.Given.{Given}
use Rattle.resin_serve.specs.declared.give.Given.TheVariants.{Whole, Fault}
use Rattle.resin_serve.specs.declared.give.Given.TheVariants.{Memory as GivenMemory}
use Rattle.resin_serve.specs.declared.status.Status.{Status}
use Rattle.resin_serve.specs.declared.status.Status.TheVariants.{Usage, BadTrace, ReadFault, WriteFault, TraceTooLong, AuditRefused}
use Rattle.resin_serve.specs.declared.status.Status.TheVariants.{Ok as StatusOk, Memory as StatusMemory}
use Rattle.resin_serve.specs.declared.sample.Counted.{Counted}
use Rattle.resin_serve.specs.Words.{usual_fuel}
use Rattle.resin_serve.specs.Meaning.{Meaning, order, bytes_of, AllObey}
use Rattle.resin_serve.specs.Ran.{Grew, part}
use Rattle.resin_serve.specs.Gives.{Gave}
use Rattle.resin_serve.specs.Asked.{meaning}

-- these files, and no table
abbrev pub held : FileStore → Store
held files = record { files = lift_files files; tables = empty }

-- the lines of a text
abbrev pub lines_in : List ℕ → ℕ
lines_in text = length (filter (λ b. b == 10) text)

-- The run of a trace over these files and no table, in which no keeper call fails: the whole trace is records, it has so many answers, each of them
-- obeys the access law, and its log has so many lines, each of which is one denial (`Denials`).
pub record ComesTo (R : Meaning) (files : FileStore) (trace : List ℕ) (counted : Counted) : Type 0 where
  pub records : List (TraceEvent × ℕ)
  pub whole : Records trace records []
  pub requests_are : counted.requests ≡ length (order [] records)
  pub lawful : AllObey R [] (state (held files) 0) 1 (order [] records)
  pub denied_are : counted.denied ≡ lines_in (part 0 (bytes_of R [] (state (held files) 0) 1 (order [] records)))

-- after a whole run the next answer's number and the log tell what it came to
abbrev pub TellsCounts : Status → Meaning → FileStore → List ℕ → ℕ → List ℕ → Type 0
TellsCounts StatusOk R files trace next log = (1 ≤ next) × ComesTo R files trace (record { requests = next - 1; denied = lines_in log })
TellsCounts Usage R files trace next log = ⊤
TellsCounts (BadTrace offset) R files trace next log = ⊤
TellsCounts ReadFault R files trace next log = ⊤
TellsCounts WriteFault R files trace next log = ⊤
TellsCounts TraceTooLong R files trace next log = ⊤
TellsCounts StatusMemory R files trace next log = ⊤
TellsCounts AuditRefused R files trace next log = ⊤

-- the run of the sample with so many pairs of requests: over its site alone, and with the usual fuel
abbrev pub SampleComesTo : ℕ → Counted → Type 0
SampleComesTo number counted = ComesTo (meaning Denials usual_fuel) (with_files empty site_files) (trace_text number) counted

-- the line of the sample
abbrev pub sample_line : ℕ → Counted → List ℕ
sample_line number counted =
    codes "sample " ++ decimal number ++ codes ": requests=" ++ decimal counted.requests ++ codes " denied=" ++ decimal counted.denied ++ codes "\n"

-- the sample comes to these counts, and its line was given as far as is said
pub record Shows (g : Given) (number : ℕ) (old new : Option (List ℕ)) : Type 0 where
  pub counted : Counted
  pub comes_to : SampleComesTo number counted
  pub gave : Gave g (sample_line number counted) old new

-- how a sample ends, and what the output gained: the whole line of the sample; a front of it, after a write fault and for want of memory
abbrev pub Samples : Status → ℕ → Option (List ℕ) → Option (List ℕ) → Type 0
Samples StatusOk number old new = Shows Whole number old new
Samples Usage number old new = ⊥
Samples (BadTrace offset) number old new = ⊥
Samples ReadFault number old new = ⊥
Samples WriteFault number old new = Shows Fault number old new
Samples TraceTooLong number old new = ⊥
Samples StatusMemory number old new = Grew old new [] ⊎ Shows GivenMemory number old new
Samples AuditRefused number old new = ⊥

-- How an audit ends: the line of its verdict, and its status (this project).
use Rattle.std.specs.Prelude.{◌≡◌, ℕ, ◌<◌, ◌≤◌, List, [], ◌++◌, length, codes, decimal, Option, ⊤, ◌⊎◌}
use Rattle.resin_trace.specs.Records.{limit}
use Rattle.resin_audit.specs.declared.verdict.Verdict.{Verdict}
use Rattle.resin_audit.specs.declared.verdict.Verdict.TheVariants.{Yes, Form, Law}
use Rattle.resin_audit.specs.Verdicts.{Says}
use Rattle.resin_serve.specs.declared.give.Given.{Given}
use Rattle.resin_serve.specs.declared.give.Given.TheVariants.{Whole, Fault}
use Rattle.resin_serve.specs.declared.give.Given.TheVariants.{Memory as GivenMemory}
use Rattle.resin_serve.specs.declared.status.Status.{Status}
use Rattle.resin_serve.specs.declared.status.Status.TheVariants.{Usage, BadTrace, ReadFault, WriteFault, TraceTooLong, AuditRefused}
use Rattle.resin_serve.specs.declared.status.Status.TheVariants.{Ok as StatusOk, Memory as StatusMemory}
use Rattle.resin_serve.specs.Ran.{Grew}
use Rattle.resin_serve.specs.Gives.{Gave}

-- the line of a verdict
abbrev pub verdict_line : Verdict → List ℕ
verdict_line (Yes requests events) = codes "audit ok: requests=" ++ decimal requests ++ codes " events=" ++ decimal events ++ codes "\n"
verdict_line (Form offset) = codes "audit refused: offset=" ++ decimal offset ++ codes "\n"
verdict_line (Law request event) = codes "audit refused: request=" ++ decimal request ++ codes " event=" ++ decimal event ++ codes "\n"

-- the status of a verdict whose whole line was given
abbrev pub verdict_status : Verdict → Status
verdict_status (Yes requests events) = StatusOk
verdict_status (Form offset) = AuditRefused
verdict_status (Law request event) = AuditRefused

-- the text, which is within the limit, has this verdict, and its line was given as far as is said
pub record Tells (g : Given) (text : List ℕ) (old new : Option (List ℕ)) (verdict : Verdict) : Type 0 where
  pub within : length text ≤ limit
  pub says : Says text verdict
  pub gave : Gave g (verdict_line verdict) old new

abbrev pub TellsWhole : Status → List ℕ → Option (List ℕ) → Option (List ℕ) → Type 0
TellsWhole status text old new = (verdict : Verdict) × Tells Whole text old new verdict × (status ≡ verdict_status verdict)

-- how an audit of a text ends, and what the output gained: the whole line of the verdict, whose status it has; a front of that line, after a write
-- fault and for want of memory; nothing, after a read fault, and where the text is longer than the limit
abbrev pub Audits : Status → List ℕ → Option (List ℕ) → Option (List ℕ) → Type 0
Audits StatusOk text old new = TellsWhole StatusOk text old new
Audits Usage text old new = ⊥
Audits (BadTrace offset) text old new = ⊥
Audits ReadFault text old new = Grew old new []
Audits WriteFault text old new = (verdict : Verdict) × Tells Fault text old new verdict
Audits TraceTooLong text old new = (limit < length text) × Grew old new []
Audits StatusMemory text old new = Grew old new [] ⊎ ((verdict : Verdict) × Tells GivenMemory text old new verdict)
Audits AuditRefused text old new = TellsWhole AuditRefused text old new

-- an audit ends by no status of a run alone
abbrev pub EndsAudit : Status → Type 0
EndsAudit StatusOk = ⊤
EndsAudit Usage = ⊥
EndsAudit (BadTrace offset) = ⊥
EndsAudit ReadFault = ⊤
EndsAudit WriteFault = ⊤
EndsAudit TraceTooLong = ⊤
EndsAudit StatusMemory = ⊤
EndsAudit AuditRefused = ⊤

-- a run ends by no status of an audit alone, nor by those of words
abbrev pub EndsRun : Status → Type 0
EndsRun StatusOk = ⊤
EndsRun Usage = ⊥
EndsRun (BadTrace offset) = ⊤
EndsRun ReadFault = ⊤
EndsRun WriteFault = ⊤
EndsRun TraceTooLong = ⊤
EndsRun StatusMemory = ⊤
EndsRun AuditRefused = ⊥

-- a fact of an audit that gave nothing
abbrev pub OnSilent : Status → Type 0 → Type 0
OnSilent StatusOk P = ⊤
OnSilent Usage P = ⊤
OnSilent (BadTrace offset) P = ⊤
OnSilent ReadFault P = P
OnSilent WriteFault P = ⊤
OnSilent TraceTooLong P = P
OnSilent StatusMemory P = ⊤
OnSilent AuditRefused P = ⊤

-- the audit came to its verdict, or stopped for want of memory
abbrev pub CompletesAudit : Status → Type 0
CompletesAudit StatusOk = ⊤
CompletesAudit Usage = ⊥
CompletesAudit (BadTrace offset) = ⊥
CompletesAudit ReadFault = ⊥
CompletesAudit WriteFault = ⊥
CompletesAudit TraceTooLong = ⊥
CompletesAudit StatusMemory = ⊤
CompletesAudit AuditRefused = ⊤

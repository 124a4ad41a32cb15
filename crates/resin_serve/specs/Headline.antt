-- What `serve` answers (this project).
use Rattle.std.specs.Prelude.{ℕ, ⊤}
use Rattle.resin_site.specs.Under.base.Causes.{Rose}
use Rattle.resin_serve.specs.declared.status.Status.{Status}
use Rattle.resin_serve.specs.declared.status.Status.TheVariants.{Usage, BadTrace, ReadFault, WriteFault, TraceTooLong, AuditRefused}
use Rattle.resin_serve.specs.declared.status.Status.TheVariants.{Ok as StatusOk, Memory as StatusMemory}
use Rattle.resin_serve.specs.Gives.{RoseIn, Sinks}
use Rattle.resin_serve.specs.Kept.{Keepers}

-- the run came to the end of the trace, or stopped for want of memory
abbrev pub Completes : Status → Type 0
Completes StatusOk = ⊤
Completes Usage = ⊥
Completes (BadTrace offset) = ⊥
Completes ReadFault = ⊥
Completes WriteFault = ⊥
Completes TraceTooLong = ⊥
Completes StatusMemory = ⊤
Completes AuditRefused = ⊥

-- no count rose
pub record Calm (reads reads' : ℕ) (old new : Sinks) (keepers keepers' : Keepers) : Type 0 where
  pub reads_stay : Rose reads reads' → ⊥
  pub log_stays : RoseIn old.log new.log → ⊥
  pub mail_stays : RoseIn old.mail new.mail → ⊥
  pub out_stays : RoseIn old.out new.out → ⊥
  pub files_stay : Rose keepers.file_faults keepers'.file_faults → ⊥
  pub tables_stay : Rose keepers.table_faults keepers'.table_faults → ⊥

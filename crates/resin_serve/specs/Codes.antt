-- The exit codes of the program (this project).
use Rattle.std.specs.Prelude.{ℕ}
use Rattle.resin_serve.specs.declared.status.Status.{Status}
use Rattle.resin_serve.specs.declared.status.Status.TheVariants.{Usage, BadTrace, ReadFault, WriteFault, TraceTooLong, AuditRefused}
use Rattle.resin_serve.specs.declared.status.Status.TheVariants.{Ok as StatusOk, Memory as StatusMemory}

abbrev pub code_of : Status → ℕ
code_of StatusOk = 0
code_of Usage = 2
code_of (BadTrace offset) = 3
code_of ReadFault = 4
code_of WriteFault = 5
code_of TraceTooLong = 6
code_of StatusMemory = 7
code_of AuditRefused = 9

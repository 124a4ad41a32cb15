-- The place that is told of a fault, by how many bytes were left where reading ended.
use Rattle.std.specs.Prelude.{ℕ, ◌-◌, List, length, take}
use Rattle.resin_form.specs.declared.fault.Fault.{Fault}
use Rattle.resin_form.specs.declared.fault.Fault.TheVariants.{Syntax, TooDeep}
use Rattle.resin_form.specs.declared.fault.Fault.TheVariants as f
use Rattle.resin_sql.specs.declared.fault.SqlFault.{SqlFault}
use Rattle.resin_sql.specs.declared.fault.SqlFault.TheVariants.{Bad, Memory}

-- the first byte that is left; or, behind a name or a number that is beyond its limit, where that begins (`start`)
abbrev pub refusal : (List ℕ → ℕ) → List ℕ → ℕ → Fault → SqlFault
refusal start bytes left Syntax = Bad (length bytes - left)
refusal start bytes left TooDeep = Bad (start (take (length bytes - left) bytes))
refusal start bytes left f.Memory = Memory

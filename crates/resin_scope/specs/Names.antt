-- Names of variables and of functions: texts that are told apart by their bytes.
use Rattle.std.specs.Prelude.{ℕ, List, map}
use Rattle.std.specs.Ordering.{nat_cmp}
use Rattle.std.specs.declared.cmp.Ordering.{Ordering}
use Rattle.std.specs.Cmp.Lexicographic.{slice_cmp}
use Rattle.std.specs.Coded.{Coded, coded_ℕ, coded_list}
use Rattle.std.specs.FinMap.{FinMap, code}
use Rattle.std.specs.declared.vec.Vec.{Vec}
use base.Stored.{coded_unit}

-- the order of names, by their bytes
abbrev pub name_order : List ℕ → List ℕ → Ordering
name_order = slice_cmp nat_cmp

-- what each of some names stands for: a finite map, in which it can't be seen which name was made first
abbrev pub Named : Type 0 → Type 0
Named X = FinMap name_order X

-- a finite set of names: a map with nothing at each name
abbrev pub NameSet : Type 0
NameSet = Named (Unit {0})

abbrev pub named_code : {X : Type 0} → Coded X → Coded (Named X)
named_code x = code (coded_list coded_ℕ) x

abbrev pub name_set_code : Coded NameSet
name_set_code = named_code coded_unit

-- entries by the bytes of their keys
abbrev pub by_bytes : {X Z : Type 0} → List (Vec ℕ Z × X) → List (List ℕ × X)
by_bytes es = map (λ e. (e.0.items, e.1)) es

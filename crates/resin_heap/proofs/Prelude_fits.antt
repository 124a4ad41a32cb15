-- The classes of the runtime fit together: no name stands twice, and each parent stands before its children.
use Rattle.std.proofs.Common.{◌≡◌, ℕ, zero, suc, ◌<◌, [], ◌∷◌, ◌++◌, length, map, take, slice_get, subst, refl, Some, None, lit<}
use Rattle.std.specs.Prelude.{Bool, true, false, ◌&&◌, List, codes}
use Rattle.std.specs.List.{list_all}
use Rattle.std.specs.Option.{option_map}
use Rattle.resin_scan.specs.Bytes.{is_name_byte}
use Rattle.resin_scan.specs.Lists.{Every}
use Rattle.resin_scan.specs.Words.{IsName}
use Rattle.resin_heap.specs.declared.prelude.PreludeClass.{PreludeClass}
use Rattle.resin_heap.specs.declared.prelude.PreludeClass.TheVariants.{Throwable, Exception, Error, ArithmeticError, TypeError, ValueError, DivisionByZeroError, ArgumentCountError, PolicyException, SqlException, Policy, NoExport, Filter, LostPolicy}
use Rattle.resin_heap.specs.Classes.{find_class, parent_in}
use Rattle.resin_heap.specs.Prelude.{all_classes, number_of, name_of, parent_class, methods_of_class, function_of, declaration_of, prelude}

-- a class fits behind those of smaller numbers
pub record FitsAt (i : ℕ) (c : PreludeClass) : Type 0 where
  pub fresh : find_class (take i prelude) (name_of c) ≡ None
  pub under : option_map number_of (parent_class c) ≡ parent_in (take i prelude) (declaration_of c)
  pub next : take (suc i) prelude ≡ take i prelude ++ declaration_of c ∷ []

same : (i : ℕ) (k c : PreludeClass) → FitsAt i k → Some k ≡ Some c → FitsAt i c
same i k c fits e = let e' : k ≡ c = cc in subst (λ (x : PreludeClass). FitsAt i x) e' fits

pub prelude_fits : (i : ℕ) (c : PreludeClass) → slice_get all_classes i ≡ Some c → FitsAt i c
prelude_fits zero c e = same zero Throwable c (record { fresh = refl; under = refl; next = refl }) e
prelude_fits (suc zero) c e = same (suc zero) Exception c (record { fresh = refl; under = refl; next = refl }) e
prelude_fits (suc (suc zero)) c e = same (suc (suc zero)) Error c (record { fresh = refl; under = refl; next = refl }) e
prelude_fits (suc (suc (suc zero))) c e = same (suc (suc (suc zero))) ArithmeticError c (record { fresh = refl; under = refl; next = refl }) e
prelude_fits (suc (suc (suc (suc zero)))) c e = same (suc (suc (suc (suc zero)))) TypeError c (record { fresh = refl; under = refl; next = refl }) e
prelude_fits (suc (suc (suc (suc (suc zero))))) c e = same (suc (suc (suc (suc (suc zero))))) ValueError c (record { fresh = refl; under = refl; next = refl }) e
prelude_fits (suc (suc (suc (suc (suc (suc zero)))))) c e = same (suc (suc (suc (suc (suc (suc zero)))))) DivisionByZeroError c (record { fresh = refl; under = refl; next = refl }) e
prelude_fits (suc (suc (suc (suc (suc (suc (suc zero))))))) c e = same (suc (suc (suc (suc (suc (suc (suc zero))))))) ArgumentCountError c (record { fresh = refl; under = refl; next = refl }) e
prelude_fits (suc (suc (suc (suc (suc (suc (suc (suc zero)))))))) c e = same (suc (suc (suc (suc (suc (suc (suc (suc zero)))))))) PolicyException c (record { fresh = refl; under = refl; next = refl }) e
prelude_fits (suc (suc (suc (suc (suc (suc (suc (suc (suc zero))))))))) c e = same (suc (suc (suc (suc (suc (suc (suc (suc (suc zero))))))))) SqlException c (record { fresh = refl; under = refl; next = refl }) e
prelude_fits (suc (suc (suc (suc (suc (suc (suc (suc (suc (suc zero)))))))))) c e = same (suc (suc (suc (suc (suc (suc (suc (suc (suc (suc zero)))))))))) Policy c (record { fresh = refl; under = refl; next = refl }) e
prelude_fits (suc (suc (suc (suc (suc (suc (suc (suc (suc (suc (suc zero))))))))))) c e = same (suc (suc (suc (suc (suc (suc (suc (suc (suc (suc (suc zero))))))))))) NoExport c (record { fresh = refl; under = refl; next = refl }) e
prelude_fits (suc (suc (suc (suc (suc (suc (suc (suc (suc (suc (suc (suc zero)))))))))))) c e = same (suc (suc (suc (suc (suc (suc (suc (suc (suc (suc (suc (suc zero)))))))))))) Filter c (record { fresh = refl; under = refl; next = refl }) e
prelude_fits (suc (suc (suc (suc (suc (suc (suc (suc (suc (suc (suc (suc (suc zero))))))))))))) c e = same (suc (suc (suc (suc (suc (suc (suc (suc (suc (suc (suc (suc (suc zero))))))))))))) LostPolicy c (record { fresh = refl; under = refl; next = refl }) e
prelude_fits (suc (suc (suc (suc (suc (suc (suc (suc (suc (suc (suc (suc (suc (suc i)))))))))))))) c e = cc

-- each class of the runtime has few methods
pub few_methods : (c : PreludeClass) → length (map function_of (methods_of_class c)) < 4294967295
few_methods Throwable = lit< tt
few_methods Exception = lit< tt
few_methods Error = lit< tt
few_methods ArithmeticError = lit< tt
few_methods TypeError = lit< tt
few_methods ValueError = lit< tt
few_methods DivisionByZeroError = lit< tt
few_methods ArgumentCountError = lit< tt
few_methods PolicyException = lit< tt
few_methods SqlException = lit< tt
few_methods Policy = lit< tt
few_methods NoExport = lit< tt
few_methods Filter = lit< tt
few_methods LostPolicy = lit< tt

-- each class of the runtime has a name
first_true : (a b : Bool) → (a && b) ≡ true → a ≡ true
first_true true b h = refl
first_true false b h = cc

second_true : (a b : Bool) → (a && b) ≡ true → b ≡ true
second_true true b h = h
second_true false b h = cc

every_byte : (bs : List ℕ) → list_all is_name_byte bs ≡ true → Every is_name_byte bs
every_byte [] h = tt
every_byte (b ∷ bs) h = (first_true _ _ h, every_byte bs (second_true _ _ h))

pub is_named : (c : PreludeClass) → IsName (name_of c)
is_named Throwable = (refl, every_byte (codes "hrowable") refl)
is_named Exception = (refl, every_byte (codes "xception") refl)
is_named Error = (refl, every_byte (codes "rror") refl)
is_named ArithmeticError = (refl, every_byte (codes "rithmeticError") refl)
is_named TypeError = (refl, every_byte (codes "ypeError") refl)
is_named ValueError = (refl, every_byte (codes "alueError") refl)
is_named DivisionByZeroError = (refl, every_byte (codes "ivisionByZeroError") refl)
is_named ArgumentCountError = (refl, every_byte (codes "rgumentCountError") refl)
is_named PolicyException = (refl, every_byte (codes "olicyException") refl)
is_named SqlException = (refl, every_byte (codes "qlException") refl)
is_named Policy = (refl, every_byte (codes "olicy") refl)
is_named NoExport = (refl, every_byte (codes "oExport") refl)
is_named Filter = (refl, every_byte (codes "ilter") refl)
is_named LostPolicy = (refl, every_byte (codes "ostPolicy") refl)

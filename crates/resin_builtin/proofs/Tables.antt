-- A name is looked up in parts of the table.
use Rattle.std.proofs.Common.{◌≡◌, ℕ, Bool, true, false, List, [], ◌∷◌, ◌++◌, Option, Some, None, refl, ◌∙◌}
use Rattle.std.specs.Prelude.{if◌then◌else◌}
use Rattle.resin_scan.specs.Words.{spells}
use Rattle.resin_builtin.specs.Names.{named, all_names, builtin_named, search_names, part_names, join_names, escape_names, number_names, test_names, array_names}
use Rattle.resin_builtin.specs.declared.builtin.Builtin.{Builtin}

either : (b : Bool) (k k' : Builtin) (o o' : Option Builtin) → (if b then Some k else o) ≡ Some k' → (o ≡ Some k' → o' ≡ Some k') → (if b then Some k else o') ≡ Some k'
either true k k' o o' h f = h
either false k k' o o' h f = f h

neither : (b : Bool) (k : Builtin) (o o' o'' : Option Builtin) → (if b then Some k else o) ≡ None → (o ≡ None → o' ≡ o'') → (if b then Some k else o') ≡ o''
neither true k o o' o'' h f = absurd (cc)
neither false k o o' o'' h f = f h

-- what is found in the first part of a table is found in the whole
pub found : (a b : List (List ℕ × Builtin)) (name : List ℕ) (k : Builtin) → named a name ≡ Some k → named (a ++ b) name ≡ Some k
found [] b name k h = absurd (cc)
found (e ∷ a) b name k h = either (spells e.0 name) e.1 k (named a name) (named (a ++ b) name) h (λ i. found a b name k i)

-- what is not in the first part is looked up in the second
pub passed : (a b : List (List ℕ × Builtin)) (name : List ℕ) → named a name ≡ None → named (a ++ b) name ≡ named b name
passed [] b name h = refl
passed (e ∷ a) b name h = neither (spells e.0 name) e.1 (named a name) (named (a ++ b) name) (named b name) h (λ i. passed a b name i)

-- the whole table is looked up part by part
module _ (name : List ℕ) where
  whole : builtin_named name ≡ named (search_names ++ (part_names ++ (join_names ++ (escape_names ++ (number_names ++ (test_names ++ array_names)))))) name
  unfolding builtin_named all_names
  whole = refl

  pub in_first : (k : Builtin) → named search_names name ≡ Some k → builtin_named name ≡ Some k
  in_first k h = whole ∙ found search_names _ name k h

  module _ (no_search : named search_names name ≡ None) where
    pub past_first : builtin_named name ≡ named (part_names ++ (join_names ++ (escape_names ++ (number_names ++ (test_names ++ array_names))))) name
    past_first = whole ∙ passed search_names _ name no_search

    pub in_second : (k : Builtin) → named part_names name ≡ Some k → builtin_named name ≡ Some k
    in_second k h = past_first ∙ found part_names _ name k h

    module _ (no_part : named part_names name ≡ None) where
      pub past_second : builtin_named name ≡ named (join_names ++ (escape_names ++ (number_names ++ (test_names ++ array_names)))) name
      past_second = past_first ∙ passed part_names _ name no_part

      pub in_third : (k : Builtin) → named join_names name ≡ Some k → builtin_named name ≡ Some k
      in_third k h = past_second ∙ found join_names _ name k h

      module _ (no_join : named join_names name ≡ None) where
        pub past_third : builtin_named name ≡ named (escape_names ++ (number_names ++ (test_names ++ array_names))) name
        past_third = past_second ∙ passed join_names _ name no_join

        pub in_fourth : (k : Builtin) → named escape_names name ≡ Some k → builtin_named name ≡ Some k
        in_fourth k h = past_third ∙ found escape_names _ name k h

        module _ (no_escape : named escape_names name ≡ None) where
          pub past_fourth : builtin_named name ≡ named (number_names ++ (test_names ++ array_names)) name
          past_fourth = past_third ∙ passed escape_names _ name no_escape

          pub in_fifth : (k : Builtin) → named number_names name ≡ Some k → builtin_named name ≡ Some k
          in_fifth k h = past_fourth ∙ found number_names _ name k h

          module _ (no_number : named number_names name ≡ None) where
            pub past_fifth : builtin_named name ≡ named (test_names ++ array_names) name
            past_fifth = past_fourth ∙ passed number_names _ name no_number

            pub in_sixth : (k : Builtin) → named test_names name ≡ Some k → builtin_named name ≡ Some k
            in_sixth k h = past_fifth ∙ found test_names _ name k h

            pub in_last : named test_names name ≡ None → builtin_named name ≡ named array_names name
            in_last no_test = past_fifth ∙ passed test_names _ name no_test

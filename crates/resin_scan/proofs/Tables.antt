-- A keyword is looked up in parts of the table.
use Rattle.std.proofs.Common.{◌≡◌, ℕ, Bool, true, false, List, [], ◌∷◌, ◌++◌, Option, Some, None, refl, ◌∙◌}
use Rattle.std.specs.Prelude.{if◌then◌else◌}
use Rattle.resin_scan.specs.Words.{spells}
use Rattle.resin_scan.specs.Keywords.{named, keyword_of, keywords, array_to_die, do_to_endwhile, exit_to_if, include_to_public, require_to_while}
use Rattle.resin_scan.specs.declared.keywords.Keyword.{Keyword}

either : (b : Bool) (k k' : Keyword) (o o' : Option Keyword) → (if b then Some k else o) ≡ Some k' → (o ≡ Some k' → o' ≡ Some k') → (if b then Some k else o') ≡ Some k'
either true k k' o o' h f = h
either false k k' o o' h f = f h

neither : (b : Bool) (k : Keyword) (o o' o'' : Option Keyword) → (if b then Some k else o) ≡ None → (o ≡ None → o' ≡ o'') → (if b then Some k else o') ≡ o''
neither true k o o' o'' h f = absurd (cc)
neither false k o o' o'' h f = f h

-- what is found in the first part of a table is found in the whole
pub found : (a b : List (List ℕ × Keyword)) (xs : List ℕ) (k : Keyword) → named a xs ≡ Some k → named (a ++ b) xs ≡ Some k
found [] b xs k h = absurd (cc)
found (e ∷ a) b xs k h = either (spells e.0 xs) e.1 k (named a xs) (named (a ++ b) xs) h (λ i. found a b xs k i)

-- what is not in the first part is looked up in the second
pub passed : (a b : List (List ℕ × Keyword)) (xs : List ℕ) → named a xs ≡ None → named (a ++ b) xs ≡ named b xs
passed [] b xs h = refl
passed (e ∷ a) b xs h = neither (spells e.0 xs) e.1 (named a xs) (named (a ++ b) xs) (named b xs) h (λ i. passed a b xs i)

-- the whole table is looked up part by part
module _ (xs : List ℕ) where
  pub in_first : (k : Keyword) → named array_to_die xs ≡ Some k → keyword_of xs ≡ Some k
  unfolding keyword_of keywords
  in_first k h = found array_to_die (do_to_endwhile ++ (exit_to_if ++ (include_to_public ++ require_to_while))) xs k h

  pub in_second : named array_to_die xs ≡ None → (o : Option Keyword) → named (do_to_endwhile ++ (exit_to_if ++ (include_to_public ++ require_to_while))) xs ≡ o → keyword_of xs ≡ o
  unfolding keyword_of keywords
  in_second n o h = passed array_to_die (do_to_endwhile ++ (exit_to_if ++ (include_to_public ++ require_to_while))) xs n ∙ h

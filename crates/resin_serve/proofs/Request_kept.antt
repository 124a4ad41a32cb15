-- The keeper calls of one request.
use Rattle.std.proofs.Common.{◌≡◌, ℕ, zero, suc, ◌+◌, ◌<◌, ◌≤◌, min, Bool, true, false, cond, nat_eq, List, [], ◌∷◌, ◌++◌, length, Option, refl, sym, ap, ◌∙◌, arith, subst, ◌⊎◌, inl, inr}
use Rattle.std.specs.Prelude.{◌||◌, not}
use Rattle.std.proofs.lemmas.List.{append-nil}
use Rattle.std.proofs.lemmas.List.Elements.{All-nil}
use Rattle.std.proofs.lemmas.Bool.Decides.{nat_tests}
use Rattle.resin_site.specs.Under.base.Causes.{TellsMore, Counted, is_listed, last_count}
use Rattle.resin_site.specs.Under.base.Numbering.{RiseWithin}
use Rattle.resin_site.specs.Under.meaning.Programs.{KeeperCall}
use Rattle.resin_site.specs.Under.meaning.Runs.{failures}
use Rattle.resin_site.specs.Keeping.{Faults, faults, Blames, Later, answers, Tells}
use Rattle.resin_serve.specs.Kept.{Call, failed_after, of_files, of_tables, keepers, Kept}

-- the calls of a program, with which of them failed
abbrev seen_calls : List ℕ → ℕ → List KeeperCall → List Call
seen_calls K made [] = []
seen_calls K made (call ∷ calls) = record { on_tables = call.on_tables; failed = is_listed K (made + 1) } ∷ seen_calls K (made + 1) calls

size : (K : List ℕ) (made : ℕ) (calls : List KeeperCall) → length (seen_calls K made calls) ≡ length calls
size K made [] = refl
size K made (call ∷ calls) = ap suc (size K (made + 1) calls)

files_of : (K : List ℕ) (made : ℕ) (calls : List KeeperCall) → of_files (seen_calls K made calls) ≡ failures false K made calls
files_of K made [] = refl
files_of K made (call ∷ calls) =
    let e = files_of K (made + 1) calls in
    elim call.on_tables as (λ b. cond b (of_files (seen_calls K (made + 1) calls)) (is_listed K (made + 1) ∷ of_files (seen_calls K (made + 1) calls))
    ≡ cond (cond b false (not false)) (is_listed K (made + 1) ∷ failures false K (made + 1) calls) (failures false K (made + 1) calls)) [
      | true ↦ e
      | false ↦ ap (λ l. is_listed K (made + 1) ∷ l) e
    ]

tables_of : (K : List ℕ) (made : ℕ) (calls : List KeeperCall) → of_tables (seen_calls K made calls) ≡ failures true K made calls
tables_of K made [] = refl
tables_of K made (call ∷ calls) =
    let e = tables_of K (made + 1) calls in
    elim call.on_tables as (λ b. cond b (is_listed K (made + 1) ∷ of_tables (seen_calls K (made + 1) calls)) (of_tables (seen_calls K (made + 1) calls))
    ≡ cond (cond b true (not true)) (is_listed K (made + 1) ∷ failures true K (made + 1) calls) (failures true K (made + 1) calls)) [
      | true ↦ ap (λ l. is_listed K (made + 1) ∷ l) e
      | false ↦ e
    ]

-- none of the next calls is listed
abbrev Unlisted : List ℕ → ℕ → ℕ → Type 0
Unlisted K made n = (k : ℕ) → made < k → k ≤ made + n → is_listed K k ≡ false

none_fails : (K : List ℕ) (made : ℕ) (calls : List KeeperCall) → Unlisted K made (length calls) → failed_after made (seen_calls K made calls) ≡ []
none_fails K made [] u = refl
none_fails K made (call ∷ calls) u =
    ap (λ b. cond b ((made + 1) ∷ failed_after (made + 1) (seen_calls K (made + 1) calls)) (failed_after (made + 1) (seen_calls K (made + 1) calls))) (u (made + 1) (omega arith) (omega arith))
    ∙ none_fails K (made + 1) calls (λ k l m. u k (omega arith) (omega arith))

-- only the last of them is
last_fails : (K : List ℕ) (made : ℕ) (call : KeeperCall) (calls : List KeeperCall) → Unlisted K made (length calls) → is_listed K (made + suc (length calls)) ≡ true
    → failed_after made (seen_calls K made (call ∷ calls)) ≡ (made + suc (length calls)) ∷ []
last_fails K made call [] u y =
    let e : made + suc zero ≡ made + 1 = omega arith in
    ap (λ b. cond b ((made + 1) ∷ []) []) (subst (λ k. is_listed K k ≡ true) e y) ∙ ap (λ k. k ∷ []) (sym e)
last_fails K made call (next ∷ calls) u y =
    let e : made + suc (suc (length calls)) ≡ made + 1 + suc (length calls) = omega arith in
    ap (λ b. cond b ((made + 1) ∷ failed_after (made + 1) (seen_calls K (made + 1) (next ∷ calls))) (failed_after (made + 1) (seen_calls K (made + 1) (next ∷ calls)))) (u (made + 1) (omega arith) (omega arith))
    ∙ last_fails K (made + 1) next calls (λ k l m. u k (omega arith) (omega arith)) (subst (λ k. is_listed K k ≡ true) e y) ∙ ap (λ k. k ∷ []) (sym e)

differs : (a k : ℕ) → a < k → nat_eq a k ≡ false
differs a k l = grind (arith, nat_tests)

differs_above : (a k : ℕ) → k < a → nat_eq a k ≡ false
differs_above a k l = grind (arith, nat_tests)

same_nat : (k : ℕ) → nat_eq k k ≡ true
same_nat k = grind (arith, nat_tests)

-- numbers within a bound list nothing above it
not_above : (low most k : ℕ) (xs : List ℕ) → RiseWithin low most xs → most < k → is_listed xs k ≡ false
not_above low most k [] r l = refl
not_above low most k (x ∷ xs) r l = let le : x ≤ most = r.1 in ap (λ b. b || is_listed xs k) (differs x k (omega arith)) ∙ not_above x most k xs r.2 l

pub listed_append : (xs ys : List ℕ) (k : ℕ) → is_listed (xs ++ ys) k ≡ (is_listed xs k || is_listed ys k)
listed_append [] ys k = refl
listed_append (x ∷ xs) ys k = elim (nat_eq x k) as (λ b. (b || is_listed (xs ++ ys) k) ≡ ((b || is_listed xs k) || is_listed ys k)) [ true ↦ refl | false ↦ listed_append xs ys k ]

kept_calm : (made made' ff ff' tf tf' : ℕ) (failed failed' : List ℕ) (fa fa' ta ta' : Option (List Bool)) (calls : List KeeperCall)
    → RiseWithin 0 made failed → failed' ≡ failed → ff' ≡ ff → tf' ≡ tf → Tells calls (answers fa ta) (answers fa' ta') made made' failed'
    → Kept (keepers made failed fa ff ta tf) (keepers made' failed' fa' ff' ta' tf')
kept_calm made made' ff ff' tf tf' failed failed' fa fa' ta ta' calls r e x y t =
    let none : failed_after made (seen_calls failed' made calls) ≡ [] =
    none_fails failed' made calls (λ k l m. ap (λ xs. is_listed xs k) e ∙ not_above 0 made k failed r l) in
    let len : length (failed_after made (seen_calls failed' made calls)) ≡ 0 = ap length none in
    record {
      calls = seen_calls failed' made calls;
      made = t.made ∙ ap (λ n. made + n) (sym (size failed' made calls));
      failed = e ∙ sym (append-nil failed) ∙ ap (λ l. failed ++ l) (sym none);
      files = subst (TellsMore fa fa') (sym (files_of failed' made calls)) t.files;
      tables = subst (TellsMore ta ta') (sym (tables_of failed' made calls)) t.tables;
      rose = (omega arith, omega arith, λ l m. omega arith);
    }

counts_up : (ff ff' tf tf' : ℕ) → (Counted ff ff' ⊎ Counted tf tf') → ff ≤ ff' → tf ≤ tf' → ff' < last_count → tf' < last_count → (ff + tf) + 1 ≤ ff' + tf'
counts_up ff ff' tf tf' (inl c) x y l m = let r : min (ff + 1) last_count ≤ ff' = c.1 in omega arith
counts_up ff ff' tf tf' (inr c) x y l m = let r : min (tf + 1) last_count ≤ tf' = c.1 in omega arith

kept_blamed : (made made' ff ff' tf tf' : ℕ) (failed failed' : List ℕ) (fa fa' ta ta' : Option (List Bool)) (calls : List KeeperCall)
    → RiseWithin 0 made failed → made < made' → failed' ≡ failed ++ made' ∷ [] → (Counted ff ff' ⊎ Counted tf tf') → ff ≤ ff' → tf ≤ tf'
    → Tells calls (answers fa ta) (answers fa' ta') made made' failed'
    → Kept (keepers made failed fa ff ta tf) (keepers made' failed' fa' ff' ta' tf')
kept_blamed made made' ff ff' tf tf' failed failed' fa fa' ta ta' [] r up e c x y t = absurd (let m : made' ≡ made + 0 = t.made in omega arith)
kept_blamed made made' ff ff' tf tf' failed failed' fa fa' ta ta' (call ∷ calls) r up e c x y t =
    let top : made + suc (length calls) ≡ made' = sym t.made in
    let free : Unlisted failed' made (length calls) = λ k l m. ap (λ xs. is_listed xs k) e ∙ listed_append failed (made' ∷ []) k
    ∙ ap (λ b. b || (nat_eq made' k || false)) (not_above 0 made k failed r l) ∙ ap (λ b. b || false) (differs_above made' k (omega arith)) in
    let hit : is_listed failed' (made + suc (length calls)) ≡ true = ap (λ k. is_listed failed' k) top ∙ ap (λ xs. is_listed xs made') e ∙ listed_append failed (made' ∷ []) made'
    ∙ ap (λ b. b || (nat_eq made' made' || false)) (not_above 0 made made' failed r up) ∙ ap (λ b. b || false) (same_nat made') in
    let one : failed_after made (seen_calls failed' made (call ∷ calls)) ≡ made' ∷ [] = last_fails failed' made call calls free hit ∙ ap (λ k. k ∷ []) top in
    let len : length (failed_after made (seen_calls failed' made (call ∷ calls))) ≡ 1 = ap length one in
    record {
      calls = seen_calls failed' made (call ∷ calls);
      made = t.made ∙ ap (λ n. made + n) (sym (size failed' made (call ∷ calls)));
      failed = e ∙ ap (λ l. failed ++ l) (sym one);
      files = subst (TellsMore fa fa') (sym (files_of failed' made (call ∷ calls))) t.files;
      tables = subst (TellsMore ta ta') (sym (tables_of failed' made (call ∷ calls))) t.tables;
      rose = (x, y, λ l m. (let s : (ff + tf) + 1 ≤ ff' + tf' = counts_up ff ff' tf tf' c x y l m in omega arith));
    }

-- the calls of a request, as the site tells of them
pub request_kept : (made made' ff ff' tf tf' : ℕ) (failed failed' : List ℕ) (fa fa' ta ta' : Option (List Bool))
    → RiseWithin 0 made failed → Blames made failed (faults ff tf) made' failed' (faults ff' tf') → (ff ≤ ff') × (tf ≤ tf')
    → ((calls : List KeeperCall) × Tells calls (answers fa ta) (answers fa' ta') made made' failed')
    → Kept (keepers made failed fa ff ta tf) (keepers made' failed' fa' ff' ta' tf')
request_kept made made' ff ff' tf tf' failed failed' fa fa' ta ta' r (inl b) x t =
    kept_calm made made' ff ff' tf tf' failed failed' fa fa' ta ta' t.0 r b.0 (ap (λ (f : Faults). f.files) b.1) (ap (λ (f : Faults). f.tables) b.1) t.1
request_kept made made' ff ff' tf tf' failed failed' fa fa' ta ta' r (inr b) x t =
    kept_blamed made made' ff ff' tf tf' failed failed' fa fa' ta ta' t.0 r b.1 b.0 b.2 x.0 x.1 t.1

-- no number follows those of the calls that failed
pub later_self : (made : ℕ) (failed : List ℕ) → Later made failed failed
later_self made failed = record { more = []; is = sym (append-nil failed); above = All-nil (λ k. made < k) }

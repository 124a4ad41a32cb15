-- Keeper calls, one after another.
use Rattle.std.proofs.Common.{◌≡◌, ℕ, zero, suc, ◌+◌, ◌<◌, ◌≤◌, Bool, true, false, cond, List, [], ◌∷◌, ◌++◌, length, Option, Some, None, All, refl, sym, ap, ◌∙◌, arith, append_assoc, length-append, subst}
use Rattle.std.proofs.lemmas.List.{append-nil}
use Rattle.std.proofs.lemmas.List.Elements.{All-nil, All-cons, All-append}
use Rattle.resin_site.specs.Under.base.Causes.{TellsMore, last_count}
use Rattle.resin_site.specs.Under.base.Numbering.{RiseWithin}
use Rattle.resin_site.specs.Keeping.{Later}
use Rattle.resin_serve.specs.Kept.{Call, failed_after, of_files, of_tables, Keepers, RoseBy, Kept}

pub tells_none : (a : Option (List Bool)) → TellsMore a a []
tells_none None = tt
tells_none (Some xs) = sym (append-nil xs)

pub tells_then : (a b c : Option (List Bool)) (x y : List Bool) → TellsMore a b x → TellsMore b c y → TellsMore a c (x ++ y)
tells_then a b None x y h k = tt
tells_then None None (Some zs) x y h k = absurd k
tells_then None (Some ys) (Some zs) x y h k = absurd h
tells_then (Some xs) None (Some zs) x y h k = absurd k
tells_then (Some xs) (Some ys) (Some zs) x y h k = k ∙ ap (λ l. l ++ y) h ∙ append_assoc xs x y

files_append : (cs ds : List Call) → of_files (cs ++ ds) ≡ of_files cs ++ of_files ds
files_append [] ds = refl
files_append (c ∷ cs) ds = elim c.on_tables as (λ b. cond b (of_files (cs ++ ds)) (c.failed ∷ of_files (cs ++ ds)) ≡ cond b (of_files cs) (c.failed ∷ of_files cs) ++ of_files ds) [
  | true ↦ files_append cs ds
  | false ↦ ap (λ l. c.failed ∷ l) (files_append cs ds)
]

tables_append : (cs ds : List Call) → of_tables (cs ++ ds) ≡ of_tables cs ++ of_tables ds
tables_append [] ds = refl
tables_append (c ∷ cs) ds = elim c.on_tables as (λ b. cond b (c.failed ∷ of_tables (cs ++ ds)) (of_tables (cs ++ ds)) ≡ cond b (c.failed ∷ of_tables cs) (of_tables cs) ++ of_tables ds) [
  | true ↦ ap (λ l. c.failed ∷ l) (tables_append cs ds)
  | false ↦ tables_append cs ds
]

failed_append : (made : ℕ) (cs ds : List Call) → failed_after made (cs ++ ds) ≡ failed_after made cs ++ failed_after (made + length cs) ds
failed_append made [] ds = let e : made ≡ made + 0 = omega arith in ap (λ k. failed_after k ds) e
failed_append made (c ∷ cs) ds =
    let e : made + 1 + length cs ≡ made + suc (length cs) = omega arith in
    let h : failed_after (made + 1) (cs ++ ds) ≡ failed_after (made + 1) cs ++ failed_after (made + suc (length cs)) ds =
    failed_append (made + 1) cs ds ∙ ap (λ k. failed_after (made + 1) cs ++ failed_after k ds) e in
    elim c.failed as (λ b. cond b ((made + 1) ∷ failed_after (made + 1) (cs ++ ds)) (failed_after (made + 1) (cs ++ ds))
    ≡ cond b ((made + 1) ∷ failed_after (made + 1) cs) (failed_after (made + 1) cs) ++ failed_after (made + suc (length cs)) ds) [
      | true ↦ ap (λ l. (made + 1) ∷ l) h
      | false ↦ h
    ]

rose_then : (a b c : Keepers) (x y : ℕ) → RoseBy a b x → RoseBy b c y → RoseBy a c (x + y)
rose_then a b c x y h k =
    let p : a.file_faults ≤ b.file_faults = h.0 in
    let q : b.file_faults ≤ c.file_faults = k.0 in
    let r : a.table_faults ≤ b.table_faults = h.1 in
    let t : b.table_faults ≤ c.table_faults = k.1 in (
      omega arith,
      omega arith,
      λ l m. (let i : (b.file_faults + b.table_faults) + y ≤ c.file_faults + c.table_faults = k.2 l m in
          let j : (a.file_faults + a.table_faults) + x ≤ b.file_faults + b.table_faults = h.2 (omega arith) (omega arith) in omega arith),
    )

-- no call was made
pub kept_none : (k : Keepers) → Kept k k
kept_none k = record {
  calls = [];
  made = omega arith;
  failed = sym (append-nil k.failed);
  files = tells_none k.file_answers;
  tables = tells_none k.table_answers;
  rose = (omega arith, omega arith, λ l m. omega arith);
}

pub kept_then : (a b c : Keepers) → Kept a b → Kept b c → Kept a c
kept_then a b c h k =
    let m : b.made ≡ a.made + length h.calls = h.made in
    let n : c.made ≡ b.made + length k.calls = k.made in
    let sizes : length (failed_after a.made h.calls) + length (failed_after b.made k.calls) ≡ length (failed_after a.made (h.calls ++ k.calls)) =
    sym (ap length (failed_append a.made h.calls k.calls) ∙ length-append (failed_after a.made h.calls) _ ∙ ap (λ i. length (failed_after a.made h.calls) + length (failed_after i k.calls)) (sym m)) in
    record {
      calls = h.calls ++ k.calls;
      made = omega (arith, length-append h.calls k.calls);
      failed = k.failed ∙ ap (λ l. l ++ failed_after b.made k.calls) h.failed ∙ append_assoc a.failed _ _
          ∙ ap (λ l. a.failed ++ l) (ap (λ i. failed_after a.made h.calls ++ failed_after i k.calls) m ∙ sym (failed_append a.made h.calls k.calls));
      files = subst (TellsMore a.file_answers c.file_answers) (sym (files_append h.calls k.calls)) (tells_then a.file_answers b.file_answers c.file_answers _ _ h.files k.files);
      tables = subst (TellsMore a.table_answers c.table_answers) (sym (tables_append h.calls k.calls)) (tells_then a.table_answers b.table_answers c.table_answers _ _ h.tables k.tables);
      rose = subst (RoseBy a c) (let l : length (failed_after a.made h.calls) + length (failed_after b.made k.calls) ≡ length (failed_after a.made (h.calls ++ k.calls)) = sizes in l)
          (rose_then a b c _ _ h.rose k.rose);
    }

above_more : (made : ℕ) (cs : List Call) → All (λ k. made < k) (failed_after made cs)
above_more made [] = All-nil (λ k. made < k)
above_more made (c ∷ cs) =
    let h : All (λ k. made < k) (failed_after (made + 1) cs) = λ i d l. (let up : made + 1 < Rattle.std.proofs.Common.get_or (failed_after (made + 1) cs) i d = above_more (made + 1) cs i d l in omega arith) in
    elim c.failed as (λ b. All (λ k. made < k) (cond b ((made + 1) ∷ failed_after (made + 1) cs) (failed_after (made + 1) cs))) [
      | true ↦ All-cons (λ k. made < k) (made + 1) _ (omega arith) h
      | false ↦ h
    ]

-- what comes later than now comes later than before
pub passes : (a b : Keepers) → Kept a b → (K : List ℕ) → Later b.made b.failed K → Later a.made a.failed K
passes a b h K k =
    let m : b.made ≡ a.made + length h.calls = h.made in
    record {
      more = failed_after a.made h.calls ++ k.more;
      is = k.is ∙ ap (λ l. l ++ k.more) h.failed ∙ append_assoc a.failed _ k.more;
      above = All-append (λ k. a.made < k) (failed_after a.made h.calls) k.more (above_more a.made h.calls)
          (λ i d l. (let up : b.made < Rattle.std.proofs.Common.get_or k.more i d = k.above i d l in omega arith));
    }

-- the numbers of failed calls rise, and are those of calls made
rises : (above made : ℕ) (cs : List Call) → above ≤ made → RiseWithin above (made + length cs) (failed_after made cs)
rises above made [] l = tt
rises above made (c ∷ cs) l =
    let e : made + 1 + length cs ≡ made + suc (length cs) = omega arith in
    let next : (a : ℕ) → a ≤ made + 1 → RiseWithin a (made + suc (length cs)) (failed_after (made + 1) cs) =
    λ a k. subst (λ m. RiseWithin a m (failed_after (made + 1) cs)) e (rises a (made + 1) cs k) in
    elim c.failed as (λ b. RiseWithin above (made + suc (length cs)) (cond b ((made + 1) ∷ failed_after (made + 1) cs) (failed_after (made + 1) cs))) [
      | true ↦ (omega arith, omega arith, next (made + 1) (omega arith))
      | false ↦ next above (omega arith)
    ]

pub numbered : (a b : Keepers) → Kept a b → a.made ≡ 0 → a.failed ≡ [] → RiseWithin 0 b.made b.failed
numbered a b h z n =
    let m : b.made ≡ 0 + length h.calls = h.made ∙ ap (λ k. k + length h.calls) z in
    subst (λ l. RiseWithin 0 b.made l) (sym (h.failed ∙ ap (λ l. l ++ failed_after a.made h.calls) n ∙ ap (λ k. failed_after k h.calls) z))
    (subst (λ k. RiseWithin 0 k (failed_after 0 h.calls)) (sym m) (rises 0 0 h.calls (omega arith)))

-- they are at most as many as the counts rose by
pub as_many : (a b : Keepers) → Kept a b → a.failed ≡ [] → b.file_faults < last_count → b.table_faults < last_count
    → length b.failed + (a.file_faults + a.table_faults) ≤ b.file_faults + b.table_faults
as_many a b h n f t =
    let e : length b.failed ≡ length (failed_after a.made h.calls) = ap length (h.failed ∙ ap (λ l. l ++ failed_after a.made h.calls) n) in
    let x : (a.file_faults + a.table_faults) + length (failed_after a.made h.calls) ≤ b.file_faults + b.table_faults = h.rose.2 f t in
    omega arith

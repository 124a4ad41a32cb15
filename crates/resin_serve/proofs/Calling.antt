-- The keeper calls of a run, one answer after another.
use Rattle.std.proofs.Common.{◌≡◌, ℕ, suc, ◌+◌, ◌<◌, ◌≤◌, ◌==◌, Bool, true, false, cond, ◌||◌, List, [], ◌∷◌, ◌++◌, length, All, sym, ap, ◌∙◌, arith, append_assoc, length-append, subst, refl}
use Rattle.std.proofs.lemmas.List.Elements.{All-head, All-tail}
use Rattle.resin_site.specs.Under.base.Causes.{TellsMore, is_listed}
use Rattle.resin_site.specs.Under.meaning.Programs.{KeeperCall}
use Rattle.resin_site.specs.Under.meaning.Runs.{failures, is_on}
use Rattle.resin_site.specs.Keeping.{Later, St, Tells}
use Rattle.resin_serve.specs.Meaning.{Meaning, Owed, reply, after_of, calls_of}
use Rattle.resin_serve.specs.Ran.{World, Called}
use Rattle.resin_serve.proofs.Keeping.{tells_none, tells_then}
use Rattle.resin_serve.proofs.Request_kept.{listed_append}

-- the failures among calls and those after them
failures_append : (t : Bool) (K : List ℕ) (made : ℕ) (a b : List KeeperCall) → failures t K made (a ++ b) ≡ failures t K made a ++ failures t K (made + length a) b
failures_append t K made [] b = let e : made ≡ made + 0 = omega arith in ap (λ n. failures t K n b) e
failures_append t K made (c ∷ a) b =
    let e : made + 1 + length a ≡ made + suc (length a) = omega arith in
    let h : failures t K (made + 1) (a ++ b) ≡ failures t K (made + 1) a ++ failures t K (made + suc (length a)) b =
    failures_append t K (made + 1) a b ∙ ap (λ n. failures t K (made + 1) a ++ failures t K n b) e in
    elim (is_on t c) as (λ on. cond on (is_listed K (made + 1) ∷ failures t K (made + 1) (a ++ b)) (failures t K (made + 1) (a ++ b))
    ≡ cond on (is_listed K (made + 1) ∷ failures t K (made + 1) a) (failures t K (made + 1) a) ++ failures t K (made + suc (length a)) b) [
      | true ↦ ap (λ l. is_listed K (made + 1) ∷ l) h
      | false ↦ h
    ]

-- numbers that say the same of these calls tell the same failures
failures_agree : (t : Bool) (p q : List ℕ) (made : ℕ) (a : List KeeperCall) → ((k : ℕ) → k ≤ made + length a → is_listed p k ≡ is_listed q k) → failures t p made a ≡ failures t q made a
failures_agree t p q made [] same = refl
failures_agree t p q made (c ∷ a) same =
    let h : failures t p (made + 1) a ≡ failures t q (made + 1) a = failures_agree t p q (made + 1) a (λ k le. same k (omega arith)) in
    let l : is_listed p (made + 1) ≡ is_listed q (made + 1) = same (made + 1) (omega arith) in
    ap (λ b. cond (is_on t c) (b ∷ failures t p (made + 1) a) (failures t p (made + 1) a)) l
    ∙ ap (λ xs. cond (is_on t c) (is_listed q (made + 1) ∷ xs) xs) h

above_not : (made n k : ℕ) → made < k → n ≤ made → (k == n) ≡ false
above_not made n k above below = grind arith

-- larger numbers don't list a smaller one
above_unlisted : (made n : ℕ) (more : List ℕ) → All (λ k. made < k) more → n ≤ made → is_listed more n ≡ false
above_unlisted made n [] above below = refl
above_unlisted made n (k ∷ more) above below =
    ap (λ b. b || is_listed more n) (above_not made n k (All-head (λ j. made < j) k more above) below)
    ∙ above_unlisted made n more (All-tail (λ j. made < j) k more above) below

or_false : (b : Bool) → (b || false) ≡ b
or_false true = refl
or_false false = refl

-- numbers that go on from those of the calls so far say the same of these calls
same_failures : (made : ℕ) (failed K : List ℕ) → Later made failed K → (k : ℕ) → k ≤ made → is_listed failed k ≡ is_listed K k
same_failures made failed K later k le =
    sym (ap (λ xs. is_listed xs k) later.is ∙ listed_append failed later.more k
    ∙ ap (λ b. is_listed failed k || b) (above_unlisted made k later.more later.above le) ∙ or_false (is_listed failed k))

-- what is told of calls by the numbers so far is told by those that go on from them
pub called_by : (K failed : List ℕ) (calls : List KeeperCall) (old new : World) → Later new.made failed K → Tells calls old.told new.told old.made new.made failed → Called K calls old new
called_by K failed calls old new later h =
    let m : new.made ≡ old.made + length calls = h.made in
    let same : (k : ℕ) → k ≤ old.made + length calls → is_listed failed k ≡ is_listed K k = λ k le. same_failures new.made failed K later k (omega arith) in
    record {
      made = h.made;
      files = subst (TellsMore old.told.files new.told.files) (failures_agree false failed K old.made calls same) h.files;
      tables = subst (TellsMore old.told.tables new.told.tables) (failures_agree true failed K old.made calls same) h.tables;
    }

pub called_none : (K : List ℕ) (w : World) → Called K [] w w
called_none K w = record { made = omega arith; files = tells_none w.told.files; tables = tells_none w.told.tables }

pub called_then : (K : List ℕ) (xs ys : List KeeperCall) (a b c : World) → Called K xs a b → Called K ys b c → Called K (xs ++ ys) a c
called_then K xs ys a b c h k =
    let m : b.made ≡ a.made + length xs = h.made in
    let n : c.made ≡ b.made + length ys = k.made in
    let both : (t : Bool) → failures t K a.made xs ++ failures t K b.made ys ≡ failures t K a.made (xs ++ ys) =
    λ t. ap (λ i. failures t K a.made xs ++ failures t K i ys) m ∙ sym (failures_append t K a.made xs ys) in
    record {
      made = omega (arith, length-append xs ys);
      files = subst (TellsMore a.told.files c.told.files) (both false) (tells_then a.told.files b.told.files c.told.files _ _ h.files k.files);
      tables = subst (TellsMore a.told.tables c.told.tables) (both true) (tells_then a.told.tables b.told.tables c.told.tables _ _ h.tables k.tables);
    }

-- the calls of answers and of those after them
pub calls_append : (R : Meaning) (K : List ℕ) (s : St) (n m : ℕ) (xs ys : List Owed) → m ≡ n + length xs
    → calls_of R K s n (xs ++ ys) ≡ calls_of R K s n xs ++ calls_of R K (after_of R K s n xs) m ys
calls_append R K s n m [] ys e = let f : n ≡ m = omega arith in ap (λ k. calls_of R K s k ys) f
calls_append R K s n m (x ∷ xs) ys e =
    ap (λ l. (reply R K s n x).is.calls ++ l) (calls_append R K (reply R K s n x).after (n + 1) m xs ys (omega arith))
    ∙ sym (append_assoc (reply R K s n x).is.calls _ _)

-- the calls of answers, and then those of answers after them
pub called_on : (R : Meaning) (K : List ℕ) (s : St) (n m : ℕ) (xs ys : List Owed) (a b c : World) → m ≡ n + length xs
    → Called K (calls_of R K s n xs) a b → Called K (calls_of R K (after_of R K s n xs) m ys) b c → Called K (calls_of R K s n (xs ++ ys)) a c
called_on R K s n m xs ys a b c e h k =
    subst (λ l. Called K l a c) (sym (calls_append R K s n m xs ys e)) (called_then K (calls_of R K s n xs) _ a b c h k)

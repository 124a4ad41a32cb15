-- From what a program's run does to the keepers and the calls, to what the site says of them.
use Rattle.std.proofs.Common.{◌≡◌, ◌≢◌, ℕ, ◌+◌, ◌<◌, ◌≤◌, ◌==◌, Bool, true, false, ◌||◌, List, [], ◌∷◌, ◌++◌, length, Option, Some, None, Result, Ok, Err, refl, sym, ap, ◌∙◌, arith, append_assoc, append-nil, ◌⊎◌, inl, inr}
use Rattle.std.specs.Prelude.{All, ⊤}
use Rattle.std.specs.List.{list_any}
use Rattle.std.specs.Option.{option_map}
use Rattle.std.proofs.lemmas.List.Folds.{list_any-append}
use Rattle.std.proofs.lemmas.List.Elements.{All-head, All-tail, All-cons}
use Rattle.resin_request.specs.Under.base.Causes.{is_listed, Counted, TellsMore}
use Rattle.resin_request.specs.Under.base.FileStore.{FileStore}
use Rattle.resin_request.specs.Under.base.TableStore.{TableStore}
use Rattle.resin_request.specs.Under.store.Files.{LabelledFiles, lift_files, plain_files}
use Rattle.resin_request.specs.Under.base.Numbering.{AreNumbered}
use Rattle.resin_request.specs.Under.machine.declared.stop.Stop.{Stop}
use Rattle.resin_request.specs.Under.machine.declared.stop.Stop.TheVariants.{Thrown, Exit, Fault, Keeper, Memory}
use Rattle.resin_request.specs.Under.meaning.Programs.{Prog}
use Rattle.resin_request.specs.Under.meaning.Runs.{World, Goes, NoneFailed, LastFailed, Agrees, Does, done}
use Rattle.resin_request.specs.Under.meaning.Runs as runs
use Rattle.resin_request.proofs.meaning_lemmas.Composition.{numbered_after}
use Rattle.resin_request.proofs.meaning_lemmas.OneCall.{kept_files}
use Rattle.resin_site.specs.Keeping.{Store, WhereTold, TellsWhatIsHeld, store_of, Later, Passes, Faults, faults, Blames, answers, Tells}

above_not : (made n k : ℕ) → made < k → n ≤ made → (k == n) ≡ false
above_not made n k above below = grind arith

-- larger numbers don't list a smaller one
above_unlisted : (made n : ℕ) (more : List ℕ) → All (λ k. made < k) more → n ≤ made → is_listed more n ≡ false
above_unlisted made n [] above below = refl
above_unlisted made n (k ∷ more) above below =
    ap (λ b. b || is_listed more n) (above_not made n k (All-head (λ j. made < j) k more above) below)
    ∙ above_unlisted made n more (All-tail (λ j. made < j) k more above) below

or_false : (b : Bool) → (b || false) ≡ b
or_false true = refl
or_false false = refl

-- numbers that go on from those listed say the same of the calls made so far
pub agrees : (K : List ℕ) (w : World) → Later w.calls.made w.calls.failed K → Agrees K w
agrees K w later k le =
    ap (λ xs. is_listed xs k) later.is
    ∙ list_any-append (λ x. x == k) w.calls.failed later.more
    ∙ ap (λ b. is_listed w.calls.failed k || b) (above_unlisted w.calls.made k later.more later.above le)
    ∙ or_false (is_listed w.calls.failed k)

above_weaker : (made made' : ℕ) (ks : List ℕ) → made ≤ made' → All (λ k. made' < k) ks → All (λ k. made < k) ks
above_weaker made made' ks le h = λ i d l. (let up : made' < Rattle.std.proofs.Common.get_or ks i d = h i d l in omega arith)

-- however the numbers go on after the steps, they go on so before them
pub passes : {A : Type 0} (r : Result A Stop) (u w : World) → u.calls.made ≤ w.calls.made → runs.Blames r u w → Passes u.calls.made u.calls.failed w.calls.made w.calls.failed
passes {A = A} r u w le b = cases r b
  where
    none : NoneFailed u w → Passes u.calls.made u.calls.failed w.calls.made w.calls.failed
    none h = λ K later. record {
      more = later.more;
      is = later.is ∙ ap (λ xs. xs ++ later.more) h.failed;
      above = above_weaker u.calls.made w.calls.made later.more le later.above;
    }

    last : LastFailed u w → Passes u.calls.made u.calls.failed w.calls.made w.calls.failed
    last h = λ K later. record {
      more = w.calls.made ∷ later.more;
      is = later.is ∙ ap (λ xs. xs ++ later.more) h.failed ∙ append_assoc u.calls.failed (w.calls.made ∷ []) later.more;
      above = All-cons (λ k. u.calls.made < k) w.calls.made later.more h.made (above_weaker u.calls.made w.calls.made later.more le later.above);
    }

    cases : (r : Result A Stop) → runs.Blames r u w → Passes u.calls.made u.calls.failed w.calls.made w.calls.failed
    cases (Ok v) h = none h
    cases (Err (Thrown o)) h = none h
    cases (Err Exit) h = none h
    cases (Err (Fault f line)) h = none h
    cases (Err Keeper) h = last h
    cases (Err Memory) h = none h

-- the last call alone is blamed, and its keeper's count rose
pub blames : {A : Type 0} (r : Result A Stop) (u w : World) → runs.Blames r u w
    → Blames u.calls.made u.calls.failed (faults u.files.faults u.tables.faults) w.calls.made w.calls.failed (faults w.files.faults w.tables.faults)
blames {A = A} r u w b = cases r b
  where
    Goal : Type 0
    Goal = Blames u.calls.made u.calls.failed (faults u.files.faults u.tables.faults) w.calls.made w.calls.failed (faults w.files.faults w.tables.faults)

    none : NoneFailed u w → Blames u.calls.made u.calls.failed (faults u.files.faults u.tables.faults) w.calls.made w.calls.failed (faults w.files.faults w.tables.faults)
    none h = inl (h.failed, ap (λ x. faults x w.tables.faults) h.files ∙ ap (λ x. faults u.files.faults x) h.tables)

    rose : (Counted u.files.faults w.files.faults × (w.tables.faults ≡ u.tables.faults)) ⊎ ((w.files.faults ≡ u.files.faults) × Counted u.tables.faults w.tables.faults)
        → Counted u.files.faults w.files.faults ⊎ Counted u.tables.faults w.tables.faults
    rose (inl h) = inl h.0
    rose (inr h) = inr h.1

    cases : (r : Result A Stop) → runs.Blames r u w → Blames u.calls.made u.calls.failed (faults u.files.faults u.tables.faults) w.calls.made w.calls.failed (faults w.files.faults w.tables.faults)
    cases (Ok v) h = none h
    cases (Err (Thrown o)) h = none h
    cases (Err Exit) h = none h
    cases (Err (Fault f line)) h = none h
    cases (Err Keeper) h = inr (h.failed, h.made, rose h.rose)
    cases (Err Memory) h = none h

same_le : (a b : ℕ) → b ≡ a → a ≤ b
same_le a b e = omega arith

-- no count of faults falls
pub counted : {A : Type 0} (r : Result A Stop) (u w : World) → runs.Blames r u w → (u.files.faults ≤ w.files.faults) × (u.tables.faults ≤ w.tables.faults)
counted {A = A} r u w b = cases r b
  where
    none : NoneFailed u w → (u.files.faults ≤ w.files.faults) × (u.tables.faults ≤ w.tables.faults)
    none h = (same_le u.files.faults w.files.faults h.files, same_le u.tables.faults w.tables.faults h.tables)

    rose : (Counted u.files.faults w.files.faults × (w.tables.faults ≡ u.tables.faults)) ⊎ ((w.files.faults ≡ u.files.faults) × Counted u.tables.faults w.tables.faults)
        → (u.files.faults ≤ w.files.faults) × (u.tables.faults ≤ w.tables.faults)
    rose (inl h) = (h.0.0, same_le u.tables.faults w.tables.faults h.1)
    rose (inr h) = (same_le u.files.faults w.files.faults h.0, h.1.0)

    cases : (r : Result A Stop) → runs.Blames r u w → (u.files.faults ≤ w.files.faults) × (u.tables.faults ≤ w.tables.faults)
    cases (Ok v) h = none h
    cases (Err (Thrown o)) h = none h
    cases (Err Exit) h = none h
    cases (Err (Fault f line)) h = none h
    cases (Err Keeper) h = rose h.rose
    cases (Err Memory) h = none h

pub made_up : (u w : World) → Goes u w → u.calls.made ≤ w.calls.made
made_up u w g = let e : w.calls.made ≡ u.calls.made + length g.calls = g.made in omega arith

-- the calls of the steps are told
pub tells : (u w : World) → AreNumbered u.calls → (g : Goes u w)
    → Tells g.calls (answers u.files.answers u.tables.answers) (answers w.files.answers w.tables.answers) u.calls.made w.calls.made w.calls.failed
tells u w n g = record { made = g.made; files = g.files n; tables = g.tables n }

tells_nothing : (a : Option (List Bool)) → TellsMore a a []
tells_nothing None = tt
tells_nothing (Some xs) = sym (append-nil xs)

-- no call was made
pub tells_none : (files tables : Option (List Bool)) (made : ℕ) (failed : List ℕ) → Tells [] (answers files tables) (answers files tables) made made failed
tells_none files tables made failed = record { made = omega arith; files = tells_nothing files; tables = tells_nothing tables }

pub later_self : (made : ℕ) (failed : List ℕ) → Passes made failed made failed
later_self made failed = λ K later. later

some_none : {A : Type 0} (a : A) → Some a ≡ None → ⊥
some_none a e = absurd (cc)

some_is : {A : Type 0} (a b : A) → Some a ≡ Some b → a ≡ b
some_is a b e = cc

abbrev store : LabelledFiles → TableStore → Store
store files tables = record { files = files; tables = tables }

-- what both keepers hold, where they tell it
pub where_stored : (x : Option FileStore) (y : Option TableStore) (P : Store → Type 0) → ((s : Store) → Some s.files ≡ option_map lift_files x → Some s.tables ≡ y → P s) → WhereTold (store_of x y) P
where_stored None y P f = tt
where_stored (Some files) None P f = tt
where_stored (Some files) (Some tables) P f = f (store (lift_files files) tables) refl refl

pub stored_as : (x : Option FileStore) (y : Option TableStore) (s : Store) → Some s.files ≡ option_map lift_files x → Some s.tables ≡ y → store_of x y ≡ Some s
stored_as None y s ex ey = absurd (some_none s.files ex)
stored_as (Some files) None s ex ey = absurd (some_none s.tables ey)
stored_as (Some files) (Some tables) s ex ey =
    ap (λ (f : LabelledFiles). Some (store f tables)) (sym (some_is s.files (lift_files files) ex))
    ∙ ap (λ (t : TableStore). Some (store s.files t)) (sym (some_is s.tables tables ey))

-- the keepers hold what is plain of the store
pub tells_what_is_held : TellsWhatIsHeld
tells_what_is_held None tables s e = absurd (some_none s (sym e))
tells_what_is_held (Some files) None s e = absurd (some_none s (sym e))
tells_what_is_held (Some files) (Some tables) s e =
    let same : store (lift_files files) tables ≡ s = some_is (store (lift_files files) tables) s e in
    (ap Some (sym (kept_files files) ∙ ap (λ (u : Store). plain_files u.files) same), ap (λ (u : Store). Some u.tables) same)

-- The sets of a table and its runs, apart.
use Rattle.std.proofs.Common.{◌≡◌, ℕ, zero, suc, ◌+◌, ◌<◌, ◌≤◌, List, [], ◌∷◌, ◌++◌, length, map, take, slice_get, get_or, None, Some, Result, Ok, Err, refl, sym, ap, ◌∙◌, arith, append_assoc, append-nil}
use Rattle.std.specs.Prelude.{Option, OnOk, replicate}
use Rattle.std.specs.List.{flat_map}
use Rattle.std.specs.Option.{option_map, option_map_or, option_to_list}
use Rattle.std.proofs.lemmas.Option.{slice_get_past, slice_get_read, slice_get-map}
use Rattle.resin_frozen.proofs.Numbers.{none_some}
use Rattle.resin_shadow.specs.declared.table.FrozenRun.{FrozenRun}
use Rattle.resin_shadow.specs.declared.table.Kind.{Kind}
use Rattle.resin_shadow.specs.declared.table.Table.{Table}
use Rattle.resin_shadow.specs.Marks.{TextSet, Marks, Each, policies}
use Rattle.resin_shadow.specs.Shadows.{places}
use Rattle.resin_shadow.specs.Runs.{run_of, marks_of, set_of, Related, HasNumber, IsKind, IsTable}
use Rattle.resin_shadow.specs.Printed.{sets_met, texts_met, rising}
use Rattle.resin_shadow.specs.Parts.{PlacedRun, run_spelled, spelled_by, texts_at}
use Rattle.resin_shadow.proofs.First_met.{texts_related, numbered_is}
use Rattle.resin_shadow.proofs.Places.{AreIn}
use Rattle.resin_shadow.proofs.Encoded.{rising_is, runs_in}
use Rattle.resin_shadow.proofs.Loops.{take_next}

-- the texts that numbers stand for are those at their places
pub texts_found : (texts : List (List ℕ)) (ns : List ℕ) (ts : List (List ℕ)) → Related (HasNumber texts) ns ts → texts_at texts ns ≡ ts
texts_found texts [] [] h = refl
texts_found texts [] (t ∷ ts) h = absurd h
texts_found texts (n ∷ ns) [] h = absurd h
texts_found texts (n ∷ ns) (t ∷ ts) h = ap (λ o. option_to_list o ++ texts_at texts ns) h.0 ∙ ap (λ us. t ∷ us) (texts_found texts ns ts h.1)

slice_of_map : {X Y : Type 0} (f : X → Y) (xs : List X) (n : ℕ) (x : X) → slice_get xs n ≡ Some x → slice_get (map f xs) n ≡ Some (f x)
slice_of_map f [] n x e = absurd (none_some x e)
slice_of_map f (y ∷ xs) zero x e = ap (option_map f) e
slice_of_map f (y ∷ xs) (suc n) x e = slice_of_map f xs n x e

map-more : {X Y : Type 0} (f : X → Y) (xs ys : List X) → map f (xs ++ ys) ≡ map f xs ++ map f ys
map-more f [] ys = refl
map-more f (x ∷ xs) ys = ap (λ v. f x ∷ v) (map-more f xs ys)

same_places : (table : List (List ℕ)) (n : ℕ) (s : TextSet) → map (places table) (replicate n s) ≡ replicate n (places table s)
same_places table zero s = refl
same_places table (suc n) s = ap (λ v. places table s ∷ v) (same_places table n s)

module _ (t : Table) (h : IsTable t) where
  abbrev V : Marks
  V = marks_of t.runs.items

  abbrev M : List ℕ
  M = texts_met t.sets.keys (sets_met t.runs.items)

  -- the runs of a table, by the places of their sets
  runs_apart : (rs : List FrozenRun) → Each (λ r. IsKind t r.kind r.set) rs → Each (λ r. AreIn (policies V) r.1) (map run_of rs)
      → spelled_by (map (rising M) t.sets.keys) (map (λ r. (r.len, r.kind)) rs) ≡ map (places (policies V)) (marks_of rs)
  runs_apart [] k i = refl
  runs_apart (r ∷ rs) k i =
      let S = map (rising M) t.sets.keys in
      let known = k.0.0 in
      let at : slice_get S r.kind ≡ Some (places (policies V) r.set) =
      slice_of_map (rising M) t.sets.keys r.kind known.0 known.1
      ∙ ap Some (ap (rising M) (sym (numbered_is t.sets.keys r.kind known.0 known.1)) ∙ rising_is t h r.kind r.set known i.0) in
      ap (λ o. option_map_or (replicate r.len) o [] ++ spelled_by S (map (λ r. (r.len, r.kind)) rs)) at
      ∙ ap (λ v. replicate r.len (places (policies V) r.set) ++ v) (runs_apart rs k.1 i.1)
      ∙ ap (λ v. v ++ map (places (policies V)) (marks_of rs)) (sym (same_places (policies V) r.len r.set))
      ∙ sym (map-more (places (policies V)) (replicate r.len r.set) (marks_of rs))

  pub table_apart : (view : Marks) (ks met : List ℕ) (sets : List (List ℕ)) (runs : List PlacedRun) → V ≡ view → ks ≡ sets_met t.runs.items → met ≡ texts_met t.sets.keys ks → sets ≡ map (rising met) t.sets.keys → runs ≡ map (λ r. (r.len, r.kind)) t.runs.items
      → spelled_by sets runs ≡ map (places (policies view)) view
  table_apart view ks met sets runs v k n s r =
      ap (λ x. spelled_by x runs) (s ∙ ap (λ m. map (rising m) t.sets.keys) (n ∙ ap (texts_met t.sets.keys) k)) ∙ ap (spelled_by (map (rising M) t.sets.keys)) r
      ∙ runs_apart t.runs.items h.kinds_are (runs_in t h) ∙ ap (λ w. map (places (policies w)) w) v

-- the policies of a table in their order
pub policies_found : (t : Table) (view : List TextSet) (ks ns : List ℕ) (texts : List (List ℕ)) → IsTable t → marks_of t.runs.items ≡ view → ks ≡ sets_met t.runs.items → ns ≡ texts_met t.sets.keys ks → texts ≡ texts_at t.texts.keys ns
    → texts ≡ policies view
policies_found t view ks ns texts h v k n e =
    e ∙ ap (texts_at t.texts.keys) (n ∙ ap (texts_met t.sets.keys) k) ∙ texts_found t.texts.keys (texts_met t.sets.keys (sets_met t.runs.items)) (policies (marks_of t.runs.items)) (texts_related t h) ∙ ap policies v

-- ---- loops
flat-more : {X Y : Type 0} (f : X → List Y) (xs ys : List X) → flat_map f (xs ++ ys) ≡ flat_map f xs ++ flat_map f ys
flat-more f [] ys = refl
flat-more f (x ∷ xs) ys = ap (λ v. f x ++ v) (flat-more f xs ys) ∙ sym (append_assoc (f x) (flat_map f xs) (flat_map f ys))

-- what a loop puts together is more by what one turn gives
pub flat_next : {X Y : Type 0} (f : X → List Y) (old now new : List Y) (xs : List X) (i : ℕ) (x : X) → i < length xs → x ≡ get_or xs i x → now ≡ old ++ flat_map f (take i xs) → new ≡ now ++ f x → new ≡ old ++ flat_map f (take (i + 1) xs)
flat_next f old now new xs i x h at e n =
    n ∙ ap (λ v. v ++ f x) e ∙ append_assoc old (flat_map f (take i xs)) (f x)
    ∙ ap (λ v. old ++ v) (sym (ap (flat_map f) (take_next xs i x h ∙ ap (λ y. take i xs ++ y ∷ []) (sym at)) ∙ flat-more f (take i xs) (x ∷ []) ∙ ap (λ z. flat_map f (take i xs) ++ z) (append-nil (f x))))

pub map_next : {X Y : Type 0} (f : X → Y) (now new : List Y) (y : Y) (xs : List X) (i : ℕ) (x : X) → i < length xs → x ≡ get_or xs i x → now ≡ map f (take i xs) → new ≡ now ++ y ∷ [] → y ≡ f x → new ≡ map f (take (i + 1) xs)
map_next f now new y xs i x h at e n is =
    n ∙ ap (λ v. v ++ y ∷ []) e ∙ ap (λ z. map f (take i xs) ++ z ∷ []) is
    ∙ sym (ap (map f) (take_next xs i x h ∙ ap (λ y. take i xs ++ y ∷ []) (sym at)) ∙ map-more f (take i xs) (x ∷ []))

-- the sets, each as the numbers that it holds, and one more
pub lists_next : {L : Type 0} (items_of : L → List ℕ) (now new : List L) (l : L) (f : List ℕ → List ℕ) (xs : List (List ℕ)) (i : ℕ) (x : List ℕ) → i < length xs → x ≡ get_or xs i x → map items_of now ≡ map f (take i xs) → new ≡ now ++ l ∷ [] → items_of l ≡ f x
    → map items_of new ≡ map f (take (i + 1) xs)
lists_next items_of now new l f xs i x h at e n is = map_next f (map items_of now) (map items_of new) (items_of l) xs i x h at e (ap (map items_of) n ∙ map-more items_of now (l ∷ [])) is

-- the sets of kinds, and one more
pub kinds_next : (now new : List Kind) (k : Kind) (lists : List (List (List ℕ))) (i : ℕ) (list : List (List ℕ)) → i < length lists → list ≡ get_or lists i list → map (λ k. k.set) now ≡ map set_of (take i lists) → new ≡ now ++ k ∷ [] → k.set ≡ set_of list
    → map (λ k. k.set) new ≡ map set_of (take (i + 1) lists)
kinds_next now new k lists i list h at e n is =
    map_next set_of (map (λ k. k.set) now) (map (λ k. k.set) new) k.set lists i list h at e (ap (map (λ k. k.set)) n ∙ map-more (λ k. k.set) now (k ∷ [])) is

-- an item of a list is the same whatever stands for none
pub get_same : {X : Type 0} (xs : List X) (i : ℕ) (d e : X) → i < length xs → get_or xs i d ≡ get_or xs i e
get_same [] i d e h = absurd (omega arith)
get_same (x ∷ xs) zero d e h = refl
get_same (x ∷ xs) (suc i) d e h = get_same xs i d e (omega arith)

-- ---- a run by the place of its set

-- no set has the place
pub not_there : (kinds : List Kind) (n place : ℕ) (v : Marks) → length kinds ≤ place → v ≡ v ++ run_spelled (map (λ k. k.set) kinds) (n, place)
not_there kinds n place v h =
    sym (append-nil v)
    ∙ ap (λ o. v ++ option_map_or (replicate n) o []) (sym (slice_get-map (λ k. k.set) kinds place ∙ ap (option_map (λ k. k.set)) (slice_get_past kinds place h)))

-- a set has it
pub is_there : (kinds : List Kind) (n place : ℕ) (k : Kind) (v w : Marks) → place < length kinds → k ≡ get_or kinds place k → w ≡ v ++ replicate n k.set → w ≡ v ++ run_spelled (map (λ k. k.set) kinds) (n, place)
is_there kinds n place k v w lt at is =
    is
    ∙ ap (λ o. v ++ option_map_or (replicate n) o []) (sym (slice_get-map (λ k. k.set) kinds place ∙ ap (option_map (λ k. k.set)) (slice_get_read kinds (length kinds) place k refl lt at)))

pub ok_then : {A E P Q : Type 0} (r : Result A E) → (P → Q) → OnOk r P → OnOk r Q
ok_then (Ok x) f h = f h
ok_then (Err e) f h = h

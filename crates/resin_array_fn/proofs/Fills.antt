-- Arrays that are made of entries, one after the other.
use Rattle.std.proofs.Common.{◌≡◌, ℕ, ◌+◌, ◌-◌, ◌<◌, ◌≤◌, zero, suc, Bool, false, List, [], ◌∷◌, ◌++◌, refl, sym, ap, ◌∙◌, arith, length, take, drop, slice_get, Option, Some, None, Result, Ok, Err, append_assoc, subst}
use Rattle.std.specs.Prelude.{map, reverse, is_some, IsTrue}
use Rattle.std.specs.List.{slice_range}
use Rattle.std.proofs.lemmas.Bool.{true≢false}
use Rattle.std.proofs.lemmas.List.{reverse-append, take_more, take_all}
use Rattle.std.proofs.lemmas.Option.{slice_get_within, get_or_from_slice_get}
use Rattle.resin_ops.specs.Under.lstr.Texts.{Text as LabelledText}
use Rattle.resin_ops.specs.Under.scalar.declared.faults.CallStop.{CallStop}
use Rattle.resin_ops.specs.Under.scalar.declared.faults.CallStop.TheVariants.{Throw, Fault, Memory}
use Rattle.resin_ops.specs.Under.value.declared.key.Key.{Key}
use Rattle.resin_ops.specs.Under.value.Keys.{is_lawful}
use Rattle.resin_ops.specs.Under.value.Trees.{Tree}
use Rattle.resin_ops.specs.Under.value.Arrays.{EntryList, Array}
use Rattle.resin_ops.specs.Under.value.Changes.{AreLawful}
use Rattle.resin_ops.proofs.value_lemmas.Compared.{drop_at}
use Rattle.resin_ops.specs.Conversions.{text_of}
use Rattle.resin_ops.specs.Under.scalar.Stops.{Gives}
use Rattle.resin_text_fn.specs.Stops.{GivesOrNoMemory}
use Rattle.resin_array_fn.specs.Filled.{and_then, Addition, added_at, filled_on, in_order, kept_key, with_kept_keys}
use Rattle.resin_array_fn.specs.Rows.{texts_in, entries_in, merged_on}
use Rattle.resin_array_fn.specs.Searches.{fits, or_on, holds}

-- ---- answers carried on
pub stop_passes : {X Y : Type 0} (stop : CallStop) (r : Result X CallStop) (f : X → Result Y CallStop) → GivesOrNoMemory (Err stop) r → GivesOrNoMemory (Err stop) (and_then r f)
stop_passes (Throw kind) r f h = ap (λ q. and_then q f) h
stop_passes (Fault fault) r f h = ap (λ q. and_then q f) h
stop_passes Memory r f h = tt

pub stop_same : {X : Type 0} (stop : CallStop) (r s : Result X CallStop) → r ≡ s → GivesOrNoMemory (Err stop) r → GivesOrNoMemory (Err stop) s
stop_same (Throw kind) r s e h = sym e ∙ h
stop_same (Fault fault) r s e h = sym e ∙ h
stop_same Memory r s e h = tt

pub goes_on : {X Y : Type 0} (r : Result X CallStop) (f : X → Result Y CallStop) (x : X) → r ≡ Ok x → and_then r f ≡ f x
goes_on r f x h = ap (λ q. and_then q f) h

-- ---- one more value
module _ (a : Array) (o : Option Key) (t : Tree) (es : List Addition) (whole : Result Array CallStop) (so_far : filled_on a ((o, t) ∷ es) ≡ whole) where
  pub addition_stops : (stop : CallStop) → GivesOrNoMemory (Err stop) (added_at o t a) → GivesOrNoMemory (Err stop) whole
  addition_stops stop h = stop_same stop _ whole so_far (stop_passes stop (added_at o t a) (λ b. filled_on b es) h)

  pub addition_goes : (b : Array) → added_at o t a ≡ Ok b → filled_on b es ≡ whole
  addition_goes b h = sym (goes_on (added_at o t a) (λ c. filled_on c es) b h) ∙ so_far

-- the next of the entries that keep their keys
pub kept_front : (keep : Bool) (ds rest : EntryList) (k : Key) (t u : Tree) (a : Array) (whole : Result Array CallStop) → filled_on a (with_kept_keys keep ds) ≡ whole → ds ≡ (k, t) ∷ rest → u ≡ t → filled_on a ((kept_key keep k, u) ∷ with_kept_keys keep rest) ≡ whole
kept_front keep ds rest k t u a whole so_far is same =
    (λ j. filled_on a ((kept_key keep k, same j) ∷ with_kept_keys keep rest))
    ∙ sym (ap (λ es. filled_on a (with_kept_keys keep es)) is) ∙ so_far

-- the next of the values of a list
pub listed_front : {X : Type 0} (f : X → Tree) (ds rest : List X) (x : X) (u : Tree) (a : Array) (whole : Result Array CallStop) → filled_on a (in_order (map f ds)) ≡ whole → ds ≡ x ∷ rest → u ≡ f x → filled_on a ((None, u) ∷ in_order (map f rest)) ≡ whole
listed_front f ds rest x u a whole so_far is same =
    (λ j. filled_on a ((None, same j) ∷ in_order (map f rest)))
    ∙ sym (ap (λ es. filled_on a (in_order (map f es))) is) ∙ so_far

-- ---- parts of lists
pub slice_more : {X : Type 0} (es : List X) (i to : ℕ) (e : X) → slice_get es i ≡ Some e → i < to → slice_range es i to ≡ e ∷ slice_range es (i + 1) to
slice_more es i to e here lt =
    let n : to - i ≡ suc (to - (i + 1)) = omega arith in
    λ q. take (n q) (drop_at es i e here q)

pub slice_end : {X : Type 0} (es : List X) (i to : ℕ) → to ≤ i → slice_range es i to ≡ []
slice_end es i to h = let n : to - i ≡ 0 = omega arith in ap (λ k. take k (drop i es)) n

pub slice_whole : {X : Type 0} (es : List X) (n : ℕ) → n ≡ length es → slice_range es 0 n ≡ es
slice_whole es n e = let m : n - 0 ≡ length es = omega arith in ap (λ k. take k es) m ∙ take_all (length es) es (omega arith)

pub backwards_more : {X : Type 0} (es : List X) (left next : ℕ) (e : X) → left ≡ next + 1 → slice_get es next ≡ Some e → reverse (take left es) ≡ e ∷ reverse (take next es)
backwards_more es left next e is here =
    ap (λ n. reverse (take n es)) is
    ∙ ap reverse (take_more es next e (slice_get_within es next e here))
    ∙ ap (λ x. reverse (take next es ++ x ∷ [])) (get_or_from_slice_get es next e e here)
    ∙ reverse-append (take next es) (e ∷ [])

-- ---- keys that may stand in an array
pub lawful_at : (es : EntryList) (i : ℕ) (k : Key) (t : Tree) → AreLawful es → slice_get es i ≡ Some (k, t) → IsTrue (is_lawful k)
lawful_at [] i k t h here = absurd (true≢false (sym (ap is_some here)))
lawful_at (e ∷ es) zero k t h here = let same : e ≡ (k, t) = cc in subst (λ (p : Key × Tree). IsTrue (is_lawful p.0)) same h.0
lawful_at (e ∷ es) (suc i) k t h here = lawful_at es i k t h.1 here

-- ---- texts one after the other
pub of_gives : {X : Type 0} (stop : CallStop) (r : Result X CallStop) → Gives (Err stop) r → GivesOrNoMemory (Err stop) r
of_gives (Throw kind) r h = h
of_gives (Fault fault) r h = h
of_gives Memory r h = tt

text_more : (x : LabelledText) (xs : List LabelledText) (r : Result (List LabelledText) CallStop) → and_then (and_then r (λ ys. Ok (x ∷ ys))) (λ ys. Ok (xs ++ ys)) ≡ and_then r (λ ys. Ok ((xs ++ x ∷ []) ++ ys))
text_more x xs (Ok ys) = ap Ok (sym (append_assoc xs (x ∷ []) ys))
text_more x xs (Err stop) = refl

module _ (out : List LabelledText) (t : Tree) (ts : List Tree) (whole : Result (List LabelledText) CallStop) (so_far : and_then (texts_in (t ∷ ts)) (λ ys. Ok (out ++ ys)) ≡ whole) where
  pub text_stops : (stop : CallStop) → Gives (Err stop) (text_of t) → GivesOrNoMemory (Err stop) whole
  text_stops stop h =
      stop_same stop _ whole so_far (stop_passes stop (texts_in (t ∷ ts)) (λ ys. Ok (out ++ ys)) (stop_passes stop (text_of t) (λ x. and_then (texts_in ts) (λ xs. Ok (x ∷ xs))) (of_gives stop (text_of t) h)))

  pub text_goes : (x : LabelledText) → text_of t ≡ Ok x → and_then (texts_in ts) (λ ys. Ok ((out ++ x ∷ []) ++ ys)) ≡ whole
  text_goes x h =
      sym (text_more x out (texts_in ts))
      ∙ ap (λ r. and_then (and_then r (λ y. and_then (texts_in ts) (λ xs. Ok (y ∷ xs)))) (λ ys. Ok (out ++ ys))) (sym h)
      ∙ so_far

-- ---- arrays one after the other
module _ (a : Array) (t : Tree) (ts : List Tree) (es : EntryList) (whole : Result Array CallStop) (so_far : merged_on a (t ∷ ts) ≡ whole) (is : entries_in t ≡ Ok es) where
  merged_next : and_then (filled_on a (with_kept_keys false es)) (λ b. merged_on b ts) ≡ whole
  merged_next = ap (λ r. and_then r (λ fs. and_then (filled_on a (with_kept_keys false fs)) (λ b. merged_on b ts))) (sym is) ∙ so_far

  pub merged_stops : (stop : CallStop) → GivesOrNoMemory (Err stop) (filled_on a (with_kept_keys false es)) → GivesOrNoMemory (Err stop) whole
  merged_stops stop h = stop_same stop _ whole merged_next (stop_passes stop (filled_on a (with_kept_keys false es)) (λ b. merged_on b ts) h)

  pub merged_goes : (b : Array) → filled_on a (with_kept_keys false es) ≡ Ok b → merged_on b ts ≡ whole
  merged_goes b h = sym (goes_on (filled_on a (with_kept_keys false es)) (λ c. merged_on c ts) b h) ∙ merged_next

-- ---- a search, entry by entry
module _ (strict : Bool) (v : Tree) (es : EntryList) (start i left : ℕ) (e : Key × Tree) (so_far : holds strict v (drop i es) left ≡ holds strict v es start) (here : slice_get es i ≡ Some e) where
  pub search_turn : (r : Result Bool CallStop) (n : ℕ) → r ≡ (fits strict v e.1 left).0 → n ≡ (fits strict v e.1 left).1 → holds strict v es start ≡ or_on r n (λ m. holds strict v (drop (i + 1) es) m)
  search_turn r n p q =
      sym so_far ∙ ap (λ ds. holds strict v ds left) (drop_at es i e here)
      ∙ (λ j. or_on (sym p j) (sym q j) (λ m. holds strict v (drop (i + 1) es) m))

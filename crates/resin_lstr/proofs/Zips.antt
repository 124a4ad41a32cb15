-- Bytes beside the sets that runs spell.
use Rattle.std.proofs.Common.{◌≡◌, ℕ, ◌≤◌, ◌+◌, List, [], ◌∷◌, ◌++◌, refl, sym, ap, ◌∙◌, arith, length, length-append, length-drop, zero, suc, take, drop}
use Rattle.std.specs.Prelude.{map, replicate}
use Rattle.std.specs.List.{zip}
use Rattle.std.proofs.lemmas.Slice.Zip.{length-zip, firsts-zip, seconds-zip}
use Rattle.resin_lstr.specs.declared.text.Run.{Run}
use Rattle.resin_label.specs.Sets.{NumberSet, insert, remove}
use Rattle.resin_lstr.specs.Texts.{Text, bytes_of, sets_of, carrying, marked, unmarked}
use Rattle.std.proofs.lemmas.List.{length-take-le}
use Rattle.resin_lstr.specs.Runs.{spell, last_end, AreRunsOf, text_of}
use Rattle.resin_lstr.proofs.Spelled.{length_spell}

module _ {A B : Type 0} where
  pub zip-append : (xs cs : List A) (bs ds : List B) → length bs ≡ length xs → zip (xs ++ cs) (bs ++ ds) ≡ zip xs bs ++ zip cs ds
  zip-append [] cs [] ds e = refl
  zip-append [] cs (b ∷ bs) ds e = absurd (omega arith)
  zip-append (a ∷ xs) cs [] ds e = absurd (omega arith)
  zip-append (a ∷ xs) cs (b ∷ bs) ds e = ap (λ ps. (a, b) ∷ ps) (zip-append xs cs bs ds (omega arith))

  pub zip-take : (n : ℕ) (xs : List A) (bs : List B) → zip (take n xs) (take n bs) ≡ take n (zip xs bs)
  zip-take zero xs bs = refl
  zip-take (suc n) [] bs = refl
  zip-take (suc n) (a ∷ xs) [] = refl
  zip-take (suc n) (a ∷ xs) (b ∷ bs) = ap (λ ps. (a, b) ∷ ps) (zip-take n xs bs)

  zip_none : (xs : List A) → zip {X = B} xs [] ≡ []
  zip_none [] = refl
  zip_none (a ∷ xs) = refl

  pub zip-drop : (n : ℕ) (xs : List A) (bs : List B) → zip (drop n xs) (drop n bs) ≡ drop n (zip xs bs)
  zip-drop zero xs bs = refl
  zip-drop (suc n) [] bs = refl
  zip-drop (suc n) (a ∷ xs) [] = zip_none (drop n xs)
  zip-drop (suc n) (a ∷ xs) (b ∷ bs) = zip-drop n xs bs

  pub zip-map_second : (f : B → B) (xs : List A) (bs : List B) → zip xs (map f bs) ≡ map (λ p. (p.0, f p.1)) (zip xs bs)
  zip-map_second f [] bs = refl
  zip-map_second f (a ∷ xs) [] = refl
  zip-map_second f (a ∷ xs) (b ∷ bs) = ap (λ ps. (a, f b) ∷ ps) (zip-map_second f xs bs)

  pub zip-map_first : (f : A → A) (xs : List A) (bs : List B) → zip (map f xs) bs ≡ map (λ p. (f p.0, p.1)) (zip xs bs)
  zip-map_first f [] bs = refl
  zip-map_first f (a ∷ xs) [] = refl
  zip-map_first f (a ∷ xs) (b ∷ bs) = ap (λ ps. (f a, b) ∷ ps) (zip-map_first f xs bs)

  pub zip-replicate : (xs : List A) (b : B) → zip xs (replicate (length xs) b) ≡ map (λ a. (a, b)) xs
  zip-replicate [] b = refl
  zip-replicate (a ∷ xs) b = ap (λ ps. (a, b) ∷ ps) (zip-replicate xs b)

module _ (bs : List ℕ) (rs : List Run) (are : AreRunsOf (length bs) rs) where
  pub length_sets : length (spell 0 rs) ≡ length bs
  length_sets = omega (arith, length_spell 0 rs are.coalesced, are.last)

  pub length_text : length (text_of bs rs) ≡ length bs
  length_text = omega (arith, length-zip bs (spell 0 rs), length_sets)

  pub bytes_text : bytes_of (text_of bs rs) ≡ bs
  bytes_text = firsts-zip bs (spell 0 rs) length_sets

  pub sets_text : sets_of (text_of bs rs) ≡ spell 0 rs
  sets_text = seconds-zip bs (spell 0 rs) length_sets

-- ---- bytes and runs that go on
module _ (bs : List ℕ) (rs new : List Run) (are : AreRunsOf (length bs) rs) where
  pub longer_text : (cs : List ℕ) (ss : List NumberSet) → spell 0 new ≡ spell 0 rs ++ ss → text_of (bs ++ cs) new ≡ text_of bs rs ++ zip cs ss
  longer_text cs ss e = ap (zip (bs ++ cs)) e ∙ zip-append bs cs (spell 0 rs) ss (length_sets bs rs are)

  pub part_text : (ds : List ℕ) (qs : List Run) (lo n : ℕ) → spell 0 new ≡ spell 0 rs ++ take n (drop lo (spell 0 qs)) → text_of (bs ++ take n (drop lo ds)) new ≡ text_of bs rs ++ take n (drop lo (text_of ds qs))
  part_text ds qs lo n e =
      longer_text (take n (drop lo ds)) (take n (drop lo (spell 0 qs))) e
      ∙ ap (λ ps. text_of bs rs ++ ps) (zip-take n (drop lo ds) (drop lo (spell 0 qs)) ∙ ap (take n) (zip-drop lo ds (spell 0 qs)))

  pub same_set_text : (cs : List ℕ) (s : NumberSet) (n : ℕ) → n ≡ length cs → spell 0 new ≡ spell 0 rs ++ replicate n s → text_of (bs ++ cs) new ≡ text_of bs rs ++ carrying s cs
  same_set_text cs s n is e = longer_text cs (replicate n s) e ∙ ap (λ ps. text_of bs rs ++ ps) (ap (λ m. zip cs (replicate m s)) is ∙ zip-replicate cs s)

pub part_length : {X : Type 0} (bs ds : List X) (lo n : ℕ) → lo + n ≤ length ds → length (bs ++ take n (drop lo ds)) ≡ length bs + n
part_length bs ds lo n le = length-append bs (take n (drop lo ds)) ∙ ap (λ m. length bs + m) (length-take-le n (drop lo ds) (omega (arith, length-drop lo ds)))

-- the runs of a text seen as its value
module _ (bs : List ℕ) (rs : List Run) (are : AreRunsOf (length bs) rs) {t : Text} (is : text_of bs rs ≡ t) where
  pub long : length bs ≡ length t
  long = sym (length_text bs rs are) ∙ ap length is

  pub last_is : last_end 0 rs ≡ length t
  last_is = are.last ∙ long

  pub marked_text : (n : ℕ) (new : List Run) → spell 0 new ≡ map (λ s. insert s n) (spell 0 rs) → text_of bs new ≡ marked n t
  marked_text n new e = ap (zip bs) e ∙ zip-map_second (λ (s : NumberSet). insert s n) bs (spell 0 rs) ∙ ap (marked n) is

  pub unmarked_text : (n : ℕ) (new : List Run) → spell 0 new ≡ map (λ s. remove s n) (spell 0 rs) → text_of bs new ≡ unmarked n t
  unmarked_text n new e = ap (zip bs) e ∙ zip-map_second (λ (s : NumberSet). remove s n) bs (spell 0 rs) ∙ ap (unmarked n) is

-- bytes of one set
pub one_set_text : (bs cs : List ℕ) (rs : List Run) (s : NumberSet) → bs ≡ cs → spell 0 rs ≡ replicate (length cs) s → text_of bs rs ≡ carrying s cs
one_set_text bs cs rs s is e = ap (λ xs. zip xs (spell 0 rs)) is ∙ ap (zip cs) e ∙ zip-replicate cs s

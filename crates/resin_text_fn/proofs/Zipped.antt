-- Texts with other bytes, and backwards.
use Rattle.std.proofs.Common.{◌≡◌, ℕ, ◌+◌, ◌-◌, ◌<◌, ◌≤◌, List, [], ◌∷◌, ◌++◌, length, take, drop, get_or, refl, sym, ap, subst, ◌∙◌, arith, length-drop}
use Rattle.std.specs.Prelude.{map, min, reverse, slice_range}
use Rattle.std.specs.List.{zip}
use Rattle.std.specs.Char.{to_ascii_uppercase}
use Rattle.std.proofs.lemmas.List.{reverse-append, take-append-drop, drop-drop, drop-take, drop_at, length-take-le, length-reverse, length-map}
use Rattle.resin_label.specs.Sets.{NumberSet}
use Rattle.resin_lstr.proofs.Spelled.{end_more, rises_more}
use Rattle.resin_lstr.proofs.Zips.{length_text}
use Rattle.resin_lstr.proofs.Pieces.{ends_within, one_more_run}
use Rattle.resin_lstr.specs.Texts.{Text, bytes_of, sets_of, carrying}
use Rattle.resin_lstr.specs.declared.text.Run.{Run}
use Rattle.resin_lstr.specs.Runs.{spell, last_end, text_of, AreRunsOf}
use Rattle.resin_text_fn.specs.Rows.{ucfirst}

-- a text is its bytes beside its sets
pub zip_self : (t : Text) → zip (bytes_of t) (sets_of t) ≡ t
zip_self [] = refl
zip_self (p ∷ t) = ap (λ q. p ∷ q) (zip_self t)

-- other bytes beside the same sets
pub zip_mapped : (f : ℕ → ℕ) (t : Text) → zip (map f (bytes_of t)) (sets_of t) ≡ map (λ p. (f p.0, p.1)) t
zip_mapped f [] = refl
zip_mapped f (p ∷ t) = ap (λ q. (f p.0, p.1) ∷ q) (zip_mapped f t)

-- the first byte changed
pub zip_first : (t : Text) (m : ℕ) → m ≡ min (length t) 1 → zip (map to_ascii_uppercase (take m (bytes_of t)) ++ drop m (bytes_of t)) (sets_of t) ≡ ucfirst t
zip_first [] m is = let e : m ≡ 0 = omega arith in ap (λ k. zip (map to_ascii_uppercase (take k (bytes_of [])) ++ drop k (bytes_of [])) (sets_of [])) e
zip_first (p ∷ t) m is =
    let e : m ≡ 1 = omega arith in
    ap (λ k. zip (map to_ascii_uppercase (take k (bytes_of (p ∷ t))) ++ drop k (bytes_of (p ∷ t))) (sets_of (p ∷ t))) e
    ∙ ap (λ q. (to_ascii_uppercase p.0, p.1) ∷ q) (zip_self t)

-- a text is what its runs spell
pub text_self : (bs : List ℕ) (rs : List Run) (t : Text) → bs ≡ bytes_of t → spell 0 rs ≡ sets_of t → text_of bs rs ≡ t
text_self bs rs t b s = ap (λ cs. zip cs (spell 0 rs)) b ∙ ap (zip (bytes_of t)) s ∙ zip_self t

-- each of these bytes with one set
carrying_append : (s : NumberSet) (xs ys : List ℕ) → carrying s (xs ++ ys) ≡ carrying s xs ++ carrying s ys
carrying_append s [] ys = refl
carrying_append s (x ∷ xs) ys = ap (λ z. (x, s) ∷ z) (carrying_append s xs ys)

pub carrying_reverse : (s : NumberSet) (xs : List ℕ) → carrying s (reverse xs) ≡ reverse (carrying s xs)
carrying_reverse s [] = refl
carrying_reverse s (x ∷ xs) =
    ap (carrying s) (reverse-append (x ∷ []) xs) ∙ carrying_append s (reverse xs) (x ∷ []) ∙ ap (λ z. z ++ (x, s) ∷ []) (carrying_reverse s xs) ∙ sym (reverse-append ((x, s) ∷ []) (carrying s xs))

-- a part before what follows it, backwards
pub reverse_part : (t : Text) (a b : ℕ) → a ≤ b → b ≤ length t → reverse (drop b t) ++ reverse (take (b - a) (drop a t)) ≡ reverse (drop a t)
reverse_part t a b le within =
    let e : a + (b - a) ≡ b = omega arith in
    ap (λ k. reverse (drop k t) ++ reverse (take (b - a) (drop a t))) (sym e)
    ∙ ap (λ z. reverse z ++ reverse (take (b - a) (drop a t))) (sym (drop-drop (b - a) a t))
    ∙ sym (reverse-append (take (b - a) (drop a t)) (drop (b - a) (drop a t)))
    ∙ ap reverse (take-append-drop (b - a) (drop a t))

pub reverse_short : (t : Text) (a : ℕ) → length (reverse (drop a t)) ≤ length t
reverse_short t a = omega (arith, length-reverse (drop a t), length-drop a t)

-- the bytes of one run
module _ (bs : List ℕ) (rs : List Run) (are : AreRunsOf (length bs) rs) (k : ℕ) (d : Run) (lt : k < length rs) where
  abbrev lo : ℕ
  lo = last_end 0 (take k rs)

  abbrev hi : ℕ
  hi = last_end 0 (take (k + 1) rs)

  pub run_end : last_end 0 (take (k + 1) rs) ≡ (get_or rs k d).end
  run_end = end_more rs k d are.coalesced lt

  pub run_rises : last_end 0 (take k rs) < last_end 0 (take (k + 1) rs)
  run_rises = omega (arith, rises_more rs k d are.coalesced lt, run_end)

  pub run_within : last_end 0 (take (k + 1) rs) ≤ length bs
  run_within = omega (arith, ends_within bs rs are k d lt, run_end)

  pub run_part : slice_range (text_of bs rs) (last_end 0 (take k rs)) (last_end 0 (take (k + 1) rs)) ≡ carrying (get_or rs k d).set (slice_range bs (last_end 0 (take k rs)) (last_end 0 (take (k + 1) rs)))
  run_part =
      let t = text_of bs rs in
      let long : length (text_of bs rs) ≡ length bs = length_text bs rs are in
      let sum : lo + (hi - lo) ≡ hi = omega (arith, run_rises) in
      let front : length (take lo t) ≡ lo = length-take-le lo t (omega (arith, run_rises, run_within)) in
      let whole = one_more_run bs rs are k d lt in
      sym (drop-take lo (hi - lo) t)
      ∙ ap (λ n. drop lo (take n t)) (sum ∙ run_end)
      ∙ ap (drop lo) whole
      ∙ drop_at (take lo t) _ lo front
      ∙ ap (λ n. carrying (get_or rs k d).set (take (n - lo) (drop lo bs))) (sym run_end)

-- one more run of a text, backwards
module _ (s : Text) (rs : List Run) (are : AreRunsOf (length s) rs) (spelled : spell 0 rs ≡ sets_of s) (k : ℕ) (r : Run) (lt : k < length rs) (is : r ≡ get_or rs k r) where
  long : length (bytes_of s) ≡ length s
  long = length-map s (λ p. p.0)

  same : AreRunsOf (length (bytes_of s)) rs
  same = subst (λ (n : ℕ). AreRunsOf n rs) (sym long) are

  whole : text_of (bytes_of s) rs ≡ s
  whole = text_self (bytes_of s) rs s refl spelled

  ends : last_end 0 (take (k + 1) rs) ≡ r.end
  ends = run_end (bytes_of s) rs same k r lt ∙ sym (ap (λ q. q.end) is)

  pub backwards_ordered : last_end 0 (take k rs) ≤ r.end
  backwards_ordered = omega (arith, run_rises (bytes_of s) rs same k r lt, ends)

  pub backwards_within : r.end ≤ length (bytes_of s)
  backwards_within = omega (arith, run_within (bytes_of s) rs same k r lt, ends)

  pub backwards_more : (out : Text) → out ≡ reverse (drop (last_end 0 (take (k + 1) rs)) s) → out ++ carrying r.set (reverse (slice_range (bytes_of s) (last_end 0 (take k rs)) r.end)) ≡ reverse (drop (last_end 0 (take k rs)) s)
  backwards_more out out_is =
      let lo = last_end 0 (take k rs) in
      let hi = last_end 0 (take (k + 1) rs) in
      let part : slice_range s (last_end 0 (take k rs)) (last_end 0 (take (k + 1) rs)) ≡ carrying r.set (slice_range (bytes_of s) (last_end 0 (take k rs)) r.end) =
      ap (λ t. slice_range t lo hi) (sym whole) ∙ run_part (bytes_of s) rs same k r lt
      ∙ ap (λ q. carrying q.set (slice_range (bytes_of s) lo hi)) (sym is)
      ∙ ap (λ n. carrying r.set (slice_range (bytes_of s) lo n)) ends in
      ap (λ z. z ++ carrying r.set (reverse (slice_range (bytes_of s) lo r.end))) out_is
      ∙ ap (λ z. reverse (drop hi s) ++ z) (carrying_reverse r.set (slice_range (bytes_of s) lo r.end) ∙ ap reverse (sym part))
      ∙ reverse_part s lo hi (omega (arith, run_rises (bytes_of s) rs same k r lt)) (omega (arith, run_within (bytes_of s) rs same k r lt, long))

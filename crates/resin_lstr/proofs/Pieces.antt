-- Texts made of pieces.
use Rattle.std.proofs.Common.{◌≡◌, ℕ, ◌<◌, ◌≤◌, ◌+◌, ◌-◌, true, List, [], ◌∷◌, ◌++◌, refl, sym, ap, subst, ◌∙◌, arith, zero, suc, length, take, drop, get_or, append_assoc, length-append, length-drop, drop-cons}
use Rattle.std.specs.Prelude.{replicate, Result, Err}
use Rattle.std.specs.Prelude.{nat_eq}
use Rattle.std.specs.List.{zip, flat_map, fold}
use Rattle.std.proofs.lemmas.Bool.{eqb-true, eq-eqb}
use Rattle.indexmap.specs.IndexSet.{insert_key}
use Rattle.resin_label.proofs.Members.{same-decides}
use Rattle.resin_lstr.proofs.Distinct.{distinct_run, each_alone}
use Rattle.std.proofs.lemmas.List.{take-append-drop, take-append-le, length-take-le, take_all, get_or_default}
use Rattle.std.proofs.lemmas.List.Concat.{flat_map-append}
use Rattle.resin_label.specs.Sets.{NumberSet, numbers, same}
use Rattle.resin_lstr.specs.declared.text.Run.{Run}
use Rattle.resin_lstr.specs.declared.text.TextFault.{TextFault}
use Rattle.resin_lstr.specs.declared.text.TextFault.TheVariants.{TooLong, Memory}
use Rattle.resin_lstr.specs.Texts.{Text, LONGEST, carrying, with_parts, ArePartsFrom, distinct}
use Rattle.resin_lstr.specs.Runs.{spell, last_end, IsCoalesced, AreRunsOf, text_of}
use Rattle.resin_lstr.specs.Tables.{replaced, replacement}
use Rattle.resin_lstr.specs.Faults.{GivesText}
use Rattle.resin_lstr.proofs.Spelled.{length_spell, coalesced_take, spell_more, end_more, rises_more}
use Rattle.resin_lstr.proofs.Places.{spell_append}
use Rattle.resin_lstr.proofs.Zips.{zip-append, zip-take, zip-replicate}
use Rattle.resin_lstr.proofs.Rows.{replaced-carrying}

-- ---- answers carried on
-- the text of an answer is a front of another text
pub fault_front : (e : TextFault) (xs ys : Text) → length xs ≤ length ys → GivesText (Err e) xs → GivesText (Err e) ys
fault_front TooLong xs ys le h = omega (arith, h, le)
fault_front Memory xs ys le h = tt

pub gives_same : (r : Result Text TextFault) {xs ys : Text} → xs ≡ ys → GivesText r xs → GivesText r ys
gives_same r e h = subst (GivesText r) e h

-- ---- fronts of texts
pub front_spells : (rs : List Run) (k : ℕ) → IsCoalesced 0 rs → take (last_end 0 (take k rs)) (spell 0 rs) ≡ spell 0 (take k rs)
front_spells rs k c =
    let long : last_end 0 (take k rs) ≡ length (spell 0 (take k rs)) = omega (arith, length_spell 0 (take k rs) (coalesced_take 0 k rs c)) in
    let rest = spell (last_end 0 (take k rs)) (drop k rs) in
    ap (take (last_end 0 (take k rs))) (ap (spell 0) (sym (take-append-drop k rs)) ∙ spell_append 0 (take k rs) (drop k rs))
    ∙ take-append-le (last_end 0 (take k rs)) (spell 0 (take k rs)) rest (omega arith)
    ∙ take_all (last_end 0 (take k rs)) (spell 0 (take k rs)) (omega arith)

pub front_within : (rs : List Run) (k : ℕ) → IsCoalesced 0 rs → last_end 0 (take k rs) ≤ last_end 0 rs
front_within rs k c =
    omega (
      arith,
      length_spell 0 rs c,
      length_spell 0 (take k rs) (coalesced_take 0 k rs c),
      length-append (spell 0 (take k rs)) (spell (last_end 0 (take k rs)) (drop k rs)),
      ap length (ap (spell 0) (sym (take-append-drop k rs)) ∙ spell_append 0 (take k rs) (drop k rs)),
    )

abbrev xs_none : {X : Type 0} → List X
xs_none = []

take_split : {X : Type 0} (xs : List X) (a b : ℕ) → take (a + b) xs ≡ take a xs ++ take b (drop a xs)
take_split xs zero b = let e : zero + b ≡ b = omega arith in ap (λ n. take n xs) e
take_split [] (suc a) zero = let e : suc a + zero ≡ suc a = omega arith in ap (λ n. take n xs_none) e
take_split [] (suc a) (suc b) = let e : suc a + suc b ≡ suc (a + suc b) = omega arith in ap (λ n. take n xs_none) e
take_split (x ∷ xs) (suc a) b = let e : suc a + b ≡ suc (a + b) = omega arith in ap (λ n. take n (x ∷ xs)) e ∙ ap (λ zs. x ∷ zs) (take_split xs a b)

-- the bytes of one more run
module _ (bs : List ℕ) (rs : List Run) (are : AreRunsOf (length bs) rs) (k : ℕ) (d : Run) (lt : k < length rs) where
  pub ends_within : (get_or rs k d).end ≤ length bs
  ends_within = omega (arith, front_within rs (k + 1) are.coalesced, end_more rs k d are.coalesced lt, are.last)

  pub one_more_run : take (get_or rs k d).end (text_of bs rs) ≡ take (last_end 0 (take k rs)) (text_of bs rs) ++ carrying (get_or rs k d).set (take ((get_or rs k d).end - last_end 0 (take k rs)) (drop (last_end 0 (take k rs)) bs))
  one_more_run =
      let lo = last_end 0 (take k rs) in
      let hi = (get_or rs k d).end in
      let s = (get_or rs k d).set in
      let up : last_end 0 (take k rs) < (get_or rs k d).end = rises_more rs k d are.coalesced lt in
      let within : (get_or rs k d).end ≤ length bs = ends_within in
      let sum : (get_or rs k d).end ≡ last_end 0 (take k rs) + ((get_or rs k d).end - last_end 0 (take k rs)) = omega arith in
      let front_long : length (spell 0 (take k rs)) ≡ length (take (last_end 0 (take k rs)) bs)
      = omega (arith, length_spell 0 (take k rs) (coalesced_take 0 k rs are.coalesced), length-take-le (last_end 0 (take k rs)) bs (omega arith)) in
      let part_long : (get_or rs k d).end - last_end 0 (take k rs) ≡ length (take ((get_or rs k d).end - last_end 0 (take k rs)) (drop (last_end 0 (take k rs)) bs))
      = omega (arith, length-take-le ((get_or rs k d).end - last_end 0 (take k rs)) (drop (last_end 0 (take k rs)) bs) (omega (arith, length-drop (last_end 0 (take k rs)) bs))) in
      let part = take (hi - lo) (drop lo bs) in
      sym (zip-take hi bs (spell 0 rs))
      ∙ ap (λ bytes. zip bytes (take hi (spell 0 rs))) (ap (λ n. take n bs) sum ∙ take_split bs lo (hi - lo))
      ∙ ap (zip (take lo bs ++ part)) (ap (λ n. take n (spell 0 rs)) (sym (end_more rs k d are.coalesced lt)) ∙ front_spells rs (k + 1) are.coalesced ∙ spell_more rs k d are.coalesced lt)
      ∙ zip-append (take lo bs) part (spell 0 (take k rs)) (replicate (hi - lo) s) front_long
      ∙ ap (λ t. zip (take lo bs) (spell 0 (take k rs)) ++ t) (ap (λ n. zip part (replicate n s)) part_long ∙ zip-replicate part s)
      ∙ ap (λ t. t ++ carrying s part) (ap (zip (take lo bs)) (sym (front_spells rs k are.coalesced)) ∙ zip-take lo bs (spell 0 rs))

  pub one_more_replaced : (table : List (List ℕ)) → replaced table (take (get_or rs k d).end (text_of bs rs)) ≡ replaced table (take (last_end 0 (take k rs)) (text_of bs rs)) ++ carrying (get_or rs k d).set (flat_map (replacement table) (take ((get_or rs k d).end - last_end 0 (take k rs)) (drop (last_end 0 (take k rs)) bs)))
  one_more_replaced table =
      let part = take ((get_or rs k d).end - last_end 0 (take k rs)) (drop (last_end 0 (take k rs)) bs) in
      ap (replaced table) one_more_run ∙ flat_map-append _ (take (last_end 0 (take k rs)) (text_of bs rs)) (carrying (get_or rs k d).set part)
      ∙ ap (λ t. replaced table (take (last_end 0 (take k rs)) (text_of bs rs)) ++ t) (replaced-carrying table (get_or rs k d).set part)

pub replaced_front : (table : List (List ℕ)) (t : Text) (n : ℕ) → length (replaced table (take n t)) ≤ length (replaced table t)
replaced_front table t n =
    omega (
      arith,
      ap length (ap (replaced table) (sym (take-append-drop n t)) ∙ flat_map-append _ (take n t) (drop n t)),
      length-append (replaced table (take n t)) (replaced table (drop n t)),
    )

-- ---- parts
module _ (from : ℕ) (p : ℕ × ℕ) (ps : List (ℕ × ℕ)) (w t out whole : Text) (so_far : out ++ with_parts from (p ∷ ps) w t ≡ whole) where
  abbrev gap : Text
  gap = take (p.0 - from) (drop from t)

  pub part_done : ((out ++ take (p.0 - from) (drop from t)) ++ w) ++ with_parts p.1 ps w t ≡ whole
  part_done = append_assoc (out ++ gap) w (with_parts p.1 ps w t) ∙ append_assoc out gap (w ++ with_parts p.1 ps w t) ∙ so_far

  pub gap_short : length (out ++ take (p.0 - from) (drop from t)) ≤ length whole
  gap_short =
      omega (
        arith,
        ap length part_done,
        length-append ((out ++ take (p.0 - from) (drop from t)) ++ w) (with_parts p.1 ps w t),
        length-append (out ++ take (p.0 - from) (drop from t)) w,
      )

  pub part_short : length ((out ++ take (p.0 - from) (drop from t)) ++ w) ≤ length whole
  part_short = omega (arith, ap length part_done, length-append ((out ++ take (p.0 - from) (drop from t)) ++ w) (with_parts p.1 ps w t))

pub all_behind : {X : Type 0} (xs : List X) (from : ℕ) → take (length xs - from) (drop from xs) ≡ drop from xs
all_behind xs from = take_all (length xs - from) (drop from xs) (omega (arith, length-drop from xs))

pub next_part : (xs : List (ℕ × ℕ)) (k : ℕ) (x : ℕ × ℕ) → k < length xs → x ≡ get_or xs k x → drop k xs ≡ x ∷ drop (k + 1) xs
next_part xs k x lt is =
    let e : suc k ≡ k + 1 = omega arith in drop-cons xs k x lt ∙ ap (λ y. y ∷ drop (suc k) xs) (sym is) ∙ ap (λ n. x ∷ drop n xs) e

-- ---- what one more run adds to the sets and the numbers
nat_decides : (x y : ℕ) → (nat_eq x y ≡ true → x ≡ y) × (x ≡ y → nat_eq x y ≡ true)
nat_decides x y = (eqb-true x y, eq-eqb x y)

module _ (rs : List Run) (k : ℕ) (d : Run) (c : IsCoalesced 0 rs) (lt : k < length rs) where
  some_places : 0 < (get_or rs k d).end - last_end 0 (take k rs)
  some_places = omega (arith, rises_more rs k d c lt)

  pub sets_more : distinct same (spell 0 (take (k + 1) rs)) ≡ insert_key same (distinct same (spell 0 (take k rs))) (get_or rs k d).set
  sets_more =
      let s = (get_or rs k d).set in
      let m = (get_or rs k d).end - last_end 0 (take k rs) in
      ap (distinct same) (spell_more rs k d c lt ∙ sym (each_alone (spell 0 (take k rs) ++ replicate m s)))
      ∙ distinct_run same same-decides (λ (q : NumberSet). q ∷ []) s (spell 0 (take k rs)) m some_places
      ∙ ap (λ ds. insert_key same (distinct same ds) s) (each_alone (spell 0 (take k rs)))

  pub numbers_more : distinct nat_eq (flat_map numbers (spell 0 (take (k + 1) rs))) ≡ fold (insert_key nat_eq) (distinct nat_eq (flat_map numbers (spell 0 (take k rs)))) (numbers (get_or rs k d).set)
  numbers_more =
      ap (λ ss. distinct nat_eq (flat_map numbers ss)) (spell_more rs k d c lt)
      ∙ distinct_run nat_eq nat_decides numbers (get_or rs k d).set (spell 0 (take k rs)) ((get_or rs k d).end - last_end 0 (take k rs)) some_places

pub length-carrying : (s : NumberSet) (bs : List ℕ) → length (carrying s bs) ≡ length bs
length-carrying s [] = refl
length-carrying s (b ∷ bs) = ap suc (length-carrying s bs)

-- the exit of a `?` that passes a fault on
pub fault_exit : {A : Type 0} (s : Result A TextFault) (e : TextFault) (xs : Text) → s ≡ Err e → (s ≡ Err TooLong → LONGEST < length xs) → GivesText (Err e) xs
fault_exit s TooLong xs was h = h was
fault_exit s Memory xs was h = tt

-- what a run puts behind the text before it
pub replaced_run : (bs : List ℕ) (rs : List Run) (are : AreRunsOf (length bs) rs) (k : ℕ) (r : Run) → k < length rs → r ≡ get_or rs k r → (table : List (List ℕ)) (from : ℕ) (out : Text) → from ≡ last_end 0 (take k rs) → out ≡ replaced table (take from (text_of bs rs)) → out ++ carrying r.set (flat_map (replacement table) (take (r.end - from) (drop from bs))) ≡ replaced table (take r.end (text_of bs rs))
replaced_run bs rs are k r lt is table from out at out_is =
    let piece : Run → ℕ → Text = λ q f. carrying q.set (flat_map (replacement table) (take (q.end - f) (drop f bs))) in
    ap (λ t. t ++ piece r from) (out_is ∙ ap (λ n. replaced table (take n (text_of bs rs))) at)
    ∙ ap (λ t. replaced table (take (last_end 0 (take k rs)) (text_of bs rs)) ++ t) (ap (piece r) at ∙ ap (λ q. piece q (last_end 0 (take k rs))) is)
    ∙ sym (one_more_replaced bs rs are k r lt table)
    ∙ ap (λ q. replaced table (take q.end (text_of bs rs))) (sym is)

-- ---- a loop over parts
parts_end : (from : ℕ) (ps : List (ℕ × ℕ)) (n : ℕ) → ArePartsFrom from ps n → from ≤ n
parts_end from [] n h = h
parts_end from (p ∷ ps) n h = omega (arith, h.0, h.1, parts_end p.1 ps n h.2)

module _ (items parts : List (ℕ × ℕ)) (are : items ≡ parts) (k : ℕ) where
  next : k < length items → drop k parts ≡ get_or items k (0, 0) ∷ drop (k + 1) parts
  next lt =
      let there : k < length parts = omega (arith, lt, ap length are) in
      next_part parts k (get_or items k (0, 0)) there (ap (λ xs. get_or xs k (0, 0)) are ∙ get_or_default parts k (0, 0) (get_or items k (0, 0)) there)

  pub parts_begin : (from n : ℕ) → k < length items → ArePartsFrom from (drop k parts) n → (get_or items k (0, 0)).0 ≤ n
  parts_begin from n lt h =
      let here = subst (λ ps. ArePartsFrom from ps n) (next lt) h in
      omega (arith, here.1, parts_end _ (drop (k + 1) parts) n here.2)

  pub parts_rest : k < length items → (from : ℕ) (w t out whole : Text) → out ++ with_parts from (drop k parts) w t ≡ whole → out ++ with_parts from (get_or items k (0, 0) ∷ drop (k + 1) parts) w t ≡ whole
  parts_rest lt from w t out whole h = ap (λ ps. out ++ with_parts from ps w t) (sym (next lt)) ∙ h

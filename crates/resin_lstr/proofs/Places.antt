-- What stands at a place of a text.
use Rattle.std.proofs.Common.{◌≡◌, ℕ, ◌<◌, ◌≤◌, ◌+◌, ◌-◌, true, false, leb, zero, suc, length-take, length-drop, get_or-take, get_or-drop, List, [], ◌∷◌, ◌++◌, refl, sym, ap, ◌∙◌, arith, length, ⊎_elim, take, drop, get_or, append_assoc, length-append}
use Rattle.std.specs.Prelude.{replicate}
use Rattle.std.proofs.lemmas.List.{length-replicate, drop_all, take-append-le, drop-append-le, take_all, take-append-drop, get_or_append_left, get_or-append_right, get_or-replicate}
use Rattle.std.proofs.lemmas.Bool.{cases_lt, leb-true, leb-false}
use Rattle.std.specs.List.Sorted.{IsNonDecreasingBy, IsPartitionPoint}
use Rattle.resin_lstr.specs.declared.text.Run.{Run}
use Rattle.resin_label.specs.Sets.{NumberSet}
use Rattle.resin_lstr.specs.Runs.{spell, last_end, IsCoalesced}
use Rattle.resin_lstr.proofs.Spelled.{length_spell, coalesced_take, spell_more, last_end_at, end_more, rises}

take_none : {X : Type 0} (n : ℕ) → take n (let xs : List X = [] in xs) ≡ []
take_none zero = refl
take_none (suc n) = refl

pub spell_append : (from : ℕ) (rs qs : List Run) → spell from (rs ++ qs) ≡ spell from rs ++ spell (last_end from rs) qs
spell_append from [] qs = refl
spell_append from (r ∷ rs) qs = ap (λ ss. replicate (r.end - from) r.set ++ ss) (spell_append r.end rs qs) ∙ sym (append_assoc (replicate (r.end - from) r.set) (spell r.end rs) (spell (last_end r.end rs) qs))

pub not_all : (rs : List Run) (k i : ℕ) → last_end 0 (take k rs) ≤ i → i < last_end 0 rs → k < length rs
not_all rs k i before within = ⊎_elim (λ lt. lt) (λ ge. absurd (omega (arith, ap (last_end 0) (take_all k rs ge)))) (cases_lt k (length rs))

pub set_here : (rs : List Run) (k i : ℕ) (d : Run) (e : NumberSet) → IsCoalesced 0 rs → k < length rs → last_end 0 (take k rs) ≤ i → i < (get_or rs k d).end → (get_or rs k d).set ≡ get_or (spell 0 rs) i e
set_here rs k i d e c lt before here =
    let front = spell 0 (take k rs) in
    let run = get_or rs k d in
    let own = replicate (run.end - last_end 0 (take k rs)) run.set in
    let long : length (spell 0 (take k rs)) ≡ last_end 0 (take k rs) = omega (arith, length_spell 0 (take k rs) (coalesced_take 0 k rs c)) in
    let own_long : length (replicate ((get_or rs k d).end - last_end 0 (take k rs)) (get_or rs k d).set) ≡ (get_or rs k d).end - last_end 0 (take k rs) = length-replicate _ _ in
    let within : i < length (spell 0 (take k rs) ++ replicate ((get_or rs k d).end - last_end 0 (take k rs)) (get_or rs k d).set) = omega (arith, length-append (spell 0 (take k rs)) (replicate ((get_or rs k d).end - last_end 0 (take k rs)) (get_or rs k d).set), long, own_long) in
    sym (ap (λ ss. get_or ss i e) (ap (spell 0) (sym (take-append-drop (k + 1) rs)) ∙ spell_append 0 (take (k + 1) rs) (drop (k + 1) rs) ∙ ap (λ ss. ss ++ spell (last_end 0 (take (k + 1) rs)) (drop (k + 1) rs)) (spell_more rs k d c lt))
    ∙ get_or_append_left (front ++ own) (spell (last_end 0 (take (k + 1) rs)) (drop (k + 1) rs)) e i within
    ∙ get_or-append_right front own (length front) i e refl (omega (arith, long))
    ∙ get_or-replicate (run.end - last_end 0 (take k rs)) (i - length front) run.set e (omega (arith, long)))

-- ---- the run of a place
ends_above : (from : ℕ) (rs : List Run) (j : ℕ) (d : Run) → IsCoalesced from rs → j < length rs → from < (get_or rs j d).end
ends_above from [] j d c lt = absurd (omega arith)
ends_above from (r ∷ rs) zero d c lt = c.0
ends_above from (r ∷ rs) (suc j) d c lt = omega (arith, c.0, ends_above r.end rs j d c.2 (omega arith))

ends_rise_at : (from : ℕ) (rs : List Run) → IsCoalesced from rs → (i j : ℕ) (d : Run) → i ≤ j → j < length rs → (get_or rs i d).end ≤ (get_or rs j d).end
ends_rise_at from [] c i j d le lt = absurd (omega arith)
ends_rise_at from (r ∷ rs) c zero zero d le lt = omega arith
ends_rise_at from (r ∷ rs) c zero (suc j) d le lt = omega (arith, ends_above r.end rs j d c.2 (omega arith))
ends_rise_at from (r ∷ rs) c (suc i) zero d le lt = absurd (omega arith)
ends_rise_at from (r ∷ rs) c (suc i) (suc j) d le lt = ends_rise_at r.end rs c.2 i j d (omega arith) (omega arith)

pub ends_rise : (from : ℕ) (rs : List Run) → IsCoalesced from rs → IsNonDecreasingBy (λ (r : Run). r.end) rs
ends_rise from rs c = ends_rise_at from rs c

some_behind : (rs : List Run) (i : ℕ) → i < last_end 0 rs → ((j : ℕ) (d : Run) → j < length rs → (get_or rs j d).end ≤ i) → ⊥
some_behind [] i within all = omega arith
some_behind (r ∷ rs) i within all = omega (arith, within, last_end_at (r ∷ rs) (length rs) r (omega arith), all (length rs) r (omega arith))

front_end : (rs : List Run) (k i : ℕ) → k ≤ length rs → ((j : ℕ) (d : Run) → j < k → (get_or rs j d).end ≤ i) → IsCoalesced 0 rs → last_end 0 (take k rs) ≤ i
front_end rs zero i le all c = omega arith
front_end [] (suc k) i le all c = omega arith
front_end (r ∷ rs) (suc k) i le all c =
    let one : k + 1 ≡ suc k = omega arith in
    omega (arith, ap (λ n. last_end 0 (take n (r ∷ rs))) (sym one) ∙ end_more (r ∷ rs) k r c (omega arith), all k r (omega arith))

end_behind : (rs : List Run) (k i : ℕ) → k < length rs → ((d : Run) → i < (get_or rs k d).end) → IsCoalesced 0 rs → i < last_end 0 (take (k + 1) rs)
end_behind [] k i lt h c = absurd (omega arith)
end_behind (r ∷ rs) k i lt h c = omega (arith, end_more (r ∷ rs) k r c lt, h r)

module _ (rs : List Run) (i k : ℕ) (c : IsCoalesced 0 rs) (within : i < last_end 0 rs) (bound : k ≤ length rs) (point : IsPartitionPoint (λ (r : Run). leb r.end i ≡ true) (λ (r : Run). leb r.end i ≡ false) rs k) where
  pub found_inside : k < length rs
  found_inside = ⊎_elim (λ lt. lt) (λ ge. absurd (some_behind rs i within (λ j d lt. leb-true _ i (point.0 j d (omega arith) (omega arith))))) (cases_lt k (length rs))

  pub found_begins : last_end 0 (take k rs) ≤ i
  found_begins = front_end rs k i bound (λ j d lt. leb-true _ i (point.0 j d (omega arith) lt)) c

  pub found_ends : i < last_end 0 (take (k + 1) rs)
  found_ends = end_behind rs k i found_inside (λ d. leb-false _ i (point.1 k d (omega arith) found_inside)) c

-- ---- a part of a list
pub item_in_part : {X : Type 0} (xs : List X) (f m k : ℕ) (x : X) → k < length (take m (drop f xs)) → x ≡ get_or (take m (drop f xs)) k x → (f + k < length xs) × (x ≡ get_or xs (f + k) x)
item_in_part xs f m k x lt is =
    let short : k < m = omega (arith, lt, length-take m (drop f xs)) in
    let there : f + k < length xs = omega (arith, lt, length-take m (drop f xs), length-drop f xs) in
    (there, is ∙ get_or-take m (drop f xs) k x short ∙ get_or-drop f xs k x)

-- nothing lies from lo on in a front that ends before lo
pub front_none : (rs : List Run) (k lo n : ℕ) → IsCoalesced 0 rs → last_end 0 (take k rs) ≤ lo → take n (drop lo (spell 0 (take k rs))) ≡ []
front_none rs k lo n c le =
    let long : length (spell 0 (take k rs)) ≤ lo = omega (arith, length_spell 0 (take k rs) (coalesced_take 0 k rs c), le) in
    ap (take n) (drop_all lo (spell 0 (take k rs)) long) ∙ take_none n

-- a front that ends at hi or later says all up to hi
pub front_all : (rs : List Run) (k lo hi : ℕ) → IsCoalesced 0 rs → lo ≤ hi → hi ≤ last_end 0 (take k rs) → take (hi - lo) (drop lo (spell 0 (take k rs))) ≡ take (hi - lo) (drop lo (spell 0 rs))
front_all rs k lo hi c ord le =
    let front = spell 0 (take k rs) in
    let rest = spell (last_end 0 (take k rs)) (drop k rs) in
    let long : hi ≤ length (spell 0 (take k rs)) = omega (arith, length_spell 0 (take k rs) (coalesced_take 0 k rs c), le) in
    sym (ap (λ ss. take (hi - lo) (drop lo ss)) (ap (spell 0) (sym (take-append-drop k rs)) ∙ spell_append 0 (take k rs) (drop k rs))
    ∙ ap (take (hi - lo)) (drop-append-le lo front rest (omega arith))
    ∙ take-append-le (hi - lo) (drop lo front) rest (omega (arith, length-drop lo (spell 0 (take k rs)))))

-- longer fronts end later
pub fronts_rise : (from : ℕ) (rs : List Run) (a b : ℕ) → IsCoalesced from rs → a ≤ b → last_end from (take a rs) ≤ last_end from (take b rs)
fronts_rise from rs zero b c le = rises from (take b rs) (coalesced_take from b rs c)
fronts_rise from [] (suc a) zero c le = omega arith
fronts_rise from [] (suc a) (suc b) c le = omega arith
fronts_rise from (r ∷ rs) (suc a) zero c le = absurd (omega arith)
fronts_rise from (r ∷ rs) (suc a) (suc b) c le = fronts_rise r.end rs a b c.2 (omega arith)

-- the front to an earlier place is the shorter one
pub fronts_order : (rs : List Run) (a b i j : ℕ) → IsCoalesced 0 rs → last_end 0 (take a rs) ≤ i → i ≤ j → j < last_end 0 (take (b + 1) rs) → a ≤ b
fronts_order rs a b i j c lo le hi = ⊎_elim (λ gt. absurd (omega (arith, fronts_rise 0 rs (b + 1) a c (omega arith)))) (λ ge. ge) (cases_lt b a)

-- Texts that are joined and repeated.
use Rattle.std.proofs.Common.{◌≡◌, ℕ, ◌+◌, ◌-◌, ◌*◌, ◌/◌, ◌%◌, ◌<◌, ◌≤◌, List, [], ◌∷◌, ◌++◌, zero, suc, length, take, drop, get_or, refl, sym, ap, ◌∙◌, arith, append_assoc, length-append}
use Rattle.std.specs.List.{flat_map, repeat}
use Rattle.std.proofs.lemmas.List.{drop_more, take-append-le}
use Rattle.std.proofs.Math.Nat.{div-add-mod, suc-mul, mul_comm}
use Rattle.std.proofs.Math.Seq.{take-append-add}
use Rattle.resin_lstr.specs.Texts.{Text}
use Rattle.resin_text_fn.specs.Rows.{cycled}

-- what is left of a list, one step on
pub rest_more : {X : Type 0} (xs : List X) (k : ℕ) (x : X) → k < length xs → x ≡ get_or xs k x → drop k xs ≡ x ∷ drop (k + 1) xs
rest_more xs k x lt is = drop_more xs k x lt ∙ ap (λ y. y ∷ drop (k + 1) xs) (sym is)

-- ---- fronts of a whole
pub front_short : (xs ys whole : Text) → xs ++ ys ≡ whole → length xs ≤ length whole
front_short xs ys whole e = omega (arith, length-append xs ys, ap length e)

-- ---- one more text behind the glue
module _ (out glue t whole : Text) (ts : List Text) (e : out ++ flat_map (λ u. glue ++ u) (t ∷ ts) ≡ whole) where
  pub glued_more : ((out ++ glue) ++ t) ++ flat_map (λ u. glue ++ u) ts ≡ whole
  glued_more =
      let rest = flat_map (λ u. glue ++ u) ts in
      append_assoc (out ++ glue) t rest ∙ append_assoc out glue (t ++ rest) ∙ sym (ap (λ z. out ++ z) (append_assoc glue t rest)) ∙ e

  pub glue_short : length (out ++ glue) ≤ length whole
  glue_short =
      let rest = flat_map (λ u. glue ++ u) ts in
      front_short (out ++ glue) (t ++ rest) whole (sym (append_assoc (out ++ glue) t rest) ∙ glued_more)

  pub glued_short : length ((out ++ glue) ++ t) ≤ length whole
  glued_short = front_short ((out ++ glue) ++ t) (flat_map (λ u. glue ++ u) ts) whole glued_more

-- ---- repeated texts
pub repeat_add : (m n : ℕ) (t : Text) → repeat (m + n) t ≡ repeat m t ++ repeat n t
repeat_add zero n t = let e : zero + n ≡ n = omega arith in ap (λ k. repeat k t) e
repeat_add (suc m) n t =
    let e : suc m + n ≡ suc (m + n) = omega arith in
    ap (λ k. repeat k t) e ∙ ap (λ z. t ++ z) (repeat_add m n t) ∙ sym (append_assoc t (repeat m t) (repeat n t))

pub repeat_doubled : (q : ℕ) (t : Text) → repeat q (t ++ t) ≡ repeat (q + q) t
repeat_doubled zero t = let e : zero + zero ≡ zero = omega arith in sym (ap (λ k. repeat k t) e)
repeat_doubled (suc q) t =
    let e : suc q + suc q ≡ suc (suc (q + q)) = omega arith in
    ap (λ z. (t ++ t) ++ z) (repeat_doubled q t) ∙ append_assoc t t (repeat (q + q) t) ∙ sym (ap (λ k. repeat k t) e)

-- half of the copies of the doubled text, and the odd one before them
module _ (out t : Text) (n : ℕ) where
  pub even_step : n % 2 ≡ 0 → out ++ repeat (n / 2) (t ++ t) ≡ out ++ repeat n t
  even_step even =
      let e : n / 2 + n / 2 ≡ n = omega arith in
      ap (λ z. out ++ z) (repeat_doubled (n / 2) t ∙ ap (λ k. repeat k t) e)

  pub odd_step : n % 2 ≡ 1 → (out ++ t) ++ repeat (n / 2) (t ++ t) ≡ out ++ repeat n t
  odd_step odd =
      let e : suc (n / 2 + n / 2) ≡ n = omega arith in
      append_assoc out t (repeat (n / 2) (t ++ t)) ∙ ap (λ z. out ++ (t ++ z)) (repeat_doubled (n / 2) t) ∙ ap (λ k. out ++ repeat k t) e

-- one copy is no longer than some
pub copy_short : (n : ℕ) (t : Text) → 0 < n → length t ≤ length (repeat n t)
copy_short zero t some = absurd (omega arith)
copy_short (suc n) t some = omega (arith, length-append t (repeat n t))

pub length_repeat : (n : ℕ) (t : Text) → length (repeat n t) ≡ n * length t
length_repeat zero t = omega arith
length_repeat (suc n) t = omega (arith, length-append t (repeat n t), length_repeat n t, suc-mul n (length t))

front_of_copies : (m r : ℕ) (t : Text) → r ≤ length t → (m ≡ 0 → r ≡ 0) → take r (repeat m t) ≡ take r t
front_of_copies zero r t le none =
    let e : r ≡ 0 = none refl in
    let empty : Text = [] in
    ap (λ k. take k empty) e ∙ sym (ap (λ k. take k t) e)
front_of_copies (suc m) r t le none = take-append-le r t (repeat m t) le

le_times : (l q : ℕ) → 0 < l → q ≤ l * q
le_times zero q some = absurd (omega arith)
le_times (suc l) q some = omega (arith, suc-mul l q)

-- whole copies, and a front of one more
module _ (n : ℕ) (t : Text) (some : 0 < length t) where
  sum : length t * (n / length t) + n % length t ≡ n
  sum = div-add-mod n (length t)

  rest_small : n % length t < length t
  rest_small = omega arith

  copies_fit : n / length t ≤ n
  copies_fit = omega arith

  pub cycled_is : repeat (n / length t) t ++ take (n % length t) t ≡ cycled n t
  cycled_is =
      let q = n / length t in
      let r = n % length t in
      let m = n - n / length t in
      let split : n / length t + (n - n / length t) ≡ n = omega (arith, copies_fit) in
      let long : length (repeat (n / length t) t) + n % length t ≡ n = omega (arith, length_repeat (n / length t) t, sum, mul_comm (length t) (n / length t)) in
      let none : n - n / length t ≡ 0 → n % length t ≡ 0 = λ all. omega (arith, sum, le_times (length t) (n / length t) some) in
      sym (
      ap (λ k. take n (repeat k t)) (sym split)
      ∙ ap (take n) (repeat_add q m t)
      ∙ ap (λ k. take k (repeat q t ++ repeat m t)) (sym long)
      ∙ take-append-add (repeat q t) (repeat m t) r
      ∙ ap (λ z. repeat q t ++ z) (front_of_copies m r t (omega (arith, rest_small)) none)
      )

  pub copies_short : length (repeat (n / length t) t) ≤ length (cycled n t)
  copies_short = front_short (repeat (n / length t) t) (take (n % length t) t) (cycled n t) cycled_is

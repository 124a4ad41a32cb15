-- Facts of lists of calls, of told answers and of moments, for the composition of runs.
use Rattle.std.proofs.Common.{◌≡◌, ◌≢◌, ℕ, suc, ◌+◌, ◌≤◌, ◌<◌, List, [], ◌∷◌, ◌++◌, length, Bool, true, false, cond, Option, Some, None, inl, inr, refl, sym, ap, ◌∙◌, arith, map, append_assoc, ◌||◌}
use Rattle.std.specs.Prelude.{◌==◌}
use Rattle.std.proofs.lemmas.List.{append-nil}
use Rattle.std.proofs.lemmas.Bool.Decides.{nat_tests}
use Rattle.resin_base.specs.Causes.{TellsMore, is_listed}
use Rattle.resin_base.specs.Numbering.{RiseWithin}
use Rattle.resin_meaning.specs.Programs.{Moment, KeeperCall}
use Rattle.resin_meaning.specs.Runs.{failures, is_on, Reached}

choose_append : (b x : Bool) (f g h : List Bool) → f ≡ g ++ h → cond b (x ∷ f) f ≡ cond b (x ∷ g) g ++ h
choose_append true x f g h e = ap (λ xs. x ∷ xs) e
choose_append false x f g h e = e

pub failures-append : (t : Bool) (failing : List ℕ) (made : ℕ) (a b : List KeeperCall) → failures t failing made (a ++ b) ≡ failures t failing made a ++ failures t failing (made + length a) b
failures-append t failing made [] b = let e : made ≡ made + 0 = omega arith in ap (λ n. failures t failing n b) e
failures-append t failing made (c ∷ a) b =
    let e : (made + 1) + length a ≡ made + suc (length a) = omega arith in
    choose_append (is_on t c) (is_listed failing (made + 1)) _ _ _
    (failures-append t failing (made + 1) a b ∙ ap (λ n. failures t failing (made + 1) a ++ failures t failing n b) e)

choose_same : (b x y : Bool) (f g : List Bool) → x ≡ y → f ≡ g → cond b (x ∷ f) f ≡ cond b (y ∷ g) g
choose_same true x y f g e h = λ i. e i ∷ h i
choose_same false x y f g e h = h

-- what agrees on the numbers of these calls tells the same failures
pub failures-agree : (t : Bool) (p q : List ℕ) (made : ℕ) (a : List KeeperCall) → ((k : ℕ) → k ≤ made + length a → is_listed p k ≡ is_listed q k) → failures t p made a ≡ failures t q made a
failures-agree t p q made [] same = refl
failures-agree t p q made (c ∷ a) same =
    choose_same (is_on t c) _ _ _ _ (same (made + 1) (omega arith)) (failures-agree t p q (made + 1) a (λ k le. same k (omega (arith, le))))

-- the calls of two parts
pub failures-split : (t : Bool) (p q : List ℕ) (m n : ℕ) (a b : List KeeperCall) → n ≡ m + length a → ((k : ℕ) → k ≤ n → is_listed p k ≡ is_listed q k) → failures t p m (a ++ b) ≡ failures t q m a ++ failures t p n b
failures-split t p q m n a b e same =
    failures-append t p m a b ∙
    (ap (λ xs. xs ++ failures t p (m + length a) b) (failures-agree t p q m a (λ k le. same k (omega (arith, le, e)))) ∙
    ap (λ i. failures t q m a ++ failures t p i b) (sym e))

pub told_then : (x y z : Option (List Bool)) (a b : List Bool) → TellsMore x y a → TellsMore y z b → TellsMore x z (a ++ b)
told_then x y None a b h k = tt
told_then x None (Some t) a b h k = absurd k
told_then None (Some s) (Some t) a b h k = absurd h
told_then (Some r) (Some s) (Some t) a b h k = k ∙ (ap (λ xs. xs ++ b) h ∙ append_assoc r a b)

pub told_nothing : (x : Option (List Bool)) → TellsMore x x []
told_nothing None = tt
told_nothing (Some s) = sym (append-nil s)

pub reached_left : (x : Moment) (ys zs : List Moment) → Reached x ys → Reached x (ys ++ zs)
reached_left x [] zs h = absurd h
reached_left x (y ∷ ys) zs (inl e) = inl e
reached_left x (y ∷ ys) zs (inr h) = inr (reached_left x ys zs h)

pub reached_right : (x : Moment) (ys zs : List Moment) → Reached x zs → Reached x (ys ++ zs)
reached_right x [] zs h = h
reached_right x (y ∷ ys) zs h = inr (reached_right x ys zs h)

pub reached_map : (f : Moment → Moment) (x : Moment) (ys : List Moment) → Reached x ys → Reached (f x) (map f ys)
reached_map f x [] h = absurd h
reached_map f x (y ∷ ys) (inl e) = inl (ap f e)
reached_map f x (y ∷ ys) (inr h) = inr (reached_map f x ys h)

ne_false : (a b : ℕ) → a ≢ b → (a == b) ≡ false
ne_false a b h = grind (arith, nat_tests)

eq_true : (a b : ℕ) → a ≡ b → (a == b) ≡ true
eq_true a b h = grind (arith, nat_tests)

-- another number put last leaves whether a number is listed
pub listed_other : (ns : List ℕ) (n k : ℕ) → n ≢ k → is_listed (ns ++ n ∷ []) k ≡ is_listed ns k
listed_other [] n k ne = ap (λ b. b || false) (ne_false n k ne)
listed_other (m ∷ ns) n k ne = ap (λ b. (m == k) || b) (listed_other ns n k ne)

pub listed_last : (ns : List ℕ) (n : ℕ) → is_listed (ns ++ n ∷ []) n ≡ true
listed_last [] n = ap (λ b. b || false) (eq_true n n refl)
listed_last (m ∷ ns) n = ap (λ b. (m == n) || b) (listed_last ns n) ∙ elim (m == n) as (λ b. (b || true) ≡ true) [ true ↦ refl | false ↦ refl ]

-- no number above the bound is listed
pub listed_beyond : (above most : ℕ) (ns : List ℕ) (k : ℕ) → RiseWithin above most ns → most < k → is_listed ns k ≡ false
listed_beyond above most [] k r lt = refl
listed_beyond above most (n ∷ ns) k r lt =
    ap (λ b. b || is_listed ns k) (ne_false n k (λ e. omega (arith, e, r.1, lt))) ∙ listed_beyond n most ns k r.2 lt

pub rise_more : (above most more : ℕ) (ns : List ℕ) → most ≤ more → RiseWithin above most ns → RiseWithin above more ns
rise_more above most more [] le r = tt
rise_more above most more (n ∷ ns) le r = (r.0, omega (arith, r.1, le), rise_more n most more ns le r.2)

pub rise_last : (above most last : ℕ) (ns : List ℕ) → above ≤ most → most < last → RiseWithin above most ns → RiseWithin above last (ns ++ last ∷ [])
rise_last above most last [] le lt r = (omega (arith, le, lt), omega arith, tt)
rise_last above most last (n ∷ ns) le lt r = (r.0, omega (arith, r.1, lt), rise_last n most last ns r.1 lt r.2)

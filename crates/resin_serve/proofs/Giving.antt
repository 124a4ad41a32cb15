-- What loops over `give` leave.
use Rattle.std.proofs.Common.{◌≡◌, ℕ, zero, suc, ◌+◌, ◌<◌, true, false, cond, nat_eq, List, [], ◌∷◌, ◌++◌, length, take, drop, map, Option, Some, None, refl, sym, ap, ◌∙◌, arith, append_assoc, subst}
use Rattle.std.specs.Prelude.{Ok}
use Rattle.resin_site.specs.Under.base.Moves.{Gives}
use Rattle.resin_site.specs.Under.base.Contents.{Told}
use Rattle.std.proofs.lemmas.List.{append-nil, map-append, take-append-drop, take_all, drop_all}
use Rattle.resin_serve.specs.declared.give.Given.{Given}
use Rattle.resin_serve.specs.declared.give.Given.TheVariants.{Whole, Fault, Memory}
use Rattle.resin_serve.specs.Ran.{Grew, part, World, Gained}
use Rattle.resin_serve.specs.Gives.{Gave, Came, GaveAll, Lost, three}
use Rattle.resin_serve.proofs.Runs.{grew_trans, grew_none, part_append}

take_add : (xs : List ℕ) (i n : ℕ) → take (i + n) xs ≡ take i xs ++ take n (drop i xs)
take_add xs zero n = let e : 0 + n ≡ n = omega arith in ap (λ k. take k xs) e
take_add [] (suc i) zero = let e : suc i + 0 ≡ suc i = omega arith in ap (λ k. take k []) e
take_add [] (suc i) (suc n) = let e : suc i + suc n ≡ suc (i + suc n) = omega arith in ap (λ k. take k []) e
take_add (x ∷ xs) (suc i) n = let e : suc i + n ≡ suc (i + n) = omega arith in ap (λ k. take k (x ∷ xs)) e ∙ ap (λ l. x ∷ l) (take_add xs i n)

gives_grew : (a b : Option (List ℕ)) (piece : List ℕ) (n : ℕ) → Told a b (Gives piece (Ok n)) → Grew a b (take n piece)
gives_grew None b piece n h = tt
gives_grew (Some xs) None piece n h = h
gives_grew (Some xs) (Some ys) piece n h = h

pub grew_more : (a b c : Option (List ℕ)) (text piece : List ℕ) (place n : ℕ) → piece ≡ drop place text → Grew a b (take place text) → Told b c (Gives piece (Ok n)) → Grew a c (take (place + n) text)
grew_more a b c text piece place n e h k =
    subst (Grew a c) (sym (take_add text place n ∙ ap (λ l. take place text ++ take n l) (sym e))) (grew_trans a b c _ _ h (gives_grew b c piece n k))

part_same : (k : ℕ) → nat_eq k k ≡ true → (xs : List ℕ) → part k (map (λ b. (k, b)) xs) ≡ xs
part_same k e [] = refl
part_same k e (x ∷ xs) = ap (λ t. cond t (x ∷ part k (map (λ b. (k, b)) xs)) (part k (map (λ b. (k, b)) xs))) e ∙ ap (λ l. x ∷ l) (part_same k e xs)

part_other : (j k : ℕ) → nat_eq j k ≡ false → (xs : List ℕ) → part k (map (λ b. (j, b)) xs) ≡ []
part_other j k e [] = refl
part_other j k e (x ∷ xs) = ap (λ t. cond t (x ∷ part k (map (λ b. (j, b)) xs)) (part k (map (λ b. (j, b)) xs))) e ∙ part_other j k e xs

abbrev tags : ℕ → List ℕ → List (ℕ × ℕ)
tags k xs = map {B = ℕ × ℕ} (λ x. (k, x)) xs

part_three : (k : ℕ) (a b c : List ℕ) → part k (three a b c) ≡ (part k (tags 0 a) ++ part k (tags 1 b)) ++ part k (tags 2 c)
part_three k a b c = part_append k (tags 0 a ++ tags 1 b) _ ∙ ap (λ l. l ++ part k (tags 2 c)) (part_append k (tags 0 a) _)

-- what the log gets of three texts
pub part_log : (a b c : List ℕ) → part 0 (three a b c) ≡ a
part_log a b c =
    part_three 0 a b c ∙ ap (λ l. (l ++ part 0 (tags 1 b)) ++ part 0 (tags 2 c)) (part_same 0 refl a)
    ∙ ap (λ l. (a ++ l) ++ part 0 (tags 2 c)) (part_other 1 0 refl b) ∙ ap (λ l. (a ++ []) ++ l) (part_other 2 0 refl c) ∙ append-nil (a ++ []) ∙ append-nil a

gained_three : (old new : World) (a b c : List ℕ) → Grew old.log new.log a → Grew old.mail new.mail b → Grew old.out new.out c → Gained old new (three a b c)
gained_three old new a b c x y z =
    let e0 : part 0 (three a b c) ≡ a = part_log a b c in
    let e1 : part 1 (three a b c) ≡ b = part_three 1 a b c ∙ ap (λ l. (l ++ part 1 (tags 1 b)) ++ part 1 (tags 2 c)) (part_other 0 1 refl a)
    ∙ ap (λ l. l ++ part 1 (tags 2 c)) (part_same 1 refl b) ∙ ap (λ l. b ++ l) (part_other 2 1 refl c) ∙ append-nil b in
    let e2 : part 2 (three a b c) ≡ c = part_three 2 a b c ∙ ap (λ l. (l ++ part 2 (tags 1 b)) ++ part 2 (tags 2 c)) (part_other 0 2 refl a)
    ∙ ap (λ l. l ++ part 2 (tags 2 c)) (part_other 1 2 refl b) ∙ part_same 2 refl c in
    record { log = subst (Grew old.log new.log) (sym e0) x; mail = subst (Grew old.mail new.mail) (sym e1) y; out = subst (Grew old.out new.out) (sym e2) z }

tags_split : (k n : ℕ) (xs : List ℕ) → tags k xs ≡ tags k (take n xs) ++ tags k (drop n xs)
tags_split k n xs = ap (tags k) (sym (take-append-drop n xs)) ∙ map-append _ (take n xs) (drop n xs)

not_nil : (k n : ℕ) (xs : List ℕ) (ys : List (ℕ × ℕ)) → n < length xs → tags k (drop n xs) ++ ys ≡ [] → ⊥
not_nil k n [] ys h e = omega arith
not_nil k zero (x ∷ xs) ys h e = cc
not_nil k (suc n) (x ∷ xs) ys h e = not_nil k n xs ys (omega arith) e

lost_rest : (g : Given) (k n : ℕ) (xs : List ℕ) → Came g n (length xs) → Lost g (tags k (drop n xs))
lost_rest Whole k n xs h = ap (tags k) (drop_all n xs (omega arith))
lost_rest Fault k n xs h = λ e. not_nil k n xs [] h (append-nil _ ∙ e)
lost_rest Memory k n xs h = λ e. not_nil k n xs [] h (append-nil _ ∙ e)

lost_more : (g : Given) (k n : ℕ) (xs : List ℕ) (ys : List (ℕ × ℕ)) → (g ≡ Whole → ⊥) → Came g n (length xs) → Lost g (tags k (drop n xs) ++ ys)
lost_more Whole k n xs ys ne h = absurd (ne refl)
lost_more Fault k n xs ys ne h = not_nil k n xs ys h
lost_more Memory k n xs ys ne h = not_nil k n xs ys h

whole_text : (text : List ℕ) (a b : Option (List ℕ)) → Gave Whole text a b → Grew a b text
whole_text text a b h = subst (Grew a b) (take_all h.count text (let e : h.count ≡ length text = h.came in omega arith)) h.grew

pub gave_out : (g : Given) (log mail out : List ℕ) (old new : World) → Gave Whole log old.log new.log → Gave Whole mail old.mail new.mail → Gave g out old.out new.out → GaveAll g (three log mail out) old new
gave_out g log mail out old new a b c = record {
  got = three log mail (take c.count out);
  lost = tags 2 (drop c.count out);
  split = ap (λ l. (tags 0 log ++ tags 1 mail) ++ l) (tags_split 2 c.count out) ∙ sym (append_assoc (tags 0 log ++ tags 1 mail) _ _);
  lost_is = lost_rest g 2 c.count out c.came;
  gained = gained_three old new log mail (take c.count out) (whole_text log _ _ a) (whole_text mail _ _ b) c.grew;
}

pub gave_mail : (g : Given) (log mail out : List ℕ) (old new : World) → (g ≡ Whole → ⊥) → Gave Whole log old.log new.log → Gave g mail old.mail new.mail → new.out ≡ old.out → GaveAll g (three log mail out) old new
gave_mail g log mail out old new ne a b e =
    let L : List (ℕ × ℕ) = tags 0 log in
    let M : List (ℕ × ℕ) = tags 1 (take b.count mail) in
    let N : List (ℕ × ℕ) = tags 1 (drop b.count mail) in
    let O : List (ℕ × ℕ) = tags 2 out in
    record {
      got = three log (take b.count mail) [];
      lost = N ++ O;
      split = ap (λ l. (L ++ l) ++ O) (tags_split 1 b.count mail) ∙ ap (λ l. l ++ O) (sym (append_assoc L M N)) ∙ append_assoc (L ++ M) N O ∙ ap (λ l. l ++ (N ++ O)) (sym (append-nil (L ++ M)));
      lost_is = lost_more g 1 b.count mail O ne b.came;
      gained = gained_three old new log (take b.count mail) [] (whole_text log _ _ a) b.grew (subst (λ w. Grew old.out w []) (sym e) (grew_none old.out));
    }

pub gave_log : (g : Given) (log mail out : List ℕ) (old new : World) → (g ≡ Whole → ⊥) → Gave g log old.log new.log → new.mail ≡ old.mail → new.out ≡ old.out → GaveAll g (three log mail out) old new
gave_log g log mail out old new ne a d e =
    let L : List (ℕ × ℕ) = tags 0 (take a.count log) in
    let N : List (ℕ × ℕ) = tags 0 (drop a.count log) in
    let M : List (ℕ × ℕ) = tags 1 mail in
    let O : List (ℕ × ℕ) = tags 2 out in
    record {
      got = three (take a.count log) [] [];
      lost = N ++ (M ++ O);
      split = ap (λ l. (l ++ M) ++ O) (tags_split 0 a.count log) ∙ append_assoc (L ++ N) M O ∙ append_assoc L N (M ++ O)
          ∙ ap (λ l. l ++ (N ++ (M ++ O))) (sym (append-nil (L ++ []) ∙ append-nil L));
      lost_is = lost_more g 0 a.count log (M ++ O) ne a.came;
      gained = gained_three old new (take a.count log) [] [] a.grew (subst (λ w. Grew old.mail w []) (sym d) (grew_none old.mail)) (subst (λ w. Grew old.out w []) (sym e) (grew_none old.out));
    }

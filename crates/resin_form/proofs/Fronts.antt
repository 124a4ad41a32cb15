-- Where reading stops is where the longest front ends.
use Rattle.std.proofs.Common.{◌≡◌, ℕ, zero, suc, ◌+◌, ◌≤◌, Bool, true, false, List, [], ◌∷◌, ◌++◌, inl, inr, length, refl, sym, ◌∙◌, ap, subst, arith, length-append, append_assoc, suc-add}
use Rattle.resin_form.specs.Form.{Own, Weight, Opens, Enters, Stands, Form, After}
use Rattle.resin_form.specs.Reading.{Outcome, Got, Stop, Deep, Reader, left}
use Rattle.resin_form.specs.Meaning.{allows_at, always, NameSpells, NameBegins, reading, SpellsWithin, BeginsWithin, IsFrontWithin, reading_of, IsFront, IsTree, EndsLongest, IsRead, IsRefused, IsTooDeep}
use Rattle.resin_form.proofs.Shrinks.{IsEnd, same, end_length, Shrinks, read_shrinks, after_shrinks}
use Rattle.resin_form.proofs.Exact.{Exact, exact, exact_after}
use Rattle.resin_form.proofs.Local.{Local, Extends, IsSettled, grow, read_local, after_local}
use Rattle.resin_form.proofs.Grows.{Grows, read_grows, after_grows}
use Rattle.resin_form.proofs.Plenty.{IsSafe, read_safe, after_safe}

left_grow : {Token A : Type 0} (o : Outcome Token A) (extra : List Token) → left (grow o extra) ≡ left o ++ extra
left_grow (Got v r) extra = refl
left_grow (Stop r) extra = refl
left_grow (Deep r) extra = refl

no_longer : {Token : Type 0} (a b : List Token) → b ≡ a ++ b → a ≡ []
no_longer [] b e = refl
no_longer (t ∷ a) b e = absurd (omega (arith, ap length e, length-append (t ∷ a) b))

grown : {Token A : Type 0} (o final : Outcome Token A) (rest : List Token) → left final ≡ rest → Extends o rest final → final ≡ grow o rest
grown o final rest e (inl h) = h
grown o final rest e (inr h) = let l = ap length e in absurd (omega arith)

alone_got : {Token A : Type 0} (o : Outcome Token A) (v : A) (rest : List Token) → Got v rest ≡ grow o rest → o ≡ Got v []
alone_got (Got w r) v rest h =
    let e : v ≡ w = cc in
    let k : rest ≡ r ++ rest = ap left h in
    let n : r ≡ [] = no_longer r rest k in
    cc
alone_got (Stop r) v rest h = cc
alone_got (Deep r) v rest h = cc

alone_stop : {Token A : Type 0} (o : Outcome Token A) (rest : List Token) → grow o rest ≡ Stop rest → o ≡ Stop []
alone_stop (Got w r) rest h = cc
alone_stop (Stop r) rest h = let k : rest ≡ r ++ rest = sym (ap left h) in let n : r ≡ [] = no_longer r rest k in cc
alone_stop (Deep r) rest h = cc

alone_deep : {Token A : Type 0} (o : Outcome Token A) (rest : List Token) → grow o rest ≡ Deep rest → o ≡ Deep []
alone_deep (Got w r) rest h = cc
alone_deep (Stop r) rest h = cc
alone_deep (Deep r) rest h = let k : rest ≡ r ++ rest = sym (ap left h) in let n : r ≡ [] = no_longer r rest k in cc

-- before a limit is met, each front is read to its end
before_deep : {Token A : Type 0} (o : Outcome Token A) (t : Token) (more rest : List Token) → Extends o ((t ∷ more) ++ rest) (Deep rest) → IsSettled o × (left o ≡ [])
before_deep o t more rest (inr h) = (h.0, h.1)
before_deep (Got v r) t more rest (inl h) = (tt, cc)
before_deep (Stop r) t more rest (inl h) = (tt, cc)
before_deep (Deep r) t more rest (inl h) = absurd (omega (arith, ap length (ap left h), length-append r ((t ∷ more) ++ rest), length-append (t ∷ more) rest))

none_left : {Token A : Type 0} (o final : Outcome Token A) (v : List Token) → left o ≡ [] → Extends o v final → length (left final) ≤ length v
none_left o final v e (inl h) = let k = ap length (ap left h ∙ left_grow o v ∙ ap (λ x. x ++ v) e) in omega arith
none_left o final v e (inr h) = omega arith

settled : {Token A : Type 0} (o wide : Outcome Token A) → IsSettled o → Grows o wide → wide ≡ o
settled (Got v r) wide h g = g
settled (Stop r) wide h g = g
settled (Deep r) wide h g = absurd h

not_deep : {Token A : Type 0} (o : Outcome Token A) (r : List Token) → o ≡ Deep r → IsSettled o → ⊥
not_deep o r e s = subst IsSettled e s

first_none : {Token : Type 0} (a b : List Token) → a ++ b ≡ [] → a ≡ []
first_none [] b e = refl
first_none (t ∷ a) b e = cc

whole_before : {Token A : Type 0} (o final : Outcome Token A) (x : List Token) → IsSettled final → left final ≡ [] → Extends o x final → IsSettled o × (left o ≡ [])
whole_before o final x s l (inr h) = (h.0, h.1)
whole_before (Got v r) final x s l (inl h) = (tt, first_none r x (sym (ap left h) ∙ l))
whole_before (Stop r) final x s l (inl h) = (tt, first_none r x (sym (ap left h) ∙ l))
whole_before (Deep r) final x s l (inl h) = absurd (subst IsSettled h s)

none_of : {Token : Type 0} (rest : List Token) → IsEnd rest [] → rest ≡ []
none_of [] e = refl
none_of (t ∷ ts) e = absurd (omega (arith, end_length e))

module _ {Token Name : Type 0} {Value : Name → Type 0} (rules : (n : Name) → After Token Name Value Own (Value n)) where
  -- ---- what a name stands for

  pub shrinks : (allows : ℕ → Bool) (depth : ℕ) (n : Name) → Shrinks (reading rules allows depth n)
  unfolding reading
  shrinks allows zero n ts = same ts
  shrinks allows (suc depth) n ts = after_shrinks (allows_at allows depth) (reading rules allows depth) (shrinks allows depth) (rules n) ts

  name_local : (allows : ℕ → Bool) (depth : ℕ) (n : Name) → Local (reading rules allows depth n)
  unfolding reading
  name_local allows zero n ts extra = inl refl
  name_local allows (suc depth) n ts extra = after_local (allows_at allows depth) (reading rules allows depth) (shrinks allows depth) (name_local allows depth) (rules n) ts extra

  name_exact : (allows : ℕ → Bool) (depth : ℕ) (n : Name) → Exact (reading rules allows depth n) (NameSpells rules allows depth n) (NameBegins rules allows depth n)
  unfolding reading NameSpells NameBegins
  name_exact allows zero n = record { got = λ ts v rest e. cc; spelled = λ ts v rest s. absurd s; stopped = λ w e. cc; begun = λ w b. absurd b }
  name_exact allows (suc depth) n = exact_after (allows_at allows depth) (reading rules allows depth) (shrinks allows depth) (NameSpells rules allows depth) (NameBegins rules allows depth) (name_exact allows depth) (rules n)

  any_stands : (depth n : ℕ) → allows_at always depth Stands n ≡ true
  any_stands zero n = refl
  any_stands (suc zero) n = refl
  any_stands (suc (suc depth)) n = refl

  any_enters : (depth n : ℕ) → allows_at always (suc depth) Enters n ≡ true
  any_enters zero n = refl
  any_enters (suc depth) n = refl

  wider_test : (allows : ℕ → Bool) (depth more : ℕ) (w : Weight) (n : ℕ) → allows_at allows depth w n ≡ true → allows_at always (depth + more) w n ≡ true
  wider_test allows zero more Opens n e = (let h : false ≡ true = e in cc)
  wider_test allows zero more Enters n e = (let h : false ≡ true = e in cc)
  wider_test allows zero more Stands n e = any_stands (0 + more) n
  wider_test allows (suc zero) more Opens n e = (let h : false ≡ true = e in cc)
  wider_test allows (suc zero) more Enters n e = rw suc-add (any_enters (0 + more) n)
  wider_test allows (suc zero) more Stands n e = any_stands (1 + more) n
  wider_test allows (suc (suc depth)) more w n e = rw (suc-add, suc-add) refl

  name_grows : (allows : ℕ → Bool) (depth more : ℕ) (n : Name) (ts : List Token) → Grows (reading rules allows depth n ts) (reading rules always (depth + more) n ts)
  unfolding reading
  name_grows allows zero more n ts = shrinks always (0 + more) n ts
  name_grows allows (suc depth) more n ts = rw suc-add
      (after_grows (allows_at allows depth) (allows_at always (depth + more)) (reading rules allows depth) (reading rules always (depth + more)) (wider_test allows depth more) (shrinks always (depth + more)) (name_grows allows depth more) (rules n) ts)

  -- without limits, a little more depth than there are tokens is enough
  name_safe : (depth : ℕ) (n : Name) → IsSafe (reading rules always (suc (suc (suc depth))) n) depth
  unfolding reading
  name_safe zero n ts h = after_safe (allows_at always 2) (λ w n. refl) (reading rules always 2) (shrinks always 2) (rules n) 0 (λ m us k. absurd (omega arith)) ts h
  name_safe (suc depth) n ts h = after_safe (allows_at always (suc (suc (suc depth)))) (λ w n. refl) (reading rules always (suc (suc (suc depth)))) (shrinks always (suc (suc (suc depth)))) (rules n) (suc depth) (λ m us k. name_safe depth m us (omega arith)) ts h

  -- ---- a form

  module _ {A : Type 0} (F : Form Token Name Value A) where
    abbrev read_at : (ℕ → Bool) → ℕ → Reader Token A
    read_at allows depth = reading_of rules allows depth F

    read_at_shrinks : (allows : ℕ → Bool) (depth : ℕ) → Shrinks (read_at allows depth)
    read_at_shrinks allows depth = read_shrinks (allows_at allows depth) (reading rules allows depth) (shrinks allows depth) F

    local_at : (allows : ℕ → Bool) (depth : ℕ) → Local (read_at allows depth)
    local_at allows depth = read_local (allows_at allows depth) (reading rules allows depth) (shrinks allows depth) (name_local allows depth) F

    exact_at : (allows : ℕ → Bool) (depth : ℕ) → Exact (read_at allows depth) (SpellsWithin rules allows depth F) (BeginsWithin rules allows depth F)
    exact_at allows depth = exact (allows_at allows depth) (reading rules allows depth) (shrinks allows depth) (NameSpells rules allows depth) (NameBegins rules allows depth) (name_exact allows depth) F

    grows_at : (allows : ℕ → Bool) (depth more : ℕ) (ts : List Token) → Grows (read_at allows depth ts) (read_at always (depth + more) ts)
    grows_at allows depth more ts = read_grows (allows_at allows depth) (allows_at always (depth + more)) (reading rules allows depth) (reading rules always (depth + more)) (wider_test allows depth more) (shrinks always (depth + more)) (name_grows allows depth more) F ts

    safe_at : (depth : ℕ) → IsSafe (read_at always (suc (suc (suc depth)))) depth
    safe_at depth ts h = read_safe (allows_at always (suc (suc (suc depth)))) (λ w n. refl) (reading rules always (suc (suc (suc depth)))) (shrinks always (suc (suc (suc depth)))) F depth (λ m us k. name_safe depth m us (omega arith)) ts h

    safe_enough : (d n : ℕ) (ts : List Token) → length ts ≤ n → IsSettled (read_at always (d + suc (suc (suc n))) ts)
    safe_enough d n ts h =
        let e : suc (suc (suc (d + n))) ≡ d + suc (suc (suc n)) = omega arith in
        subst (λ m. IsSettled (read_at always m ts)) e (safe_at (d + n) ts (omega arith))

    wider_left : (allows : ℕ → Bool) (d e : ℕ) (ts : List Token) (o : Outcome Token A) → read_at allows d ts ≡ o → IsSettled o → read_at always (d + e) ts ≡ o
    wider_left allows d e ts o r s = settled o (read_at always (d + e) ts) s (subst (λ p. Grows p (read_at always (d + e) ts)) r (grows_at allows d e ts))

    wider_right : (d e : ℕ) (ts : List Token) (o : Outcome Token A) → read_at always e ts ≡ o → IsSettled o → read_at always (d + e) ts ≡ o
    wider_right d e ts o r s =
        let k : e + d ≡ d + e = omega arith in
        subst (λ n. read_at always n ts ≡ o) k (wider_left always e d ts o r s)

    front_read : (allows : ℕ → Bool) (d : ℕ) (w : List Token) → IsFrontWithin rules allows d F w → (o : Outcome Token A) × (read_at allows d w ≡ o) × IsSettled o × (left o ≡ [])
    front_read allows d w (inl b) = (Stop [], (exact_at allows d).begun w b, tt, refl)
    front_read allows d w (inr s) = (Got s.0 [], (exact_at allows d).spelled w s.0 [] s.1, tt, refl)

    read_front : (allows : ℕ → Bool) (d : ℕ) (w : List Token) (o : Outcome Token A) → read_at allows d w ≡ o → IsSettled o → left o ≡ [] → IsFrontWithin rules allows d F w
    read_front allows d w (Got e rest) r s l = inr (e, (exact_at allows d).got w e [] (r ∙ ap (Got e) l))
    read_front allows d w (Stop rest) r s l = inl ((exact_at allows d).stopped w (r ∙ ap Stop l))
    read_front allows d w (Deep rest) r s l = absurd s

    longest : (allows : ℕ → Bool) (d : ℕ) (u rest : List Token) (final : Outcome Token A) → read_at allows d (u ++ rest) ≡ final → IsSettled final → left final ≡ rest
        → (t : Token) (more after : List Token) → rest ≡ (t ∷ more) ++ after → IsFront rules F (u ++ t ∷ more) → ⊥
    longest allows d u rest final r s l t more after e front =
        let f = front_read always front.0 (u ++ t ∷ more) front.1 in
        let D = d + front.0 in
        let whole : read_at always D (u ++ rest) ≡ final = wider_left allows d front.0 (u ++ rest) final r s in
        let part : read_at always D (u ++ t ∷ more) ≡ f.0 = wider_right d front.0 (u ++ t ∷ more) f.0 f.1 f.2 in
        let text : u ++ rest ≡ (u ++ t ∷ more) ++ after = ap (λ x. u ++ x) e ∙ sym (append_assoc u (t ∷ more) after) in
        let x : Extends (read_at always D (u ++ t ∷ more)) after (read_at always D ((u ++ t ∷ more) ++ after)) = local_at always D (u ++ t ∷ more) after in
        let y : Extends f.0 after (read_at always D ((u ++ t ∷ more) ++ after)) = subst (λ o. Extends o after (read_at always D ((u ++ t ∷ more) ++ after))) part x in
        let z : Extends f.0 after (read_at always D (u ++ rest)) = subst (λ ts. Extends f.0 after (read_at always D ts)) (sym text) y in
        let k : length (left (read_at always D (u ++ rest))) ≤ length after = none_left f.0 (read_at always D (u ++ rest)) after f.3 z in
        let a : length (left (read_at always D (u ++ rest))) ≡ length rest = ap length (ap left whole ∙ l) in
        let b = ap length e in
        let c = length-append (t ∷ more) after in
        omega arith

    module _ (allows : ℕ → Bool) (d : ℕ) (ts rest : List Token) where
      abbrev o : Outcome Token A
      o = read_at allows d ts

      abbrev e : IsEnd (left o) ts
      e = read_at_shrinks allows d ts

      taken : (final : Outcome Token A) → o ≡ final → left final ≡ rest → ts ≡ e.front ++ rest
      taken final r l = e.whole ∙ ap (λ x. e.front ++ x) (ap left r ∙ l)

      extended : (final : Outcome Token A) (u more : List Token) → o ≡ final → ts ≡ u ++ more → Extends (read_at allows d u) more final
      extended final u more r t = subst (λ x. Extends (read_at allows d u) more x) (ap (read_at allows d) (sym t) ∙ r) (local_at allows d u more)

      alone : (final : Outcome Token A) → o ≡ final → left final ≡ rest → final ≡ grow (read_at allows d e.front) rest
      alone final r l = grown (read_at allows d e.front) final rest l (extended final e.front rest r (taken final r l))

      ends_longest : (final : Outcome Token A) → o ≡ final → IsSettled final → left final ≡ rest → EndsLongest rules F ts e.front rest
      ends_longest final r s l =
          let t = taken final r l in
          record { text = t; longest = longest allows d e.front rest final (ap (read_at allows d) (sym t) ∙ r) s l }

      pub is_read : (x : A) → o ≡ Got x rest → IsRead rules F allows d ts x rest
      is_read x r = record {
        front = e.front;
        ends = ends_longest (Got x rest) r tt refl;
        tree = (exact_at allows d).got e.front x [] (alone_got (read_at allows d e.front) x rest (alone (Got x rest) r refl));
      }

      pub is_refused : o ≡ Stop rest → IsRefused rules F allows d ts rest
      is_refused r =
          let a : read_at allows d e.front ≡ Stop [] = alone_stop (read_at allows d e.front) rest (sym (alone (Stop rest) r refl)) in
          record {
            front = e.front;
            ends = ends_longest (Stop rest) r tt refl;
            begins = (exact_at allows d).stopped e.front a;
            no_tree = λ x t.
                let w = (exact_at always t.0).spelled e.front x [] t.1 in
                let p = wider_left allows d t.0 e.front (Stop []) a tt in
                let q = wider_right d t.0 e.front (Got x []) w tt in
                cc;
          }

      pub is_too_deep : o ≡ Deep rest → IsTooDeep rules F allows d ts rest
      is_too_deep r =
          let a : read_at allows d e.front ≡ Deep [] = alone_deep (read_at allows d e.front) rest (sym (alone (Deep rest) r refl)) in
          let n = suc (suc (suc (length e.front))) in
          let wide : Outcome Token A = read_at always (d + n) e.front in
          let g : IsEnd (left wide) [] = subst (λ p. Grows p wide) a (grows_at allows d n e.front) in
          let s : IsSettled wide = safe_enough d (length e.front) e.front (omega arith) in
          let l : left wide ≡ [] = none_of (left wide) g in
          record {
            front = e.front;
            text = taken (Deep rest) r refl;
            is_front = (d + n, read_front always (d + n) e.front wide refl s l);
            too_deep = λ f. let h = front_read allows d e.front f in not_deep h.0 [] (sym h.1 ∙ a) h.2;
            first = λ u more t q.
                let b = before_deep (read_at allows d u) t more rest (extended (Deep rest) u ((t ∷ more) ++ rest) r (taken (Deep rest) r refl ∙ ap (λ x. x ++ rest) q ∙ append_assoc u (t ∷ more) rest)) in
                read_front allows d u (read_at allows d u) refl b.0 b.1;
          }

    -- ---- the grammar is unambiguous, and fronts are closed under fronts

    pub one_tree : (w : List Token) (x y : A) → IsTree rules F w x → IsTree rules F w y → x ≡ y
    one_tree w x y s t =
        let p = wider_left always s.0 t.0 w (Got x []) ((exact_at always s.0).spelled w x [] s.1) tt in
        let q = wider_right s.0 t.0 w (Got y []) ((exact_at always t.0).spelled w y [] t.1) tt in
        cc

    pub front_of_front : (u x : List Token) → IsFront rules F (u ++ x) → IsFront rules F u
    front_of_front u x f =
        let g = front_read always f.0 (u ++ x) f.1 in
        let h : Extends (read_at always f.0 u) x g.0 = subst (λ o. Extends (read_at always f.0 u) x o) g.1 (local_at always f.0 u x) in
        let k = whole_before (read_at always f.0 u) g.0 x g.2 g.3 h in
        (f.0, read_front always f.0 u (read_at always f.0 u) refl k.0 k.1)

    -- a tree within limits is one without
    pub tree_without_limits : (allows : ℕ → Bool) (d : ℕ) (w : List Token) (x : A) → SpellsWithin rules allows d F w x [] → IsTree rules F w x
    tree_without_limits allows d w x s =
        (d + 0, (exact_at always (d + 0)).got w x [] (wider_left allows d 0 w (Got x []) ((exact_at allows d).spelled w x [] s) tt))

    -- a front within limits is one without
    pub front_without_limits : (allows : ℕ → Bool) (d : ℕ) (w : List Token) → IsFrontWithin rules allows d F w → IsFront rules F w
    front_without_limits allows d w f =
        let g = front_read allows d w f in
        (d + 0, read_front always (d + 0) w g.0 (wider_left allows d 0 w g.0 g.1 g.2) g.2 g.3)

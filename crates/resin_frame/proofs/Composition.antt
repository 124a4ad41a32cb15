-- What is made of framed programs is framed.
use Rattle.std.proofs.Common.{◌⊎◌, ◌≡◌, ℕ, suc, ◌+◌, ◌<◌, ◌≤◌, Bool, true, false, cond, List, [], ◌∷◌, ◌++◌, length, Option, Result, Ok, Err, inl, inr, refl, sym, ap, subst, ◌∙◌, arith, length-append}
use Rattle.resin_meaning_forms.specs.Under.base.Causes.{is_listed, last_count}
use Rattle.resin_meaning_forms.specs.Under.scalar.declared.faults.ScriptFault.{ScriptFault}
use Rattle.resin_meaning_forms.specs.Under.scalar.declared.faults.ScriptFault.TheVariants.{FuelSpent}
use Rattle.resin_meaning_forms.specs.Under.machine.declared.stop.Stop.{Stop}
use Rattle.resin_meaning_forms.specs.Under.machine.declared.stop.Stop.TheVariants.{Fault}
use Rattle.resin_meaning_forms.specs.Under.machine.State.{State}
use Rattle.resin_meaning_forms.specs.Under.machine.Steps.{Act}
use Rattle.resin_meaning_forms.specs.Under.meaning.Programs.{Store, Whole, KeeperCall, Out, Prog, ended, stop, then_by, on_value, ◌>>=◌, caught, tried, act, within}
use Rattle.resin_meaning_forms.specs.Statements.{by_ticks}
use Rattle.resin_frame.specs.Frames.{SameAt, AgreeOn, IsChanged, KeepsTheRest, KeepAgreeing, AreOfOwn, FailAlike, HasNumbers, HaveNumbers, renumbered, Near, Alike, IsFramed}
use Rattle.resin_frame.proofs.Numbers.{IsNumberBlind, ReadsBlind, AreNumberBlind}

-- ---- stores that agree

pub same_refl : (b : Bool) (n : List ℕ) (s : Store) → SameAt b n s s
same_refl true n s = refl
same_refl false n s = refl

pub same_trans : (b : Bool) (n : List ℕ) (s u v : Store) → SameAt b n s u → SameAt b n u v → SameAt b n s v
same_trans true n s u v h k = h ∙ k
same_trans false n s u v h k = h ∙ k

pub same_sym : (b : Bool) (n : List ℕ) (s u : Store) → SameAt b n s u → SameAt b n u s
same_sym true n s u h = sym h
same_sym false n s u h = sym h

pub agree_same : (cs : List KeeperCall) (s : Store) → AgreeOn cs s s
agree_same [] s = tt
agree_same (c ∷ cs) s = (same_refl c.on_tables c.name s, agree_same cs s)

pub agree_sym : (cs : List KeeperCall) (s t : Store) → AgreeOn cs s t → AgreeOn cs t s
agree_sym [] s t a = tt
agree_sym (c ∷ cs) s t a = (same_sym c.on_tables c.name s t a.0, agree_sym cs s t a.1)

pub agree_left : (cs ds : List KeeperCall) (s t : Store) → AgreeOn (cs ++ ds) s t → AgreeOn cs s t
agree_left [] ds s t a = tt
agree_left (c ∷ cs) ds s t a = (a.0, agree_left cs ds s t a.1)

pub agree_right : (cs ds : List KeeperCall) (s t : Store) → AgreeOn (cs ++ ds) s t → AgreeOn ds s t
agree_right [] ds s t a = a
agree_right (c ∷ cs) ds s t a = agree_right cs ds s t a.1

pub agree_then : (cs : List KeeperCall) (s t u v : Store) → KeepAgreeing s t u v → AgreeOn cs s t → AgreeOn cs u v
agree_then [] s t u v f a = tt
agree_then (c ∷ cs) s t u v f a = (f c.on_tables c.name a.0, agree_then cs s t u v f a.1)

pub changed_left : (cs ds : List KeeperCall) (b : Bool) (n : List ℕ) → IsChanged cs b n → IsChanged (cs ++ ds) b n
changed_left [] ds b n h = absurd h
changed_left (c ∷ cs) ds b n (inl h) = inl h
changed_left (c ∷ cs) ds b n (inr h) = inr (changed_left cs ds b n h)

pub changed_right : (cs ds : List KeeperCall) (b : Bool) (n : List ℕ) → IsChanged ds b n → IsChanged (cs ++ ds) b n
changed_right [] ds b n h = h
changed_right (c ∷ cs) ds b n h = inr (changed_right cs ds b n h)

own_append : (own : Option (List ℕ)) (cs ds : List KeeperCall) → AreOfOwn own cs → AreOfOwn own ds → AreOfOwn own (cs ++ ds)
own_append own [] ds h k = k
own_append own (c ∷ cs) ds h k = (h.0, own_append own cs ds h.1 k)

-- ---- ends, steps on the state

pub framed_ended : {own : Option (List ℕ)} {A : Type 0} (r : Result A Stop) → IsFramed own (ended r)
framed_ended r = record {
  counts = λ failing at. omega arith;
  names = λ failing at. tt;
  keeps = λ failing at b n h. same_refl b n at.store;
  frames = λ number failing failing' at at' near. record { end = refl; state = near.state; calls = refl; stores = λ b n h. h };
}

pub framed_act : {own : Option (List ℕ)} {A : Type 0} (a : Act A) → IsNumberBlind a → IsFramed own (act a)
unfolding act
framed_act a k = record {
  counts = λ failing at. omega arith;
  names = λ failing at. tt;
  keeps = λ failing at b n h. same_refl b n at.store;
  frames = λ number failing failing' at at' near.
      let e : a at'.state ≡ ((a at.state).0, renumbered number (a at.state).1) = ap a near.state ∙ k.blind number at.state in
      record { end = ap (λ x. x.0) e; state = ap (λ x. x.1) e; calls = refl; stores = λ b n h. h };
}

-- ---- one after the other

-- a want of fuel goes on as it is
pub record PassesSpent {A B : Type 0} (next : Result A Stop → Prog B) : Type 0 where
  pub passes : (line : ℕ) (failing : List ℕ) (at : Whole) → (next (Err (Fault FuelSpent line)) failing at).end ≡ Err (Fault FuelSpent line)

numbers_first : {A B : Type 0} (made : ℕ) (o : Out A) (next : Result A Stop → Prog B) (failing : List ℕ) (calls : List KeeperCall) (end : Result B Stop) → PassesSpent next
    → calls ≡ o.calls ++ (next o.end failing o.whole).calls → end ≡ (next o.end failing o.whole).end
    → (made + length calls ≤ last_count) → ((line : ℕ) → end ≡ Err (Fault FuelSpent line) → made + length calls < last_count) → HasNumbers made o
numbers_first made o next failing calls end k e f most spare =
    let len : length calls ≡ length o.calls + length (next o.end failing o.whole).calls = ap length e ∙ length-append o.calls (next o.end failing o.whole).calls in
    record {
      most = omega (arith, len, most);
      spare = λ line h.
          let lt = spare line (f ∙ ap (λ r. (next r failing o.whole).end) h ∙ k.passes line failing o.whole) in
          omega (arith, len, lt);
    }

have_first : {A B : Type 0} (made made' : ℕ) (o : Out A) (next : Result A Stop → Prog B) (failing : List ℕ) (o2 : Out B) → PassesSpent next
    → o2.calls ≡ o.calls ++ (next o.end failing o.whole).calls → o2.end ≡ (next o.end failing o.whole).end → HaveNumbers made made' o2 → HaveNumbers made made' o
have_first made made' o next failing o2 k e f (inl h) = inl h
have_first made made' o next failing o2 k e f (inr h) =
    let len : length o2.calls ≡ length o.calls + length (next o.end failing o.whole).calls = ap length e ∙ length-append o.calls (next o.end failing o.whole).calls in
    inr (numbers_first made o next failing o2.calls o2.end k e f h.0.most h.0.spare, omega (arith, len, h.1))

have_second : {A B : Type 0} (made made' now now' : ℕ) (o : Out A) (next : Out B) (o2 : Out B) → now ≡ made + length o.calls → now' ≡ made' + length o.calls
    → o2.calls ≡ o.calls ++ next.calls → o2.end ≡ next.end → HaveNumbers made made' o2 → HaveNumbers now now' next
have_second made made' now now' o next o2 m m' e f (inl h) = inl (m' ∙ ap (λ n. n + length o.calls) h ∙ sym m)
have_second made made' now now' o next o2 m m' e f (inr h) =
    let len : length o2.calls ≡ length o.calls + length next.calls = ap length e ∙ length-append o.calls next.calls in
    inr (
      record { most = let most = h.0.most in omega (arith, len, m, most); spare = λ line k. let lt = h.0.spare line (f ∙ k) in omega (arith, len, m, lt) },
      let le = h.1 in omega (arith, len, m', le),
    )

have_same : {A : Type 0} (made made' : ℕ) (o o2 : Out A) → o2.end ≡ o.end → o2.calls ≡ o.calls → HaveNumbers made made' o2 → HaveNumbers made made' o
have_same made made' o o2 e f (inl h) = inl h
have_same made made' o o2 e f (inr h) =
    inr (
      record { most = subst (λ cs. made + length cs ≤ last_count) f h.0.most; spare = λ line k. subst (λ cs. made + length cs < last_count) f (h.0.spare line (e ∙ k)) },
      subst (λ cs. made' + length cs ≤ last_count) f h.1,
    )

pub framed_then : {own : Option (List ℕ)} {A B : Type 0} (p : Prog A) (next : Result A Stop → Prog B) → PassesSpent next → IsFramed own p → ((r : Result A Stop) → IsFramed own (next r))
    → IsFramed own (then_by p next)
unfolding then_by
framed_then {own = own} {A = A} {B = B} p next k fp fn = record {
  counts = λ failing at.
      let o = p failing at in
      let m = fp.counts failing at in
      let m2 = (fn o.end).counts failing o.whole in
      let len = length-append o.calls (next o.end failing o.whole).calls in
      omega (arith, m, m2, len);
  names = λ failing at.
      let o = p failing at in
      own_append own o.calls (next o.end failing o.whole).calls (fp.names failing at) ((fn o.end).names failing o.whole);
  keeps = λ failing at b n h.
      let o = p failing at in
      let o2 = next o.end failing o.whole in
      same_trans b n at.store o.whole.store o2.whole.store (fp.keeps failing at b n (λ c. h (changed_left o.calls o2.calls b n c)))
      ((fn o.end).keeps failing o.whole b n (λ c. h (changed_right o.calls o2.calls b n c)));
  frames = λ number failing failing' at at' near.
      let o = p failing at in
      let o' = p failing' at' in
      let o2 = next o.end failing o.whole in
      let both = then_by p next failing at in
      let len : length (o.calls ++ o2.calls) ≡ length o.calls + length o2.calls = length-append o.calls o2.calls in
      let a : Alike number at.store at'.store o o' = fp.frames number failing failing' at at' (record {
        state = near.state;
        agree = agree_left o.calls o2.calls _ _ near.agree;
        fail = λ i lt. near.fail i (omega (arith, len, lt));
        numbers = have_first at.made at'.made o next failing both k refl refl near.numbers;
      }) in
      let m : o.whole.made ≡ at.made + length o.calls = fp.counts failing at in
      let m' : o'.whole.made ≡ at'.made + length o.calls = fp.counts failing' at' ∙ ap (λ cs. at'.made + length cs) a.calls in
      let b : Alike number o.whole.store o'.whole.store o2 (next o.end failing' o'.whole) = (fn o.end).frames number failing failing' o.whole o'.whole (record {
        state = a.state;
        agree = agree_then o2.calls _ _ _ _ a.stores (agree_right o.calls o2.calls _ _ near.agree);
        fail = λ i lt. ap (is_listed failing) (omega (arith, m)) ∙ near.fail (length o.calls + i) (omega (arith, len, lt)) ∙ ap (is_listed failing') (omega (arith, m'));
        numbers = have_second at.made at'.made o.whole.made o'.whole.made o o2 both m m' refl refl near.numbers;
      }) in
      let b' : Alike number o.whole.store o'.whole.store o2 (next o'.end failing' o'.whole) =
      subst (λ x. Alike number o.whole.store o'.whole.store o2 (next x failing' o'.whole)) (sym a.end) b in
      record {
        end = b'.end;
        state = b'.state;
        calls = ap (λ cs. cs ++ (next o'.end failing' o'.whole).calls) a.calls ∙ ap (λ cs. o.calls ++ cs) b'.calls;
        stores = λ t n h. b'.stores t n (a.stores t n h);
      };
}

pub framed_bind : {own : Option (List ℕ)} {A B : Type 0} (p : Prog A) (f : A → Prog B) → IsFramed own p → ((v : A) → IsFramed own (f v)) → IsFramed own (p >>= f)
unfolding ◌>>=◌
framed_bind {own = own} {A = A} p f fp ff = framed_then p (on_value f) (record { passes = λ line failing at. refl }) fp by_end
  where
    by_end : (r : Result A Stop) → IsFramed own (on_value f r)
    by_end (Ok v) = ff v
    by_end (Err s) = framed_ended (Err s)

pub framed_tried : {own : Option (List ℕ)} {A : Type 0} (p : Prog A) → IsFramed own p → IsFramed own (tried p)
unfolding tried
framed_tried p fp = framed_then p (λ r. ended (caught r)) (record { passes = λ line failing at. refl }) fp (λ r. framed_ended (caught r))

pub framed_within : {own : Option (List ℕ)} {A : Type 0} (enter : State → State) (leave : State → State → State) (p : Prog A) → AreNumberBlind enter leave → IsFramed own p → IsFramed own (within enter leave p)
unfolding within
framed_within enter leave p k fp = record {
  counts = λ failing at. fp.counts failing (record { state = enter at.state; store = at.store; made = at.made });
  names = λ failing at. fp.names failing (record { state = enter at.state; store = at.store; made = at.made });
  keeps = λ failing at b n h. fp.keeps failing (record { state = enter at.state; store = at.store; made = at.made }) b n h;
  frames = λ number failing failing' at at' near.
      let a = fp.frames number failing failing' (record { state = enter at.state; store = at.store; made = at.made }) (record { state = enter at'.state; store = at'.store; made = at'.made }) (record {
        state = ap enter near.state ∙ k.enters number at.state;
        agree = near.agree;
        fail = near.fail;
        numbers = have_same at.made at'.made _ (within enter leave p failing at) refl refl near.numbers;
      }) in
      record { end = a.end; state = (λ i. leave (near.state i) (a.state i)) ∙ k.leaves number at.state _; calls = a.calls; stores = a.stores };
}

pub framed_if : {own : Option (List ℕ)} {A : Type 0} (b : Bool) (p q : Prog A) → IsFramed own p → IsFramed own q → IsFramed own (cond b p q)
framed_if true p q fp fq = fp
framed_if false p q fp fq = fq

-- the same where the test is needed in the first branch
pub framed_where : {own : Option (List ℕ)} {A : Type 0} (b : Bool) (p q : Prog A) → (b ≡ true → IsFramed own p) → IsFramed own q → IsFramed own (cond b p q)
framed_where true p q fp fq = fp refl
framed_where false p q fp fq = fq

-- a program that the state chooses
pub framed_by_state : {own : Option (List ℕ)} {A : Type 0} (f : State → Prog A) → ((number : ℕ) (m : State) → f (renumbered number m) ≡ f m) → ((m : State) → IsFramed own (f m))
    → IsFramed own (λ failing at. f at.state failing at)
framed_by_state {A = A} f k ff = record {
  counts = λ failing at. (ff at.state).counts failing at;
  names = λ failing at. (ff at.state).names failing at;
  keeps = λ failing at. (ff at.state).keeps failing at;
  frames = λ number failing failing' at at' near.
      subst (λ (g : Prog A). Alike number at.store at'.store (f at.state failing at) (g failing' at')) (sym (ap f near.state ∙ k number at.state))
      ((ff at.state).frames number failing failing' at at' near);
}

pub framed_by_ticks : {own : Option (List ℕ)} {A : Type 0} (turns : ℕ → Prog A) → ((n : ℕ) → IsFramed own (turns n)) → IsFramed own (by_ticks turns)
framed_by_ticks turns ft = framed_by_state (λ m. turns (suc m.ticks)) (λ number m. refl) (λ m. ft (suc m.ticks))

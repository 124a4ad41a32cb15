-- Runs go on.
use Rattle.std.proofs.Common.{◌≡◌, ℕ, ◌+◌, true, false, cond, nat_eq, List, [], ◌∷◌, ◌++◌, length, Option, Some, None, refl, sym, ap, ◌∙◌, arith, append_assoc, length-append, inl, inr, subst}
use Rattle.std.specs.Prelude.{⊤}
use Rattle.std.proofs.lemmas.List.{append-nil}
use Rattle.resin_serve.specs.declared.give.Given.{Given}
use Rattle.resin_serve.specs.declared.give.Given.TheVariants.{Whole, Fault, Memory}
use Rattle.resin_site.specs.Keeping.{Store, St, WhereTold, Later, Tells}
use Rattle.resin_serve.specs.Meaning.{Meaning, Owed, tagged, reply, bytes_of, after_of, calls_of, IsLawfulAnswer, AllObey}
use Rattle.std.specs.declared.alloc.AllocError.{AllocError}
use Rattle.std.specs.Prelude.{Ok, Err}
use Rattle.resin_site.specs.Under.http.Stream.{asks, refuses}
use Rattle.resin_serve.specs.Gives.{GaveAll, three}
use Rattle.resin_site.specs.Under.http.declared.request.Request.{Request}
use Rattle.resin_site.specs.declared.outcome.Outcome.{Outcome}
use Rattle.resin_site.specs.Laws.{IsLawful, Obeys, ObeysIn}
use Rattle.resin_site.specs.Serving.{Served, IsReply}
use Rattle.resin_site.specs.Outcomes.{refusal_text}
use Rattle.resin_site.specs.Under.meaning.Runs.{Reached}
use Rattle.resin_site.specs.Replies as site
use Rattle.resin_serve.specs.declared.logging.Logging.{Logging}
use Rattle.resin_serve.specs.declared.run.Service.{Service}
use Rattle.resin_serve.specs.Logs.{logged, CanTell}
use Rattle.resin_serve.specs.Asked.{recorded, served}
use Rattle.resin_serve.specs.Records.{record_text}
use Rattle.resin_serve.specs.Ran.{Grew, part, World, Gained, IsState, Called, Giving, Before, Amid, RanFrom, Ran}
use Rattle.resin_serve.proofs.Calling.{called_by, called_none, called_then, called_on, calls_append}

pub bytes_append : (R : Meaning) (K : List ℕ) (s : St) (n m : ℕ) (xs ys : List Owed) → m ≡ n + length xs
    → bytes_of R K s n (xs ++ ys) ≡ bytes_of R K s n xs ++ bytes_of R K (after_of R K s n xs) m ys
bytes_append R K s n m [] ys e = let f : n ≡ m = omega arith in ap (λ k. bytes_of R K s k ys) f
bytes_append R K s n m (x ∷ xs) ys e =
    ap (λ l. tagged (reply R K s n x) ++ l) (bytes_append R K (reply R K s n x).after (n + 1) m xs ys (omega arith))
    ∙ sym (append_assoc (tagged (reply R K s n x)) _ _)

pub after_append : (R : Meaning) (K : List ℕ) (s : St) (n m : ℕ) (xs ys : List Owed) → m ≡ n + length xs
    → after_of R K s n (xs ++ ys) ≡ after_of R K (after_of R K s n xs) m ys
after_append R K s n m [] ys e = let f : n ≡ m = omega arith in ap (λ k. after_of R K s k ys) f
after_append R K s n m (x ∷ xs) ys e = after_append R K (reply R K s n x).after (n + 1) m xs ys (omega arith)

pub all_obey_append : (R : Meaning) (K : List ℕ) (s : St) (n m : ℕ) (xs ys : List Owed) → m ≡ n + length xs
    → AllObey R K s n xs → AllObey R K (after_of R K s n xs) m ys → AllObey R K s n (xs ++ ys)
all_obey_append R K s n m [] ys e a b = let f : m ≡ n = omega arith in subst (λ k. AllObey R K s k ys) f b
all_obey_append R K s n m (x ∷ xs) ys e a b = (a.0, all_obey_append R K (reply R K s n x).after (n + 1) m xs ys (omega arith) a.1 b)

pub part_append : (k : ℕ) (xs ys : List (ℕ × ℕ)) → part k (xs ++ ys) ≡ part k xs ++ part k ys
part_append k [] ys = refl
part_append k (x ∷ xs) ys =
    elim (nat_eq x.0 k) as (λ b. cond b (x.1 ∷ part k (xs ++ ys)) (part k (xs ++ ys)) ≡ cond b (x.1 ∷ part k xs) (part k xs) ++ part k ys) [
      | true ↦ ap (λ l. x.1 ∷ l) (part_append k xs ys)
      | false ↦ part_append k xs ys
    ]

pub grew_trans : (a b c : Option (List ℕ)) (x y : List ℕ) → Grew a b x → Grew b c y → Grew a c (x ++ y)
grew_trans None b c x y h k = tt
grew_trans (Some xs) None c x y h k = absurd h
grew_trans (Some xs) (Some ys) None x y h k = absurd k
grew_trans (Some xs) (Some ys) (Some zs) x y h k = k ∙ ap (λ l. l ++ y) h ∙ append_assoc xs x y

pub grew_none : (a : Option (List ℕ)) → Grew a a []
grew_none None = tt
grew_none (Some xs) = sym (append-nil xs)

pub gained_trans : (a b c : World) (x y : List (ℕ × ℕ)) → Gained a b x → Gained b c y → Gained a c (x ++ y)
gained_trans a b c x y h k = record {
  log = subst (Grew a.log c.log) (sym (part_append 0 x y)) (grew_trans a.log b.log c.log _ _ h.log k.log);
  mail = subst (Grew a.mail c.mail) (sym (part_append 1 x y)) (grew_trans a.mail b.mail c.mail _ _ h.mail k.mail);
  out = subst (Grew a.out c.out) (sym (part_append 2 x y)) (grew_trans a.out b.out c.out _ _ h.out k.out);
}

giving_then : (Q : Owed → Type 0) (R : Meaning) (K : List ℕ) (s : St) (n m : ℕ) (xs ys : List Owed) (old mid new : World)
    → m ≡ n + length xs → Gained old mid (bytes_of R K s n xs) → AllObey R K s n xs → Called K (calls_of R K s n xs) old mid → Giving Q R K (after_of R K s n xs) m ys mid new → Giving Q R K s n (xs ++ ys) old new
giving_then Q R K s n m xs ys old mid new e a l c h =
    let num : m + length h.done ≡ n + length (xs ++ h.done) = omega (arith, length-append xs h.done) in
    let st : after_of R K (after_of R K s n xs) m h.done ≡ after_of R K s n (xs ++ h.done) = sym (after_append R K s n m xs h.done e) in
    record {
      done = xs ++ h.done;
      now = h.now;
      later = h.later;
      got = h.got;
      lost = h.lost;
      is = ap (λ l. xs ++ l) h.is ∙ sym (append_assoc xs h.done (h.now ∷ h.later));
      near = h.near;
      split = ap (λ k. tagged (reply R K (after_of R K s n (xs ++ h.done)) k h.now)) (sym num)
          ∙ ap (λ t. tagged (reply R K t (m + length h.done) h.now)) (sym st) ∙ h.split;
      some = h.some;
      lawful = subst (AllObey R K s n) (sym (append_assoc xs h.done (h.now ∷ []))) (all_obey_append R K s n m xs (h.done ++ h.now ∷ []) e l h.lawful);
      gained = subst (Gained old new) (sym (append_assoc (bytes_of R K s n xs) _ h.got) ∙ ap (λ l. l ++ h.got) (sym (bytes_append R K s n m xs h.done e)))
          (gained_trans old mid new _ _ a h.gained);
      called = subst (λ l. Called K (calls_of R K s n l) old new) (sym (append_assoc xs h.done (h.now ∷ []))) (called_on R K s n m xs (h.done ++ h.now ∷ []) old mid new e c h.called);
      state = subst (IsState new) (sym (after_append R K s n m xs (h.done ++ h.now ∷ []) e) ∙ ap (after_of R K s n) (sym (append_assoc xs h.done (h.now ∷ [])))) h.state;
    }

before_then : (R : Meaning) (K : List ℕ) (s : St) (n m : ℕ) (xs ys : List Owed) (old mid new : World)
    → m ≡ n + length xs → Gained old mid (bytes_of R K s n xs) → AllObey R K s n xs → Called K (calls_of R K s n xs) old mid → Before R K (after_of R K s n xs) m ys mid new → Before R K s n (xs ++ ys) old new
before_then R K s n m xs ys old mid new e a l c h = record {
  done = xs ++ h.done;
  later = h.later;
  is = ap (λ l. xs ++ l) h.is ∙ sym (append_assoc xs h.done h.later);
  lawful = all_obey_append R K s n m xs h.done e l h.lawful;
  gained = subst (Gained old new) (sym (bytes_append R K s n m xs h.done e)) (gained_trans old mid new _ _ a h.gained);
  called = called_on R K s n m xs h.done old mid new e c h.called;
  state = subst (IsState new) (sym (after_append R K s n m xs h.done e)) h.state;
}

amid_then : (R : Meaning) (K : List ℕ) (s : St) (n m : ℕ) (xs ys : List Owed) (old mid new : World)
    → m ≡ n + length xs → Gained old mid (bytes_of R K s n xs) → AllObey R K s n xs → Called K (calls_of R K s n xs) old mid → Amid R K (after_of R K s n xs) m ys mid new → Amid R K s n (xs ++ ys) old new
amid_then R K s n m xs ys old mid new e a l c h =
    let num : m + length h.done ≡ n + length (xs ++ h.done) = omega (arith, length-append xs h.done) in
    let st : after_of R K (after_of R K s n xs) m h.done ≡ after_of R K s n (xs ++ h.done) = sym (after_append R K s n m xs h.done e) in
    record {
      done = xs ++ h.done;
      now = h.now;
      later = h.later;
      is = ap (λ l. xs ++ l) h.is ∙ sym (append_assoc xs h.done (h.now ∷ h.later));
      lawful = all_obey_append R K s n m xs h.done e l h.lawful;
      gained = subst (Gained old new) (sym (bytes_append R K s n m xs h.done e)) (gained_trans old mid new _ _ a h.gained);
      at = h.at;
      reached = subst (λ t. Reached h.at (reply R K t (n + length (xs ++ h.done)) h.now).moments) st
          (subst (λ k. Reached h.at (reply R K (after_of R K (after_of R K s n xs) m h.done) k h.now).moments) num h.reached);
      made = h.made ∙ ap (λ (t : St). t.made + length h.at.calls) st;
      called = subst (λ l. Called K l old new) (sym (append_assoc (calls_of R K s n xs) _ h.at.calls) ∙ ap (λ l. l ++ h.at.calls) (sym (calls_append R K s n m xs h.done e)))
          (called_then K (calls_of R K s n xs) _ old mid new c h.called);
      state = h.state;
    }

-- what goes on from a state that a whole run reached
pub through_then : (g : Given) (Q : Owed → Type 0) (R : Meaning) (K : List ℕ) (s : St) (n m : ℕ) (xs ys : List Owed) (old mid new : World)
    → m ≡ n + length xs → Gained old mid (bytes_of R K s n xs) → AllObey R K s n xs → Called K (calls_of R K s n xs) old mid → RanFrom g Q R K (after_of R K s n xs) m ys mid new → RanFrom g Q R K s n (xs ++ ys) old new
through_then Whole Q R K s n m xs ys old mid new e a l c h = record {
  lawful = all_obey_append R K s n m xs ys e l h.lawful;
  gained = subst (Gained old new) (sym (bytes_append R K s n m xs ys e)) (gained_trans old mid new _ _ a h.gained);
  called = called_on R K s n m xs ys old mid new e c h.called;
  state = subst (IsState new) (sym (after_append R K s n m xs ys e)) h.state;
}
through_then Fault Q R K s n m xs ys old mid new e a l c h = giving_then Q R K s n m xs ys old mid new e a l c h
through_then Memory Q R K s n m xs ys old mid new e a l c (inl h) = inl (giving_then (λ _. ⊤) R K s n m xs ys old mid new e a l c h)
through_then Memory Q R K s n m xs ys old mid new e a l c (inr (inl h)) = inr (inl (before_then R K s n m xs ys old mid new e a l c h))
through_then Memory Q R K s n m xs ys old mid new e a l c (inr (inr h)) = inr (inr (amid_then R K s n m xs ys old mid new e a l c h))

at_state : (w : World) (t : St) (P : St → Type 0) → IsState w t → WhereTold w.store (λ s. P (record { store = s; made = w.made })) → P t
at_state w t P i h =
    let k : WhereTold (Some t.store) (λ s. P (record { store = s; made = w.made })) = subst (λ o. WhereTold o (λ s. P (record { store = s; made = w.made }))) i.1 h in
    subst (λ k. P (record { store = t.store; made = k })) i.0 k

where_then : (o : Option Store) (A B : Store → Type 0) → ((s : Store) → A s → B s) → WhereTold o A → WhereTold o B
where_then None A B f h = tt
where_then (Some s) A B f h = f s h

pub ran_then : (g : Given) (Q Q' : Owed → Type 0) (R : Meaning) (K : List ℕ) (n m : ℕ) (xs ys : List Owed) (old mid new : World)
    → m ≡ n + length xs → Ran Whole Q' R K n xs old mid → Ran g Q R K m ys mid new → Ran g Q R K n (xs ++ ys) old new
unfolding Ran
ran_then g Q Q' R K n m xs ys old mid new e a h = where_then old.store _ _ (λ s t.
    through_then g Q R K (record { store = s; made = old.made }) n m xs ys old mid new e t.gained t.lawful t.called
    (at_state mid _ (λ t. RanFrom g Q R K t m ys mid new) t.state h)) a

giving_more : (Q : Owed → Type 0) (R : Meaning) (K : List ℕ) (s : St) (n : ℕ) (xs ys : List Owed) (old new : World)
    → Giving Q R K s n xs old new → Giving Q R K s n (xs ++ ys) old new
giving_more Q R K s n xs ys old new h = record {
  done = h.done;
  now = h.now;
  later = h.later ++ ys;
  got = h.got;
  lost = h.lost;
  is = ap (λ l. l ++ ys) h.is ∙ append_assoc h.done (h.now ∷ h.later) ys;
  near = h.near;
  split = h.split;
  some = h.some;
  lawful = h.lawful;
  gained = h.gained;
  called = h.called;
  state = h.state;
}

-- a run that stopped, of the answers with more to come
more_from : (g : Given) (Q : Owed → Type 0) (R : Meaning) (K : List ℕ) (s : St) (n : ℕ) (xs ys : List Owed) (old new : World)
    → (g ≡ Whole → ⊥) → RanFrom g Q R K s n xs old new → RanFrom g Q R K s n (xs ++ ys) old new
more_from Whole Q R K s n xs ys old new ne h = absurd (ne refl)
more_from Fault Q R K s n xs ys old new ne h = giving_more Q R K s n xs ys old new h
more_from Memory Q R K s n xs ys old new ne (inl h) = inl (giving_more (λ _. ⊤) R K s n xs ys old new h)
more_from Memory Q R K s n xs ys old new ne (inr (inl h)) = inr (inl (record {
  done = h.done;
  later = h.later ++ ys;
  is = ap (λ l. l ++ ys) h.is ∙ append_assoc h.done h.later ys;
  lawful = h.lawful;
  gained = h.gained;
  called = h.called;
  state = h.state;
}))
more_from Memory Q R K s n xs ys old new ne (inr (inr h)) = inr (inr (record {
  done = h.done;
  now = h.now;
  later = h.later ++ ys;
  is = ap (λ l. l ++ ys) h.is ∙ append_assoc h.done (h.now ∷ h.later) ys;
  lawful = h.lawful;
  gained = h.gained;
  called = h.called;
  at = h.at;
  reached = h.reached;
  made = h.made;
  state = h.state;
}))

pub ran_more : (g : Given) (Q : Owed → Type 0) (R : Meaning) (K : List ℕ) (n : ℕ) (xs ys : List Owed) (old new : World)
    → (g ≡ Whole → ⊥) → Ran g Q R K n xs old new → Ran g Q R K n (xs ++ ys) old new
unfolding Ran
ran_more g Q R K n xs ys old new ne h = where_then old.store _ _ (λ s t. more_from g Q R K (record { store = s; made = old.made }) n xs ys old new ne t) h

gained_none : (w : World) → Gained w w []
gained_none w = record { log = grew_none w.log; mail = grew_none w.mail; out = grew_none w.out }

told_with : (o : Option Store) (P : Store → Type 0) → ((s : Store) → o ≡ Some s → P s) → WhereTold o P
told_with None P f = tt
told_with (Some s) P f = f s refl

-- no answer was served
pub ran_none : (Q : Owed → Type 0) (R : Meaning) (K : List ℕ) (n : ℕ) (w : World) → Ran Whole Q R K n [] w w
unfolding Ran
ran_none Q R K n w = told_with w.store _ (λ s e. record { lawful = tt; gained = gained_none w; called = called_none K w; state = (refl, e) })

-- nothing was done, for want of memory
pub ran_stop : (Q : Owed → Type 0) (R : Meaning) (K : List ℕ) (n : ℕ) (xs : List Owed) (w : World) → Ran Memory Q R K n xs w w
unfolding Ran
ran_stop Q R K n xs w = told_with w.store _ (λ s e. inr (inl (record { done = []; later = xs; is = refl; lawful = tt; gained = gained_none w; called = called_none K w; state = (refl, e) })))

-- the answer whose bytes were given fits
pub ran_near : (g : Given) (Q Q' : Owed → Type 0) (R : Meaning) (K : List ℕ) (n : ℕ) (xs : List Owed) (old new : World)
    → ((a : Owed) → Q a → Q' a) → Ran g Q R K n xs old new → Ran g Q' R K n xs old new
unfolding Ran
ran_near Whole Q Q' R K n xs old new f h = h
ran_near Fault Q Q' R K n xs old new f h = where_then old.store _ _ (λ s t. record {
  done = t.done;
  now = t.now;
  later = t.later;
  got = t.got;
  lost = t.lost;
  is = t.is;
  near = f t.now t.near;
  split = t.split;
  some = t.some;
  lawful = t.lawful;
  gained = t.gained;
  called = t.called;
  state = t.state;
}) h
ran_near Memory Q Q' R K n xs old new f h = h

-- the calls of one answer
one_called : (R : Meaning) (K : List ℕ) (s : St) (n : ℕ) (x : Owed) (old new : World) → Called K (reply R K s n x).is.calls old new → Called K (calls_of R K s n (x ∷ [])) old new
one_called R K s n x old new c = subst (λ l. Called K l old new) (sym (append-nil (reply R K s n x).is.calls)) c

-- one answer, of which a front of its bytes was given
one_given : (g : Given) (Q : Owed → Type 0) (R : Meaning) (K : List ℕ) (s : St) (n : ℕ) (x : Owed) (old new : World) (got lost : List (ℕ × ℕ))
    → Q x → IsLawfulAnswer n (reply R K s n x) → tagged (reply R K s n x) ≡ got ++ lost → (lost ≡ [] → ⊥) → Gained old new got → Called K (reply R K s n x).is.calls old new → IsState new (reply R K s n x).after
    → Giving Q R K s n (x ∷ []) old new
one_given g Q R K s n x old new got lost q l e ne a c i =
    let z : n ≡ n + 0 = omega arith in
    record {
      done = [];
      now = x;
      later = [];
      got = got;
      lost = lost;
      is = refl;
      near = q;
      split = subst (λ k. tagged (reply R K s k x) ≡ got ++ lost) z e;
      some = ne;
      lawful = (l, tt);
      gained = a;
      called = one_called R K s n x old new c;
      state = i;
    }

-- the outcome of one answer was given as far as it was
one_from : (g : Given) (Q : Owed → Type 0) (R : Meaning) (K : List ℕ) (s : St) (n : ℕ) (x : Owed) (old new : World)
    → Q x → IsLawfulAnswer n (reply R K s n x) → GaveAll g (tagged (reply R K s n x)) old new → Called K (reply R K s n x).is.calls old new → IsState new (reply R K s n x).after → RanFrom g Q R K s n (x ∷ []) old new
one_from Whole Q R K s n x old new q l a c i = record {
  lawful = (l, tt);
  gained = subst (Gained old new) (sym (append-nil a.got) ∙ ap (λ l. a.got ++ l) (sym a.lost_is) ∙ sym a.split ∙ sym (append-nil (tagged (reply R K s n x)))) a.gained;
  called = one_called R K s n x old new c;
  state = i;
}
one_from Fault Q R K s n x old new q l a c i = one_given Fault Q R K s n x old new a.got a.lost q l a.split a.lost_is a.gained c i
one_from Memory Q R K s n x old new q l a c i = inl (one_given Memory (λ _. ⊤) R K s n x old new a.got a.lost tt l a.split a.lost_is a.gained c i)

-- the log, the mail and the response of an answer are the reply's
texts_of : (g : Given) (logging : Logging) (n conn : ℕ) (lines mails response : List ℕ) (r : site.Reply) (old new : World) → lines ≡ logged logging n r.journal → mails ≡ r.mail → response ≡ r.response
    → GaveAll g (three lines mails (record_text conn response)) old new → GaveAll g (tagged (recorded logging n conn r)) old new
texts_of g logging n conn lines mails response r old new l m t h =
    subst (λ x. GaveAll g (three x r.mail (record_text conn r.response)) old new) l
    (subst (λ x. GaveAll g (three lines x (record_text conn r.response)) old new) m
    (subst (λ x. GaveAll g (three lines mails (record_text conn x)) old new) t h))

-- the reply that tells a lawful outcome obeys the access law
reply_obeys : (n : ℕ) (o : Outcome) (r : site.Reply) → IsReply o r → IsLawful n o → Obeys n r
reply_obeys n o r told law = subst (λ end. ObeysIn end n r) told.end (record { outcome = o; told = told; lawful = law })

-- a request's answer was given as far as it was
pub ran_gave : (g : Given) (Q : Owed → Type 0) (service : Service) (K failed : List ℕ) (n conn place : ℕ) (r : Request) (o : Outcome) (old mid new : World)
    → Q (record { conn = conn; asked = asks r; place = place }) → IsLawful n o → CanTell service.logging n o.journal
    → GaveAll g (three (logged service.logging n o.journal) o.mail (record_text conn o.response)) old new
    → Served service.site K old.store old.made n r (λ calls. Tells calls old.told mid.told old.made mid.made failed) (Ok o) mid.store mid.made
    → new.store ≡ mid.store → new.told ≡ mid.told → new.made ≡ mid.made → Later new.made failed K
    → Ran g Q (served service) K n (record { conn = conn; asked = asks r; place = place } ∷ []) old new
unfolding Ran
ran_gave g Q service K failed n conn place r o old mid new q law tell a h st to ma later = where_then old.store _ _ (λ s t.
    one_from g Q (served service) K (record { store = s; made = old.made }) n (record { conn = conn; asked = asks r; place = place }) old new q
    (record { obeys = reply_obeys n o (site.request service.site K s old.made n r) t.says law; told = subst (CanTell service.logging n) t.says.journal tell })
    (texts_of g service.logging n conn (logged service.logging n o.journal) o.mail o.response (site.request service.site K s old.made n r) old new (ap (logged service.logging n) t.says.journal) t.says.mail t.says.response a)
    (called_by K failed (site.request service.site K s old.made n r).calls old new later
    (subst (λ k. Tells (site.request service.site K s old.made n r).calls old.told new.told old.made k failed) (sym ma)
    (subst (λ k. Tells (site.request service.site K s old.made n r).calls old.told k old.made mid.made failed) (sym to) t.called)))
    (ma ∙ t.made_is, st ∙ t.store_is)) h

pub gained_same : (old new : World) → new.log ≡ old.log → new.mail ≡ old.mail → new.out ≡ old.out → Gained old new []
gained_same old new l m u = record {
  log = subst (λ w. Grew old.log w []) (sym l) (grew_none old.log);
  mail = subst (λ w. Grew old.mail w []) (sym m) (grew_none old.mail);
  out = subst (λ w. Grew old.out w []) (sym u) (grew_none old.out);
}

-- a request's calls were made in part, for want of memory
pub ran_amid : (Q : Owed → Type 0) (service : Service) (K failed : List ℕ) (n conn place : ℕ) (r : Request) (e : AllocError) (old new : World)
    → new.log ≡ old.log → new.mail ≡ old.mail → new.out ≡ old.out
    → Served service.site K old.store old.made n r (λ calls. Tells calls old.told new.told old.made new.made failed) (Err e) new.store new.made → Later new.made failed K
    → Ran Memory Q (served service) K n (record { conn = conn; asked = asks r; place = place } ∷ []) old new
unfolding Ran
ran_amid Q service K failed n conn place r e old new l m u h later = where_then old.store _ _ (λ s t.
    let z : n ≡ n + 0 = omega arith in
    inr (inr (record {
      done = [];
      now = record { conn = conn; asked = asks r; place = place };
      later = [];
      is = refl;
      lawful = tt;
      gained = gained_same old new l m u;
      at = t.at;
      reached = subst (λ k. Reached t.at (reply (served service) K (record { store = s; made = old.made }) k (record { conn = conn; asked = asks r; place = place })).moments) z t.reached;
      made = t.made_is;
      called = called_by K failed t.at.calls old new later t.called;
      state = t.store_is;
    }))) h

-- no keeper was called
called_same : (K : List ℕ) (old new : World) → new.told ≡ old.told → new.made ≡ old.made → Called K [] old new
called_same K old new to ma = subst (λ k. Tells [] old.told k old.made new.made K) (sym to) (subst (λ k. Tells [] old.told old.told old.made k K) (sym ma) (called_none K old))

-- a refusal lets no data leave
refusal_obeys : (n : ℕ) (s : Store) (made status : ℕ) → Obeys n (site.refusal s made status)
refusal_obeys n s made status = record { journal = refl; log = refl; mail = refl; calls = refl; headers = refl; body = refl; response = refl }

-- a refusal was given as far as it was
pub ran_refused : (g : Given) (Q : Owed → Type 0) (service : Service) (K : List ℕ) (n conn status place : ℕ) (lines response : List ℕ) (old new : World)
    → Q (record { conn = conn; asked = refuses status; place = place }) → CanTell service.logging n [] → GaveAll g (three lines [] (record_text conn response)) old new
    → new.store ≡ old.store → new.told ≡ old.told → new.made ≡ old.made → lines ≡ logged service.logging n [] → response ≡ refusal_text status
    → Ran g Q (served service) K n (record { conn = conn; asked = refuses status; place = place } ∷ []) old new
unfolding Ran
ran_refused g Q service K n conn status place lines response old new q tell a st to ma l e = told_with old.store _ (λ s i.
    one_from g Q (served service) K (record { store = s; made = old.made }) n (record { conn = conn; asked = refuses status; place = place }) old new q
    (record { obeys = refusal_obeys n s old.made status; told = tell })
    (texts_of g service.logging n conn lines [] response (site.refusal s old.made status) old new l refl e a) (called_same K old new to ma) (ma, st ∙ i))

-- of a whole run nothing is said of an answer whose bytes were being given
pub ran_any : (Q Q' : Owed → Type 0) (R : Meaning) (K : List ℕ) (n : ℕ) (xs : List Owed) (old new : World) → Ran Whole Q R K n xs old new → Ran Whole Q' R K n xs old new
unfolding Ran
ran_any Q Q' R K n xs old new h = h

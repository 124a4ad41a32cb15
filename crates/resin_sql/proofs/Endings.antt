-- From the outcome of reading a text by a grammar of statements to what it says of statements.
use Rattle.std.proofs.Common.{◌≡◌, ◌≢◌, ℕ, zero, suc, ◌+◌, ◌-◌, ◌<◌, ◌≤◌, List, [], ◌∷◌, ◌++◌, ◌⊎◌, inl, inr, length, take, drop, slice_index_or, Result, Ok, Err, refl, sym, ap, subst, ◌∙◌, arith, append_assoc, length-append}
use Rattle.resin_form.specs.Reading.{Outcome, Got, Stop, Deep, left}
use Rattle.resin_form.specs.Reads.{Reads}
use Rattle.resin_form.specs.Meaning.{NameSpells, NameBegins, allows_at, reading, SpellsWithin, BeginsWithin, EndsLongest, IsTooDeep}
use Rattle.resin_form.specs.Meaning as forms
use Rattle.resin_form.specs.declared.fault.Fault.{Fault}
use Rattle.resin_form.specs.declared.fault.Fault.TheVariants.{Syntax, TooDeep}
use Rattle.resin_form.specs.declared.fault.Fault.TheVariants as f
use Rattle.resin_form.proofs.Exact.{Exact, exact}
use Rattle.resin_form.proofs.Fronts.{shrinks, is_read, is_refused, is_too_deep, front_of_front, front_without_limits}
use Rattle.resin_form.proofs.Local.{Local, Extends, IsSettled, read_local}
use Rattle.resin_sql_words.proofs.Spelling.{at_letter}
use Rattle.resin_sql_words.specs.declared.cursor.Placed.{Placed}
use Rattle.resin_sql_words.specs.Places.{placed}
use Rattle.resin_sql_words.specs.Forms.{Rule, rules, in_limits, under}
use Rattle.resin_sql.specs.Answers.{AnswersBy, IsText, IsFront, IsFirstFault, IsBeyond, last_start, next_start}
use Rattle.resin_sql.specs.Places.{refusal}
use Rattle.resin_sql.specs.Readings.{told, read_by, HasOneReading}
use Rattle.resin_sql.specs.declared.fault.SqlFault.{SqlFault}
use Rattle.resin_sql.specs.declared.fault.SqlFault.TheVariants.{Bad, Memory}

-- ---- the bytes of a front

placed_length : (k : ℕ) (bs : List ℕ) → length (placed k bs) ≡ length bs
placed_length k [] = refl
placed_length k (b ∷ bs) = ap suc (placed_length (suc k) bs)

front_bytes : (k : ℕ) (bs : List ℕ) (u rest : List Placed) → placed k bs ≡ u ++ rest → placed k (take (length u) bs) ≡ u
front_bytes k bs [] rest e = refl
front_bytes k [] (t ∷ u) rest e = cc
front_bytes k (b ∷ bs) (t ∷ u) rest e =
    let r : record { at = k; byte = b } ≡ t = cc in
    let s : placed (suc k) bs ≡ u ++ rest = cc in
    let h = front_bytes (suc k) bs u rest s in
    cc

module _ (bytes : List ℕ) (u rest : List Placed) (text : placed 0 bytes ≡ u ++ rest) where
  pub lengths : length bytes ≡ length u + length rest
  lengths = sym (placed_length 0 bytes) ∙ ap length text ∙ length-append u rest

  pub as_bytes : placed 0 (take (length u) bytes) ≡ u
  as_bytes = front_bytes 0 bytes u rest text

longer : (u : List Placed) (t : Placed) (more : List Placed) → u ++ t ∷ more ≡ (u ++ t ∷ []) ++ more
longer u t more = sym (append_assoc u (t ∷ []) more)

one_longer : (u : List Placed) (t : Placed) → length (u ++ t ∷ []) ≡ length u + 1
one_longer u t = length-append u (t ∷ [])

-- the last of some tokens, and those before it
data Last (u : List Placed) : Type 0 where
  nothing : u ≡ [] → Last u
  last_is : (init : List Placed) (t : Placed) → u ≡ init ++ t ∷ [] → Last u

after : (t : Placed) (u : List Placed) → Last u → Last (t ∷ u)
after t u (nothing e) = last_is [] t (ap (λ x. t ∷ x) e)
after t u (last_is init s e) = last_is (t ∷ init) s (ap (λ x. t ∷ x) e)

last_of : (u : List Placed) → Last u
last_of [] = nothing refl
last_of (t ∷ u) = after t u (last_of u)

-- the bytes before an offset begin with those before a smaller one
shorter : (k : ℕ) (bs : List ℕ) (n m : ℕ) → n ≤ m → (w : List Placed) × (placed k (take m bs) ≡ placed k (take n bs) ++ w)
shorter k bs zero m h = (placed k (take m bs), refl)
shorter k bs (suc n) zero h = absurd (omega (arith, h))
shorter k [] (suc n) (suc m) h = ([], refl)
shorter k (b ∷ bs) (suc n) (suc m) h = let p = shorter (suc k) bs n m (omega (arith, h)) in (p.0, ap (λ x. record { at = k; byte = b } ∷ x) p.1)

between : (n m : ℕ) → (n < m → ⊥) → (m < n → ⊥) → n ≡ m
between n m l g = omega arith

either_way : (n m : ℕ) → (n ≤ m → ⊥) → (m < n → ⊥) → ⊥
either_way n m l g = omega arith

none_before : {X : Type 0} (a b : List X) → a ++ b ≡ [] → a ≡ []
none_before [] b e = refl
none_before (t ∷ a) b e = cc

-- what is read to its end begins with what is read to its end
whole_before : {A : Type 0} (o final : Outcome Placed A) (x : List Placed) → IsSettled final → left final ≡ [] → Extends o x final → IsSettled o × (left o ≡ [])
whole_before o final x s l (inr h) = (h.0, h.1)
whole_before (Got v r) final x s l (inl h) = (tt, none_before r x (sym (ap left h) ∙ l))
whole_before (Stop r) final x s l (inl h) = (tt, none_before r x (sym (ap left h) ∙ l))
whole_before (Deep r) final x s l (inl h) = absurd (subst IsSettled h s)

-- `F`: the grammar, by which some byte is wanted; `start`: where the name or the number begins that some bytes end with
module _ {A : Type 0} (F : Rule A) (start : List ℕ → ℕ) (nothing_read : under F [] ≡ Stop []) where
  -- ---- the first fault

  no_byte_more : (bytes : List ℕ) (u rest : List Placed) → EndsLongest rules F (placed 0 bytes) u rest → length u < length bytes → IsFront F (take (length u + 1) bytes) → ⊥
  no_byte_more bytes u [] e h f = let l = lengths bytes u [] e.text in absurd (omega arith)
  no_byte_more bytes u (t ∷ more) e h f =
      let text : placed 0 bytes ≡ (u ++ t ∷ []) ++ more = e.text ∙ longer u t more in
      let same : placed 0 (take (length (u ++ t ∷ [])) bytes) ≡ u ++ t ∷ [] = as_bytes bytes (u ++ t ∷ []) more text in
      let all : placed 0 (take (length u + 1) bytes) ≡ u ++ t ∷ [] = subst (λ n. placed 0 (take n bytes) ≡ u ++ t ∷ []) (one_longer u t) same in
      e.longest t [] more refl (subst (λ x. forms.IsFront rules F x) all f)

  pub first_fault : (bytes : List ℕ) (u rest : List Placed) → EndsLongest rules F (placed 0 bytes) u rest → forms.IsFrontWithin rules in_limits 1 F u → IsFirstFault F bytes (length bytes - length rest)
  first_fault bytes u rest e w =
      let l = lengths bytes u rest e.text in
      let n : length u ≡ length bytes - length rest = omega arith in
      subst (IsFirstFault F bytes) n (record {
        in_text = omega arith;
        before = subst (λ x. forms.IsFrontWithin rules in_limits 1 F x) (sym (as_bytes bytes u rest e.text)) w;
        no_longer = no_byte_more bytes u rest e;
      })

  -- ---- a name or a number beyond its limit

  exactly : Exact (under F) (SpellsWithin rules in_limits 1 F) (BeginsWithin rules in_limits 1 F)
  exactly = exact (allows_at in_limits 1) (reading rules in_limits 1) (shrinks rules in_limits 1) (NameSpells rules in_limits 1) (NameBegins rules in_limits 1) (λ n. absurd n) F

  nothing_is_a_front : forms.IsFrontWithin rules in_limits 1 F []
  nothing_is_a_front = inl (exactly.stopped [] nothing_read)

  module _ (bytes : List ℕ) (rest : List Placed) (r : IsTooDeep rules F in_limits 1 (placed 0 bytes) rest) where
    beyond_at : Last r.front → IsBeyond F start bytes (start (take (length bytes - length rest) bytes))
    beyond_at (nothing e) = absurd (r.too_deep (subst (λ x. forms.IsFrontWithin rules in_limits 1 F x) (sym e) nothing_is_a_front))
    beyond_at (last_is init t e) =
        let l = lengths bytes r.front rest r.text in
        let n : length r.front ≡ length bytes - length rest = omega arith in
        let m : length r.front ≡ length init + 1 = ap length e ∙ one_longer init t in
        let text : placed 0 bytes ≡ init ++ t ∷ rest = r.text ∙ ap (λ x. x ++ rest) e ∙ append_assoc init (t ∷ []) rest in
        let whole : placed 0 (take (length init + 1) bytes) ≡ r.front = subst (λ k. placed 0 (take k bytes) ≡ r.front) m (as_bytes bytes r.front rest r.text) in
        record {
          last = length init;
          in_text = omega arith;
          before = subst (λ x. forms.IsFrontWithin rules in_limits 1 F x) (sym (as_bytes bytes init (t ∷ rest) text)) (r.first init [] t e);
          front = subst (λ x. forms.IsFront rules F x) (sym whole) r.is_front;
          beyond = λ f. r.too_deep (subst (λ x. forms.IsFrontWithin rules in_limits 1 F x) whole f);
          starts = ap (λ k. start (take k bytes)) (sym n ∙ m);
        }

    pub is_beyond : IsBeyond F start bytes (start (take (length bytes - length rest) bytes))
    is_beyond = beyond_at (last_of r.front)

  -- ---- within limits, too, a front of a front is one

  abbrev Within : List Placed → Type 0
  Within w = forms.IsFrontWithin rules in_limits 1 F w

  reads_front : (w : List Placed) → Within w → (o : Outcome Placed A) × (under F w ≡ o) × IsSettled o × (left o ≡ [])
  reads_front w (inl b) = (Stop [], exactly.begun w b, tt, refl)
  reads_front w (inr s) = (Got s.0 [], exactly.spelled w s.0 [] s.1, tt, refl)

  front_read : (w : List Placed) (o : Outcome Placed A) → under F w ≡ o → IsSettled o → left o ≡ [] → Within w
  front_read w (Got q rest) r s l = inr (q, exactly.got w q [] (r ∙ ap (Got q) l))
  front_read w (Stop rest) r s l = inl (exactly.stopped w (r ∙ ap Stop l))
  front_read w (Deep rest) r s l = absurd s

  local_at : Local (under F)
  local_at = read_local (allows_at in_limits 1) (reading rules in_limits 1) (shrinks rules in_limits 1) (λ n. absurd n) F

  within_of : (u w : List Placed) → Within (u ++ w) → Within u
  within_of u w f =
      let g = reads_front (u ++ w) f in
      let h : Extends (under F u) w g.0 = subst (λ o. Extends (under F u) w o) g.1 (local_at u w) in
      let k = whole_before (under F u) g.0 w g.2 g.3 h in
      front_read u (under F u) refl k.0 k.1

  module _ (bytes : List ℕ) (n m : ℕ) (h : n ≤ m) where
    within_to : Within (placed 0 (take m bytes)) → Within (placed 0 (take n bytes))
    within_to f = let w = shorter 0 bytes n m h in within_of (placed 0 (take n bytes)) w.0 (subst (λ x. Within x) w.1 f)

    front_to : IsFront F (take m bytes) → IsFront F (take n bytes)
    front_to f = let w = shorter 0 bytes n m h in front_of_front rules F (placed 0 (take n bytes)) w.0 (subst (λ x. forms.IsFront rules F x) w.1 f)

  -- ---- a text has one fault

  abbrev IsPlace : List ℕ → ℕ → Type 0
  IsPlace bytes at = IsFirstFault F bytes at ⊎ IsBeyond F start bytes at

  -- behind its longest front
  module _ (bytes : List ℕ) (u rest : List Placed) (e : EndsLongest rules F (placed 0 bytes) u rest) (w : Within u) where
    itself : placed 0 (take (length u) bytes) ≡ u
    itself = as_bytes bytes u rest e.text

    within_itself : Within (placed 0 (take (length u) bytes))
    within_itself = subst (λ x. Within x) (sym itself) w

    front_itself : IsFront F (take (length u) bytes)
    front_itself = front_without_limits rules F in_limits 1 (placed 0 (take (length u) bytes)) within_itself

    none_longer : (n : ℕ) → length u < n → n ≤ length bytes → IsFront F (take n bytes) → ⊥
    none_longer n h k f = no_byte_more bytes u rest e (omega arith) (front_to bytes (length u + 1) n (omega arith) f)

    one_end : (at : ℕ) → IsPlace bytes at → at ≡ length bytes - length rest
    one_end at (inl p) =
        let l = lengths bytes u rest e.text in
        let less : at < length u → ⊥ = λ h. p.no_longer (omega arith) (front_to bytes (at + 1) (length u) (omega arith) front_itself) in
        let more : length u < at → ⊥ = λ h. none_longer at h p.in_text (front_without_limits rules F in_limits 1 (placed 0 (take at bytes)) p.before) in
        let same : at ≡ length u = between at (length u) less more in
        omega arith
    one_end at (inr p) =
        absurd (either_way (p.last + 1) (length u)
        (λ h. p.beyond (within_to bytes (p.last + 1) (length u) h within_itself))
        (λ h. none_longer (p.last + 1) h (let k = p.in_text in omega arith) p.front))

  -- a name or a number beyond its limit, with which a front ends
  module _ (bytes : List ℕ) (rest : List Placed) (r : IsTooDeep rules F in_limits 1 (placed 0 bytes) rest) where
    deep_itself : placed 0 (take (length r.front) bytes) ≡ r.front
    deep_itself = as_bytes bytes r.front rest r.text

    not_within : (n : ℕ) → length r.front ≤ n → Within (placed 0 (take n bytes)) → ⊥
    not_within n h f = r.too_deep (subst (λ x. Within x) deep_itself (within_to bytes (length r.front) n h f))

    shorter_within : (n : ℕ) → n < length r.front → Last r.front → Within (placed 0 (take n bytes))
    shorter_within n h (nothing e) = absurd (omega (arith, ap length e))
    shorter_within n h (last_is init t e) =
        let m : length r.front ≡ length init + 1 = ap length e ∙ one_longer init t in
        let text : placed 0 bytes ≡ init ++ t ∷ rest = r.text ∙ ap (λ x. x ++ rest) e ∙ append_assoc init (t ∷ []) rest in
        within_to bytes n (length init) (omega arith) (subst (λ x. Within x) (sym (as_bytes bytes init (t ∷ rest) text)) (r.first init [] t e))

    deep_front : IsFront F (take (length r.front) bytes)
    deep_front = subst (λ x. forms.IsFront rules F x) (sym deep_itself) r.is_front

    one_beyond : (at : ℕ) → IsPlace bytes at → at ≡ start (take (length bytes - length rest) bytes)
    one_beyond at (inl p) =
        let l = lengths bytes r.front rest r.text in
        absurd (either_way (length r.front) at
        (λ h. not_within at h p.before)
        (λ h. p.no_longer (omega arith) (front_to bytes (at + 1) (length r.front) (omega arith) deep_front)))
    one_beyond at (inr p) =
        let l = lengths bytes r.front rest r.text in
        let less : p.last + 1 < length r.front → ⊥ = λ h. p.beyond (shorter_within (p.last + 1) h (last_of r.front)) in
        let more : length r.front < p.last + 1 → ⊥ = λ h. not_within p.last (omega arith) p.before in
        let same : p.last + 1 ≡ length r.front = between (p.last + 1) (length r.front) less more in
        let n : length r.front ≡ length bytes - length rest = omega arith in
        p.starts ∙ ap (λ k. start (take k bytes)) (same ∙ n)

  -- ---- what reading a text comes to

  module _ (bytes : List ℕ) (rest : List Placed) where
    abbrev ts : List Placed
    ts = placed 0 bytes

    reads_as : (q : A) → IsText F bytes q → under F ts ≡ Got q []
    reads_as q s = exactly.spelled ts q [] s

    goes_past : (q p : A) → under F ts ≡ Got q rest → (length rest ≡ 0 → ⊥) → IsText F bytes p → ⊥
    goes_past q p e l s = let k = reads_as p s in let none : rest ≡ [] = cc in l (ap length none)

    stops : (p : A) → under F ts ≡ Stop rest → IsText F bytes p → ⊥
    stops p e s = let k = reads_as p s in cc

    is_deep : (p : A) → under F ts ≡ Deep rest → IsText F bytes p → ⊥
    is_deep p e s = let k = reads_as p s in cc

  -- this is the answer to a text, but for want of memory
  pub record Said (bytes : List ℕ) (r : Result A SqlFault) : Type 0 where
    pub answers : AnswersBy F start bytes r
    pub is_told : r ≢ Err Memory
    pub only : (s : Result A SqlFault) → s ≢ Err Memory → AnswersBy F start bytes s → s ≡ r

  module _ (bytes : List ℕ) (q : A) (e : under F (placed 0 bytes) ≡ Got q []) where
    is_text : IsText F bytes q
    is_text = exactly.got (placed 0 bytes) q [] e

    only_statement : (s : Result A SqlFault) → s ≢ Err Memory → AnswersBy F start bytes s → s ≡ Ok q
    only_statement (Ok p) n a = let k = reads_as bytes [] p a in let same : p ≡ q = cc in ap Ok same
    only_statement (Err (Bad at)) n a = absurd (a.0 q is_text)
    only_statement (Err Memory) n a = absurd (n refl)

    said_statement : Said bytes (Ok q)
    said_statement = record { answers = is_text; is_told = λ h. absurd (cc); only = only_statement }

  module _ (bytes : List ℕ) (at : ℕ) (none : (q : A) → IsText F bytes q → ⊥) (place : IsPlace bytes at) (one : (k : ℕ) → IsPlace bytes k → k ≡ at) where
    only_fault : (s : Result A SqlFault) → s ≢ Err Memory → AnswersBy F start bytes s → s ≡ Err (Bad at)
    only_fault (Ok p) n a = absurd (none p a)
    only_fault (Err (Bad k)) n a = ap (λ x. Err (Bad x)) (one k a.1)
    only_fault (Err Memory) n a = absurd (n refl)

    said_fault : Said bytes (Err (Bad at))
    said_fault = record { answers = (none, place); is_told = λ h. absurd (cc); only = only_fault }

  said_past : (bytes : List ℕ) (rest : List Placed) (q : A) → under F (placed 0 bytes) ≡ Got q rest → (length rest ≡ 0 → ⊥) → Said bytes (Err (refusal start bytes (length rest) Syntax))
  said_past bytes rest q e l =
      let r = is_read rules F in_limits 1 (placed 0 bytes) rest q e in
      let w : Within r.front = inr (q, r.tree) in
      said_fault bytes (length bytes - length rest) (λ p s. goes_past bytes rest q p e l s) (inl (first_fault bytes r.front rest r.ends w)) (one_end bytes r.front rest r.ends w)

  said_stop : (bytes : List ℕ) (rest : List Placed) → under F (placed 0 bytes) ≡ Stop rest → Said bytes (Err (refusal start bytes (length rest) Syntax))
  said_stop bytes rest e =
      let r = is_refused rules F in_limits 1 (placed 0 bytes) rest e in
      let w : Within r.front = inl r.begins in
      said_fault bytes (length bytes - length rest) (λ p s. stops bytes rest p e s) (inl (first_fault bytes r.front rest r.ends w)) (one_end bytes r.front rest r.ends w)

  said_deep : (bytes : List ℕ) (rest : List Placed) → under F (placed 0 bytes) ≡ Deep rest → Said bytes (Err (refusal start bytes (length rest) TooDeep))
  said_deep bytes rest e =
      let r = is_too_deep rules F in_limits 1 (placed 0 bytes) rest e in
      said_fault bytes (start (take (length bytes - length rest) bytes)) (λ p s. is_deep bytes rest p e s) (inr (is_beyond bytes rest r)) (one_beyond bytes rest r)

  said : (bytes : List ℕ) (o : Outcome Placed A) → under F (placed 0 bytes) ≡ o → Said bytes (told F start bytes o)
  said bytes (Got q []) e = said_statement bytes q e
  said bytes (Got q (t ∷ more)) e = said_past bytes (t ∷ more) q e (λ z. absurd (omega (arith, z)))
  said bytes (Stop rest) e = said_stop bytes rest e
  said bytes (Deep rest) e = said_deep bytes rest e

  pub one_reading : (bytes : List ℕ) → HasOneReading (AnswersBy F start) (read_by F start) bytes
  one_reading bytes = let s = said bytes (under F (placed 0 bytes)) refl in record { answers = s.answers; is_told = s.is_told; only = s.only }

  -- ---- the same of what the code holds: the tokens that it read, and the count of those that it left

  -- what the text is read as, unless memory ran out
  abbrev pub IsRead : List ℕ → Result A SqlFault → Type 0
  IsRead bytes r = (r ≡ read_by F start bytes) ⊎ (r ≡ Err Memory)

  pub answers_of : (bytes : List ℕ) (r : Result A SqlFault) → IsRead bytes r → AnswersBy F start bytes r
  answers_of bytes r (inl e) = let h = one_reading bytes in subst (AnswersBy F start bytes) (sym e) h.answers
  answers_of bytes r (inr e) = subst (AnswersBy F start bytes) (sym e) tt

  pub found_of : (bytes : List ℕ) (r : Result A SqlFault) → IsRead bytes r → (q : A) → IsText F bytes q → (r ≡ Ok q) ⊎ (r ≡ Err Memory)
  found_of bytes r (inl e) q s = let h = one_reading bytes in inl (e ∙ sym (h.only (Ok q) (λ k. absurd (cc)) s))
  found_of bytes r (inr e) q s = inr e

  told_whole : (bytes : List ℕ) (q : A) (rest : List Placed) → length rest ≡ 0 → told F start bytes (Got q rest) ≡ Ok q
  told_whole bytes q [] e = refl
  told_whole bytes q (t ∷ more) e = absurd (omega (arith, e))

  told_past : (bytes : List ℕ) (q : A) (rest : List Placed) → (length rest ≡ 0 → ⊥) → told F start bytes (Got q rest) ≡ Err (refusal start bytes (length rest) Syntax)
  told_past bytes q [] n = absurd (n refl)
  told_past bytes q (t ∷ more) n = refl

  module _ (bytes : List ℕ) (tokens rest : List Placed) (left : ℕ) (is_text : tokens ≡ placed 0 bytes) (are_left : left ≡ length rest) where
    outcome : {o : Outcome Placed A} → under F tokens ≡ o → under F (placed 0 bytes) ≡ o
    outcome e = ap (under F) (sym is_text) ∙ e

    pub of_whole : (q : A) → under F tokens ≡ Got q rest → left ≡ 0 → IsRead bytes (Ok q)
    of_whole q e z = inl (sym (ap (told F start bytes) (outcome e) ∙ told_whole bytes q rest (sym are_left ∙ z)))

    here : (fault : Fault) (e : SqlFault) → e ≡ refusal start bytes left fault → IsRead bytes (Err (refusal start bytes (length rest) fault)) → IsRead bytes (Err e)
    here fault e s = subst (λ x. IsRead bytes (Err x)) (ap (λ k. refusal start bytes k fault) (sym are_left) ∙ sym s)

    pub of_past : (q : A) (e : SqlFault) → under F tokens ≡ Got q rest → (left ≡ 0 → ⊥) → e ≡ refusal start bytes left Syntax → IsRead bytes (Err e)
    of_past q e h n s = here Syntax e s (inl (sym (ap (told F start bytes) (outcome h) ∙ told_past bytes q rest (λ z. n (are_left ∙ z)))))

    faulted : (fault : Fault) → Reads (under F tokens) (Err fault) rest → IsRead bytes (Err (refusal start bytes (length rest) fault))
    faulted Syntax h = inl (sym (ap (told F start bytes) (outcome h)))
    faulted TooDeep h = inl (sym (ap (told F start bytes) (outcome h)))
    faulted f.Memory h = inr refl

    pub of_fault : (fault : Fault) (e : SqlFault) → Reads (under F tokens) (Err fault) rest → e ≡ refusal start bytes left fault → IsRead bytes (Err e)
    of_fault fault e h s = here fault e s (faulted fault h)

-- one byte more of where the last word or number begins
pub one_byte : (start i : ℕ) (bs : List ℕ) → i < length bs → last_start (next_start start i (slice_index_or bs i 0)) (i + 1) (drop (i + 1) bs) ≡ last_start start i (drop i bs)
one_byte start i bs h =
    let same : suc i ≡ i + 1 = omega arith in
    subst (λ n. last_start (next_start start i (slice_index_or bs i 0)) n (drop n bs) ≡ last_start start i (drop i bs)) same (sym (ap (last_start start i) (at_letter i bs h)))

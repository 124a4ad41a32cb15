-- Steps of writes that leave, by what their parts answered.
use Rattle.std.proofs.Common.{◌≡◌, ℕ, suc, ◌+◌, ◌<◌, List, [], ◌∷◌, ◌++◌, length, drop, get_or, Bool, true, false, cond, not, ◌||◌, Option, None, Some, Result, Ok, Err, refl, sym, ap, subst, ◌∙◌, arith}
use Rattle.std.specs.Prelude.{◌==◌, nat_eq, nat_lt, unwrap_or, IsTrue, OnOk, option_map}
use Rattle.std.specs.List.{list_any, filter, flat_map, position, position_or_len, prefix_len}
use Rattle.std.proofs.Math.Seq.{drop-cons}
use Rattle.std.proofs.lemmas.Bool.Decides.{nat_tests}
use Rattle.std.proofs.lemmas.List.Folds.{list_any-append}
use Rattle.std.proofs.lemmas.List.Sums.{passes_at_first}
use Rattle.resin_eval_nested.specs.Under.bytes.declared.header.Header.{Header as HeaderField}
use Rattle.resin_eval_nested.specs.Under.label.Sets.{NumberSet, contains, numbers, empty as no_labels}
use Rattle.resin_eval_nested.proofs.label_lemmas.Members.{contains-numbers}
use Rattle.resin_eval_nested.specs.Under.lstr.Texts.{Text as LabelledText, bytes_of, sets_of, distinct, policies_in_order, first_run}
use Rattle.resin_eval_nested.specs.Under.journal.declared.channel.Channel.{Channel}
use Rattle.resin_eval_nested.specs.Under.journal.Access.{is_among}
use Rattle.resin_eval_nested.specs.Under.stage.Lines.{header_line}
use Rattle.resin_eval_nested.specs.Under.heap.declared.prelude.PreludeClass.{PreludeClass}
use Rattle.resin_eval_nested.specs.Under.heap.declared.prelude.PreludeClass.TheVariants.{ValueError}
use Rattle.resin_eval_nested.specs.Under.machine.declared.stop.Stop.{Stop}
use Rattle.resin_eval_nested.specs.Under.machine.declared.stop.Stop.TheVariants.{Thrown, Exit, Fault, Keeper, Memory}
use Rattle.resin_eval_nested.specs.Under.machine.State.{State}
use Rattle.resin_eval_nested.specs.Under.machine.Steps.{Acts, ActsLoosely, ActedLoosely}
use Rattle.resin_eval_nested.specs.Under.machine.Objects.{throw_new, last_number}
use Rattle.resin_eval_nested.specs.Under.machine.Leaving.{pass, deny, send_header, IsUnderWay}
use Rattle.resin_eval_nested.proofs.target_lemmas.stage_laws.{open_passed}
use Rattle.resin_eval_nested.specs.Under.meaning.Programs.{Prog, give, stop, act, ◌>>=◌}
use Rattle.resin_eval_nested.specs.Under.meaning.Runs.{world}
use Rattle.resin_eval_nested.specs.Under.meaning.LeavingWrites.{judged}
use Rattle.resin_eval_nested.proofs.meaning_lemmas.Composition.{does_act, does_loosely, does_next, does_stop, does_give, does_ended, none_here}
use Rattle.resin_eval_nested.specs.Under.meaning_forms.Runs.{Runs}
use Rattle.resin_eval_nested.specs.Under.meaning_forms.Parts.{thrown_new, ◌>>◌}
use Rattle.resin_eval_nested.specs.Under.meaning_forms.Writes.{chain_for, channel_of, header_or_throw}
use Rattle.resin_eval_nested.specs.Under.meaning_forms.declared.outgoing.Outgoing.{Outgoing}
use Rattle.resin_eval_nested.specs.Under.meaning_forms.declared.outgoing.Outgoing.TheVariants.{Page, Header as HeaderLine, Status, Mail}
use Rattle.resin_eval_nested.specs.Under.scope.Chained.{chain_of}
use Rattle.resin_eval_writes.proofs.HeaderLines.{any_place}
use Rattle.resin_eval_nested.proofs.step_parts_lemmas.Steps.{runs_as}

-- ---- the bytes that carry a policy

any_kept : {X : Type 0} (t q : X → Bool) (xs : List X) → list_any t (filter q xs) ≡ true → list_any t xs ≡ true
any_kept t q [] h = h
any_kept t q (x ∷ xs) h = by (q x) (any_kept t q xs) h
  where
    either : (b : Bool) → (list_any t (filter q xs) ≡ true → list_any t xs ≡ true) → b || list_any t (filter q xs) ≡ true → b || list_any t xs ≡ true
    either true more h = refl
    either false more h = more h

    or_true : (b c : Bool) → b ≡ true → c || b ≡ true
    or_true b true e = refl
    or_true b false e = e

    by : (k : Bool) → (list_any t (filter q xs) ≡ true → list_any t xs ≡ true) → list_any t (cond k (x ∷ filter q xs) (filter q xs)) ≡ true → t x || list_any t xs ≡ true
    by true more h = either (t x) more h
    by false more h = or_true (list_any t xs) (t x) (more h)

any_distinct : {X : Type 0} (t : X → Bool) (eq : X → X → Bool) (xs : List X) → list_any t (distinct eq xs) ≡ true → list_any t xs ≡ true
any_distinct t eq [] h = h
any_distinct t eq (x ∷ xs) h = by (t x) (λ k. any_distinct t eq xs (any_kept t (λ y. not (eq x y)) (distinct eq xs) k)) h
  where
    by : (b : Bool) → (list_any t (filter (λ y. not (eq x y)) (distinct eq xs)) ≡ true → list_any t xs ≡ true) → b || list_any t (filter (λ y. not (eq x y)) (distinct eq xs)) ≡ true → b || list_any t xs ≡ true
    by true more h = refl
    by false more h = more h

any_carried : (p : ℕ) (ss : List NumberSet) → list_any (λ q. q == p) (flat_map numbers ss) ≡ list_any (λ s. contains s p) ss
any_carried p [] = refl
any_carried p (s ∷ ss) =
    list_any-append (λ q. q == p) (numbers s) (flat_map numbers ss)
    ∙ ((λ i. list_any (λ q. q == p) (numbers s) || any_carried p ss i)
    ∙ ap (λ b. b || list_any (λ r. contains r p) ss) (sym (contains-numbers s p)))

range_here : {X : Type 0} (c : X → Bool) (xs : List X) (x : X) (rest : List X) (start : ℕ) → xs ≡ x ∷ rest → c x ≡ true → start < start + prefix_len c xs
range_here c xs x rest start e h =
    let n : prefix_len c xs ≡ 1 + prefix_len c rest = ap (prefix_len c) e ∙ ap (λ b. cond b (1 + prefix_len c rest) 0) h in
    omega (arith, n)

abbrev run_in : {X : Type 0} → (X → Bool) → List X → Option ℕ → Option (ℕ × ℕ)
run_in c xs o = option_map (λ start. (start, start + prefix_len c (drop start xs))) o

abbrev run_or_none : Option (ℕ × ℕ) → ℕ × ℕ
run_or_none o = unwrap_or o (0, 0)

run_range : {X : Type 0} (c : X → Bool) (d : X) (xs : List X) → list_any c xs ≡ true → (run_or_none (run_in c xs (position c xs))).0 < (run_or_none (run_in c xs (position c xs))).1
run_range {X = X} c d xs h =
    let there : nat_lt (position_or_len c xs) (length xs) ≡ true = sym (any_place c xs) ∙ h in
    let lt : position_or_len c xs < length xs = under (position_or_len c xs) (length xs) there in
    let range = range_here c (drop (position_or_len c xs) xs) (get_or xs (position_or_len c xs) d) (drop (suc (position_or_len c xs)) xs) (position_or_len c xs) (drop-cons xs (position_or_len c xs) d lt) (passes_at_first c xs d lt) in
    subst (λ (b : Bool). (run_or_none (run_in c xs (cond b (Some (position_or_len c xs)) None))).0 < (run_or_none (run_in c xs (cond b (Some (position_or_len c xs)) None))).1) (sym there) range
  where
    under : (k n : ℕ) → nat_lt k n ≡ true → k < n
    under k n e = grind (arith, nat_tests)

-- a text that carries a policy has a range of bytes that carry it
pub carried_range : (p : ℕ) (t : LabelledText) (r : ℕ × ℕ) → r ≡ run_or_none (first_run p t) → IsTrue (is_among p (policies_in_order t)) → r.0 < r.1
carried_range p t r e h =
    let among : list_any (λ q. q == p) (flat_map numbers (sets_of t)) ≡ true = any_distinct (λ q. q == p) nat_eq (flat_map numbers (sets_of t)) h in
    subst (λ (x : ℕ × ℕ). x.0 < x.1) (sym e) (run_range (λ s. contains s p) no_labels (sets_of t) (sym (any_carried p (sets_of t)) ∙ among))

-- ---- thrown exceptions end what goes on

stop_cast : {A B : Type 0} (b : Bool) (x z s : Stop) (m n m' : State) → ◌≡◌ {A = Result A Stop × State} (cond b (Err x, m) (Err z, n)) (Err s, m') → ◌≡◌ {A = Result B Stop × State} (cond b (Err x, m) (Err z, n)) (Err s, m')
stop_cast {A = A} {B = B} b x z s m n m' e = by b e
  where
    same_stop : (x y : Stop) → ◌≡◌ {A = Result A Stop} (Err x) (Err y) → x ≡ y
    same_stop x y h = cc

    recast : (x : Stop) (m : State) → ◌≡◌ {A = Result A Stop × State} (Err x, m) (Err s, m') → ◌≡◌ {A = Result B Stop × State} (Err x, m) (Err s, m')
    recast x m e =
        let q : x ≡ s = same_stop x s (ap (λ (p : Result A Stop × State). p.0) e) in
        λ i. (let r : Result B Stop = Err (q i) in r, ap (λ (p : Result A Stop × State). p.1) e i)

    by : (b : Bool) → ◌≡◌ {A = Result A Stop × State} (cond b (Err x, m) (Err z, n)) (Err s, m') → ◌≡◌ {A = Result B Stop × State} (cond b (Err x, m) (Err z, n)) (Err s, m')
    by true e = recast x m e
    by false e = recast z n e

no_value : {A : Type 0} (b : Bool) (x z : Stop) (v : A) (m n m' : State) → ◌≡◌ {A = Result A Stop × State} (cond b (Err x, m) (Err z, n)) (Ok v, m') → ⊥
no_value {A = A} b x z v m n m' e = by b e
  where
    no : (s : Stop) → ◌≡◌ {A = Result A Stop} (Err s) (Ok v) → ⊥
    no s h = cc

    by : (b : Bool) → ◌≡◌ {A = Result A Stop × State} (cond b (Err x, m) (Err z, n)) (Ok v, m') → ⊥
    by true e = no x (ap (λ (p : Result A Stop × State). p.0) e)
    by false e = no z (ap (λ (p : Result A Stop × State). p.0) e)

thrown_acted : (A B : Type 0) (class : PreludeClass) (m : State) (s : Stop) (m' : State) → ActedLoosely (throw_new {A = A} class []) m (Err s) m' → ActedLoosely (throw_new {A = B} class []) m (Err s) m'
thrown_acted A B class m (Thrown o) m' h = stop_cast {A = A} {B = B} (nat_lt (length m.heap) last_number) _ _ (Thrown o) _ _ m' h
thrown_acted A B class m Exit m' h = stop_cast {A = A} {B = B} (nat_lt (length m.heap) last_number) _ _ Exit _ _ m' h
thrown_acted A B class m (Fault x line) m' h = stop_cast {A = A} {B = B} (nat_lt (length m.heap) last_number) _ _ (Fault x line) _ _ m' h
thrown_acted A B class m Keeper m' h = h
thrown_acted A B class m Memory m' h = h

-- a throw in place of a first part
pub thrown_first : {A B : Type 0} (class : PreludeClass) (g : A → Prog B) (m : State) (r : Result B Stop) (m' : State) → ActsLoosely (throw_new {A = B} class []) m r m' → Runs (thrown_new {A = A} class >>= g) m r m'
thrown_first {A = A} {B = B} class g m (Ok v) m' h f t k = absurd (no_value {A = B} (nat_lt (length m.heap) last_number) _ _ v _ _ m' h.acted)
thrown_first {A = A} {B = B} class g m (Err s) m' h f t k =
    does_stop (thrown_new {A = A} class) g
    (does_loosely (throw_new {A = A} class []) f t k (record {
      acted = thrown_acted B A class m s m' h.acted;
      ticks = h.ticks;
      keeps = h.keeps;
      ties = λ ne u. h.ties (λ e. ne (other e)) u;
    }))
  where
    other : ◌≡◌ {A = Result B Stop} (Err s) (Err Memory) → ◌≡◌ {A = Result A Stop} (Err s) (Err Memory)
    other e = let q : s ≡ Memory = cc in ap (λ (x : Stop). let r : Result A Stop = Err x in r) q

-- ---- header lines

abbrev tested : LabelledText → Option HeaderField → Prog LabelledText
tested d o = header_or_throw o >> give d

pub line_passes : (d : LabelledText) (o : Option HeaderField) (h : HeaderField) (m : State) → o ≡ header_line (bytes_of d) → o ≡ Some h → Runs (header_or_throw (header_line (bytes_of d)) >> give d) m (Ok d) m
line_passes d o h m is e =
    runs_as (tested d (header_line (bytes_of d))) (tested d (Some h)) m (Ok d) m (ap (tested d) (sym is ∙ e))
    (λ f t k. does_next (give h) (λ x. give d) (does_give h (world m f t k)) (does_give d (world m f t k)))

pub line_throws : (d : LabelledText) (o : Option HeaderField) (m : State) (r : Result LabelledText Stop) (m' : State) → o ≡ header_line (bytes_of d) → o ≡ None → ActsLoosely (throw_new ValueError []) m r m'
    → Runs (header_or_throw (header_line (bytes_of d)) >> give d) m r m'
line_throws d o m r m' is e h =
    runs_as (tested d (header_line (bytes_of d))) (tested d None) m r m' (ap (tested d) (sym is ∙ e)) (thrown_first ValueError (λ x. give d) m r m' h)

abbrev sending : ℕ → LabelledText → Bool → Option HeaderField → Prog (Unit {0})
sending w d replace o = header_or_throw o >>= λ h. act (send_header w d h.name h.value replace)

pub line_sent : (w : ℕ) (d : LabelledText) (replace : Bool) (o : Option HeaderField) (h : HeaderField) (m : State) (r : Result (Unit {0}) Stop) (m' : State) → o ≡ header_line (bytes_of d) → o ≡ Some h
    → ActsLoosely (send_header w d h.name h.value replace) m r m' → Runs (sending w d replace (header_line (bytes_of d))) m r m'
line_sent w d replace o h m r m' is e a =
    runs_as (sending w d replace (header_line (bytes_of d))) (sending w d replace (Some h)) m r m' (ap (sending w d replace) (sym is ∙ e))
    (λ f t k. does_next (give h) (λ x. act (send_header w d x.name x.value replace)) (does_give h (world m f t k)) (does_loosely (send_header w d h.name h.value replace) f t k a))

pub line_unsent : (w : ℕ) (d : LabelledText) (replace : Bool) (o : Option HeaderField) (m : State) (r : Result (Unit {0}) Stop) (m' : State) → o ≡ header_line (bytes_of d) → o ≡ None
    → ActsLoosely (throw_new ValueError []) m r m' → Runs (sending w d replace (header_line (bytes_of d))) m r m'
line_unsent w d replace o m r m' is e a =
    runs_as (sending w d replace (header_line (bytes_of d))) (sending w d replace None) m r m' (ap (sending w d replace) (sym is ∙ e))
    (thrown_first ValueError (λ h. act (send_header w d h.name h.value replace)) m r m' a)

-- ---- the end of a check

-- a policy passed, and the write goes on
pub passes_on : (w p : ℕ) (m : State) (r : Result (Unit {0}) Stop) (m' : State) → Acts (pass w p) m r m' → OnOk r ((ps : List ℕ) → IsUnderWay w ps m → is_among p ps ≡ false → IsUnderWay w (ps ++ p ∷ []) m')
passes_on w p m (Err s) m' a = tt
passes_on w p m (Ok u) m' a = λ ps way out.
    subst (λ (x : State). IsUnderWay w (ps ++ p ∷ []) x) (ap (λ (q : Result (Unit {0}) Stop × State). q.1) a.acted)
    (record { way = open_passed m.stage.journal m.stage.writes w p ps way.way out; awake = way.awake })

abbrev denied_then : ℕ → Channel → ℕ → ℕ → ℕ × ℕ → Prog (Unit {0})
denied_then w c p thrown run = act (deny w c p run.0 run.1 thrown) >>= λ _. stop (Thrown thrown)

pub denied : (w p thrown : ℕ) (c : Channel) (t : LabelledText) (run : ℕ × ℕ) (m m' : State) → run ≡ unwrap_or (first_run p t) (0, 0) → Acts (deny w c p run.0 run.1 thrown) m (Ok tt) m'
    → Runs (judged w c t p (Err thrown)) m (Err (Thrown thrown)) m'
denied w p thrown c t run m m' e a =
    runs_as (judged w c t p (Err thrown)) (denied_then w c p thrown run) m (Err (Thrown thrown)) m' (ap (denied_then w c p thrown) (sym e))
    (λ f u k. does_next (act (deny w c p run.0 run.1 thrown)) (λ x. stop (Thrown thrown)) (does_act (deny w c p run.0 run.1 thrown) f u k a)
    (does_ended (Err (Thrown thrown)) (world m' f u k) (none_here (world m' f u k))))

pub denial_stops : (w p thrown : ℕ) (c : Channel) (t : LabelledText) (run : ℕ × ℕ) (m m' : State) (s : Stop) → run ≡ unwrap_or (first_run p t) (0, 0) → Acts (deny w c p run.0 run.1 thrown) m (Err s) m'
    → Runs (judged w c t p (Err thrown)) m (Err s) m'
denial_stops w p thrown c t run m m' s e a =
    runs_as (judged w c t p (Err thrown)) (denied_then w c p thrown run) m (Err s) m' (ap (denied_then w c p thrown) (sym e))
    (λ f u k. does_stop (act (deny w c p run.0 run.1 thrown)) (λ x. stop (Thrown thrown)) (does_act (deny w c p run.0 run.1 thrown) f u k a))

-- ---- the filters that are asked

pub chain_asked : (what : Outgoing) (m : State) → ((status : ℕ) → what ≡ Status status → ⊥) → chain_for what m ≡ chain_of (channel_of what) m.chains
chain_asked Page m h = refl
chain_asked (HeaderLine replace) m h = refl
chain_asked (Status status) m h = absurd (h status refl)
chain_asked (Mail to subject) m h = refl

-- Thawing an entry, by what its parts answered.
use Rattle.std.proofs.Common.{◌≡◌, ℕ, suc, ◌+◌, ◌<◌, ◌≤◌, Bool, true, false, cond, List, [], ◌∷◌, ◌++◌, length, map, drop, get_or, slice_get, None, Some, Result, Ok, Err, IsErrAnd, refl, sym, ap, subst, ◌∙◌, arith}
use Rattle.std.specs.Prelude.{Option, nat_lt, codes}
use Rattle.std.proofs.lemmas.Result.{err_from_is_err_and}
use Rattle.resin_frozen.specs.Reading.{Said, said}
use Rattle.resin_shadow.specs.Marks.{Marks, policies}
use Rattle.resin_step_parts.specs.Under.store.Entries.{Marked, LabelledEntry, Good, Bad, plain, lift, plain_bytes, marks, marks_in}
use Rattle.resin_step_parts.proofs.meaning_lemmas.OneCall.{kept_entry}
use Rattle.resin_step_parts.specs.Under.base.declared.files.Entry.{Entry}
use Rattle.resin_step_parts.specs.Under.lstr.declared.limits.TheConstants.{LONGEST}
use Rattle.resin_step_parts.specs.Under.lstr.Texts.{Text as LabelledText}
use Rattle.resin_step_parts.specs.Under.scalar.declared.faults.ScriptFault.{ScriptFault}
use Rattle.resin_step_parts.specs.Under.scalar.declared.faults.ScriptFault.TheVariants.{TextTooLong, BadShadow}
use Rattle.resin_step_parts.specs.Under.value.declared.key.Key.{Key}
use Rattle.resin_step_parts.specs.Under.value.declared.value.Value.{Value}
use Rattle.resin_step_parts.specs.Under.value.Arrays.{EntryList, Array}
use Rattle.resin_step_parts.specs.Under.value.Seen.{tree_of}
use Rattle.resin_step_parts.specs.Under.value.Values.{value_of, value_of-tree_of}
use Rattle.resin_step_parts.specs.Under.machine.declared.stop.Stop.{Stop}
use Rattle.resin_step_parts.specs.Under.machine.declared.stop.Stop.TheVariants.{Fault, Memory}
use Rattle.resin_step_parts.specs.Under.machine.State.{State}
use Rattle.resin_step_parts.specs.Under.machine.Steps.{Acts, charge, faults}
use Rattle.resin_step_parts.specs.Under.machine.Objects.{set_field}
use Rattle.resin_step_parts.specs.Under.meaning.Programs.{Prog, give, act, ◌>>=◌}
use Rattle.resin_step_parts.specs.Under.meaning.Runs.{world, Does}
use Rattle.resin_step_parts.proofs.meaning_lemmas.Composition.{does_act, does_next, does_give, does_stop, does_lost, does_unbegun, does_unbegun_exit, front, nothing_left}
use Rattle.resin_step_parts.specs.Under.meaning_forms.Keeping.{name_in, set_fields, remade, policy_class, thaw_policy, thaw_policies, thaw_said, labelled, thaw_marked, thaw_short, thaw_entry, size}
use Rattle.resin_step_parts.specs.Under.meaning_forms.Parts.{faulted, looked, ◌>>◌}
use Rattle.resin_step_parts.specs.Under.meaning_forms.Runs.{Runs, on_ok}
use Rattle.resin_step_parts.proofs.Answered.{does_looked}
use Rattle.resin_step_parts.proofs.Loops.{leaves_next, leaves_done, handed_seen}
use Rattle.resin_step_parts.proofs.Pure.{drop_at}
use Rattle.resin_step_parts.proofs.Steps.{Leaves, does_faulted, does_handed, does_lost_act, runs_as}

-- ---- fields

-- the program of the field at a place, and of those behind it
left_field : (o : ℕ) (es : EntryList) (i : ℕ) (key : Key) (v : Value) → slice_get es i ≡ Some (key, tree_of v) → set_fields o (drop i es) ≡ (act (set_field o (name_in key) v) >>= λ _. set_fields o (drop (i + 1) es))
left_field o es i key v at =
    ap (set_fields o) (drop_at es i (key, tree_of v) at) ∙ ap (λ x. act (set_field o (name_in key) x) >>= λ _. set_fields o (drop (i + 1) es)) (value_of-tree_of v)

pub field_more : (o : ℕ) (es : EntryList) (i : ℕ) (key : Key) (v w : Value) (name : List ℕ) (m0 m m' : State) → slice_get es i ≡ Some (key, tree_of v) → name ≡ name_in key → w ≡ v → Acts (set_field o name w) m (Ok tt) m'
    → Leaves (set_fields o es) m0 (set_fields o (drop i es)) m → Leaves (set_fields o es) m0 (set_fields o (drop (i + 1) es)) m'
field_more o es i key v w name m0 m m' at n e h l =
    leaves_next (set_fields o es) (set_fields o (drop i es)) (act (set_field o (name_in key) v)) (λ _. set_fields o (drop (i + 1) es)) m0 m m' tt (left_field o es i key v at) l
    (λ f u k. does_act (set_field o (name_in key) v) f u k (subst (λ x. Acts (set_field o x v) m (Ok tt) m') n (subst (λ x. Acts (set_field o name x) m (Ok tt) m') e h)))

pub field_stops : (o : ℕ) (es : EntryList) (i : ℕ) (key : Key) (v w : Value) (name : List ℕ) (m0 m m' : State) (z : Stop) (r : Result (Unit {0}) Stop) → slice_get es i ≡ Some (key, tree_of v) → name ≡ name_in key → w ≡ v → Acts (set_field o name w) m (Err z) m'
    → Leaves (set_fields o es) m0 (set_fields o (drop i es)) m → IsErrAnd r (λ e. e ≡ z) → Runs (set_fields o es) m0 r m'
field_stops o es i key v w name m0 m m' z r at n e h l is f u k =
    (l f u k).goes_on r (world m' f u k)
    (subst (λ (q : Prog (Unit {0})). Does q (world m f u k) r (world m' f u k)) (sym (left_field o es i key v at))
    (does_handed (act (set_field o (name_in key) v) >>= λ _. set_fields o (drop (i + 1) es)) r is
    (does_stopping (does_act (set_field o (name_in key) v) f u k (subst (λ x. Acts (set_field o x v) m (Err z) m') n (subst (λ x. Acts (set_field o name x) m (Err z) m') e h))))))
  where
    does_stopping : Does (act (set_field o (name_in key) v)) (world m f u k) (Err z) (world m' f u k) → Does (act (set_field o (name_in key) v) >>= λ _. set_fields o (drop (i + 1) es)) (world m f u k) (Err z) (world m' f u k)
    does_stopping d = does_stop (act (set_field o (name_in key) v)) (λ _. set_fields o (drop (i + 1) es)) d

-- want of memory before a field is set
pub field_lost : (o : ℕ) (es : EntryList) (i : ℕ) (key : Key) (v : Value) (m0 m : State) (r : Result (Unit {0}) Stop) → slice_get es i ≡ Some (key, tree_of v)
    → Leaves (set_fields o es) m0 (set_fields o (drop i es)) m → IsErrAnd r (λ e. e ≡ Memory) → Runs (set_fields o es) m0 r m
field_lost o es i key v m0 m r at l is f u k =
    (l f u k).goes_on r (world m f u k)
    (subst (λ (q : Prog (Unit {0})). Does q (world m f u k) r (world m f u k)) (sym (left_field o es i key v at))
    (does_handed (act (set_field o (name_in key) v) >>= λ _. set_fields o (drop (i + 1) es)) r is (does_unbegun (act (set_field o (name_in key) v)) (λ _. set_fields o (drop (i + 1) es)))))

pub fields_done : (o : ℕ) (es : EntryList) (i : ℕ) (m0 m : State) → length es ≤ i → Leaves (set_fields o es) m0 (set_fields o (drop i es)) m → Runs (set_fields o es) m0 (Ok tt) m
fields_done o es i m0 m h l = leaves_done (set_fields o es) (set_fields o (drop i es)) tt m0 m (ap (set_fields o) (nothing_left es i h)) l

-- ---- policies

left_policy : (texts : List (List ℕ)) (i : ℕ) (t : List ℕ) (objects : List ℕ) → i < length texts → t ≡ get_or texts i t → thaw_policies objects (drop i texts) ≡ (thaw_policy t >>= λ o. thaw_policies (objects ++ o ∷ []) (drop (i + 1) texts))
left_policy texts i t objects h is = ap (thaw_policies objects) (front texts i t h is)

abbrev Begun : List (List ℕ) → ℕ → List ℕ → State → State → Type 0
Begun texts i objects m0 m = Leaves (thaw_policies [] texts) m0 (thaw_policies objects (drop i texts)) m

pub policy_more : (texts : List (List ℕ)) (i : ℕ) (t : List ℕ) (objects new : List ℕ) (o : ℕ) (m0 m m' : State) → i < length texts → t ≡ get_or texts i t → new ≡ objects ++ o ∷ [] → Runs (thaw_policy t) m (Ok o) m'
    → Begun texts i objects m0 m → Begun texts (i + 1) new m0 m'
policy_more texts i t objects new o m0 m m' h is n d l =
    subst (λ os. Begun texts (i + 1) os m0 m') (sym n)
    (leaves_next (thaw_policies [] texts) (thaw_policies objects (drop i texts)) (thaw_policy t) (λ o. thaw_policies (objects ++ o ∷ []) (drop (i + 1) texts)) m0 m m' o (left_policy texts i t objects h is) l d)

pub policy_stops : {A : Type 0} (g : A → List ℕ) (texts : List (List ℕ)) (i : ℕ) (t : List ℕ) (objects : List ℕ) (m0 m m' : State) (z : Stop) (r : Result A Stop) → i < length texts → t ≡ get_or texts i t → Runs (thaw_policy t) m (Err z) m'
    → Begun texts i objects m0 m → IsErrAnd r (λ e. e ≡ z) → Runs (thaw_policies [] texts) m0 (on_ok g r) m'
policy_stops g texts i t objects m0 m m' z r h is d l e f u k =
    handed_seen g (thaw_policies [] texts) r e
    ((l f u k).goes_on (Err z) (world m' f u k)
    (subst (λ (q : Prog (List ℕ)). Does q (world m f u k) (Err z) (world m' f u k)) (sym (left_policy texts i t objects h is))
    (does_stop (thaw_policy t) (λ o. thaw_policies (objects ++ o ∷ []) (drop (i + 1) texts)) (d f u k))))

-- want of memory behind an object
pub policy_lost : {A : Type 0} (g : A → List ℕ) (texts : List (List ℕ)) (i : ℕ) (t : List ℕ) (objects : List ℕ) (o : ℕ) (m0 m m' : State) (r : Result A Stop) → i < length texts → t ≡ get_or texts i t → Runs (thaw_policy t) m (Ok o) m'
    → Begun texts i objects m0 m → IsErrAnd r (λ e. e ≡ Memory) → Runs (thaw_policies [] texts) m0 (on_ok g r) m'
policy_lost g texts i t objects o m0 m m' r h is d l e f u k =
    handed_seen g (thaw_policies [] texts) r e
    ((l f u k).goes_on (Err Memory) (world m' f u k)
    (subst (λ (q : Prog (List ℕ)). Does q (world m f u k) (Err Memory) (world m' f u k)) (sym (left_policy texts i t objects h is))
    (does_lost (thaw_policy t) (λ o. thaw_policies (objects ++ o ∷ []) (drop (i + 1) texts)) (d f u k))))

pub policies_done : (texts : List (List ℕ)) (i : ℕ) (objects : List ℕ) (m0 m : State) → length texts ≤ i → Begun texts i objects m0 m → Runs (thaw_policies [] texts) m0 (Ok objects) m
policies_done texts i objects m0 m h l = leaves_done (thaw_policies [] texts) (thaw_policies objects (drop i texts)) objects m0 m (ap (thaw_policies objects) (nothing_left texts i h)) l

-- ---- one policy

pub remade_is : (text : List ℕ) (p : Said) (class : Option ℕ) (m : State) (r : Result ℕ Stop) (m' : State) → said text ≡ Some p → class ≡ policy_class p.0 m → Runs (remade p class) m r m' → Runs (thaw_policy text) m r m'
remade_is text p class m r m' e c d =
    runs_as (thaw_policy text) (thaw_said (Some p)) m r m' (ap thaw_said e)
    (λ f u k. does_next (looked (policy_class p.0)) (remade p) (does_looked (policy_class p.0) class m c f u k) (d f u k))

-- ---- the whole

pub charge_stops : (d : Marked) (count : ℕ) (m m' : State) (z : Stop) (r : Result LabelledText Stop) → count ≡ length (policies (marks d)) → Acts (charge count) m (Err z) m' → IsErrAnd r (λ e. e ≡ z) → Runs (thaw_marked d) m r m'
charge_stops d count m m' z r n h is f u k =
    does_handed (thaw_marked d) r is
    (does_stop (act (charge (length (policies (marks d))))) _ (does_act (charge (length (policies (marks d)))) f u k (subst (λ x. Acts (charge x) m (Err z) m') n h)))

pub charged_stops : (d : Marked) (count : ℕ) (ps : List (List ℕ)) (m m1 m2 : State) (z : Stop) (r : Result LabelledText Stop) → count ≡ length (policies (marks d)) → ps ≡ policies (marks d) → Acts (charge count) m (Ok tt) m1
    → Runs (thaw_policies [] ps) m1 (Err z) m2 → IsErrAnd r (λ e. e ≡ z) → Runs (thaw_marked d) m r m2
charged_stops d count ps m m1 m2 z r n p h g is f u k =
    does_handed (thaw_marked d) r is
    (does_next (act (charge (length (policies (marks d))))) _ (does_act (charge (length (policies (marks d)))) f u k (subst (λ x. Acts (charge x) m (Ok tt) m1) n h))
    (does_stop (thaw_policies [] (policies (marks d))) _ (subst (λ x. Runs (thaw_policies [] x) m1 (Err z) m2) p g f u k)))

pub made_lost : (d : Marked) (count : ℕ) (ps : List (List ℕ)) (objects : List ℕ) (m m1 m2 : State) (r : Result LabelledText Stop) → count ≡ length (policies (marks d)) → ps ≡ policies (marks d) → Acts (charge count) m (Ok tt) m1
    → Runs (thaw_policies [] ps) m1 (Ok objects) m2 → IsErrAnd r (λ e. e ≡ Memory) → Runs (thaw_marked d) m r m2
made_lost d count ps objects m m1 m2 r n p h g is f u k =
    does_handed (thaw_marked d) r is
    (does_next (act (charge (length (policies (marks d))))) _ (does_act (charge (length (policies (marks d)))) f u k (subst (λ x. Acts (charge x) m (Ok tt) m1) n h))
    (does_lost (thaw_policies [] (policies (marks d))) _ (subst (λ x. Runs (thaw_policies [] x) m1 (Ok objects) m2) p g f u k)))

pub made_text : (d : Marked) (count : ℕ) (ps : List (List ℕ)) (objects : List ℕ) (text : LabelledText) (m m1 m2 : State) → count ≡ length (policies (marks d)) → ps ≡ policies (marks d) → Acts (charge count) m (Ok tt) m1
    → Runs (thaw_policies [] ps) m1 (Ok objects) m2 → text ≡ labelled (policies (marks d)) objects d → Runs (thaw_marked d) m (Ok text) m2
made_text d count ps objects text m m1 m2 n p h g e f u k =
    rw e
    (does_next (act (charge (length (policies (marks d))))) _ (does_act (charge (length (policies (marks d)))) f u k (subst (λ x. Acts (charge x) m (Ok tt) m1) n h))
    (does_next (thaw_policies [] (policies (marks d))) _ (subst (λ x. Runs (thaw_policies [] x) m1 (Ok objects) m2) p g f u k)
    (does_give (labelled (policies (marks d)) objects d) (world m2 f u k))))

-- ---- entries

length-map : {X Y : Type 0} (f : X → Y) (xs : List X) → length (map f xs) ≡ length xs
length-map f [] = refl
length-map f (x ∷ xs) = ap suc (length-map f xs)

size_by : (l : LabelledEntry) (e : Entry) → plain l ≡ e → size l ≡ length e.bytes
size_by (Good d v) e h = sym (length-map (λ b. b.0) d) ∙ ap (λ x. length x.bytes) h
size_by (Bad bytes shadow) e h = ap (λ x. length x.bytes) h

pub size_is : (e : Entry) → size (lift e) ≡ length e.bytes
size_is e = size_by (lift e) e (kept_entry e)

is_long : (n : ℕ) → LONGEST < n → nat_lt LONGEST n ≡ true
is_long n h = grind arith

isnt_long : (n : ℕ) → n ≤ LONGEST → nat_lt LONGEST n ≡ false
isnt_long n h = grind arith

abbrev faulted_long : Prog LabelledText
faulted_long = faulted TextTooLong

pub too_long : (e : Entry) (m : State) (s : Stop) → LONGEST < length e.bytes → s ≡ Fault TextTooLong m.line → Runs (thaw_entry (lift e)) m (Err s) m
too_long e m s h is =
    runs_as (thaw_entry (lift e)) faulted_long m (Err s) m (ap (λ b. cond b faulted_long (thaw_short (lift e))) (is_long (size (lift e)) (subst (λ n. LONGEST < n) (sym (size_is e)) h)))
    (does_faulted TextTooLong m s is)

by_short : (e : Entry) (m : State) (r : Result LabelledText Stop) (m' : State) → length e.bytes ≤ LONGEST → Runs (thaw_short (lift e)) m r m' → Runs (thaw_entry (lift e)) m r m'
by_short e m r m' h = runs_as (thaw_entry (lift e)) (thaw_short (lift e)) m r m' (ap (λ b. cond b (faulted TextTooLong) (thaw_short (lift e))) (isnt_long (size (lift e)) (subst (λ n. n ≤ LONGEST) (sym (size_is e)) h)))

-- an entry whose policies are told is good
good_by : (l : LabelledEntry) (e : Entry) (v : Marks) (m : State) (r : Result LabelledText Stop) (m' : State) → plain l ≡ e → Some v ≡ marks_in l → ((d : Marked) → plain_bytes d ≡ e.bytes → marks d ≡ v → Runs (thaw_marked d) m r m') → Runs (thaw_short l) m r m'
good_by (Good d version) e v m r m' p f go = go d (ap (λ x. x.bytes) p) (sym (let q : v ≡ marks d = cc in q))
good_by (Bad bytes shadow) e v m r m' p f go = absurd (let q : ⊥ = cc in q)

bad_by : (l : LabelledEntry) (m : State) (s : Stop) → None ≡ marks_in l → s ≡ Fault BadShadow m.line → Runs (thaw_short l) m (Err s) m
bad_by (Good d version) m s f is = absurd (let q : ⊥ = cc in q)
bad_by (Bad bytes shadow) m s f is = does_faulted BadShadow m s is

pub good_entry : (e : Entry) (v : Marks) (m : State) (r : Result LabelledText Stop) (m' : State) → length e.bytes ≤ LONGEST → Some v ≡ marks_in (lift e) → ((d : Marked) → plain_bytes d ≡ e.bytes → marks d ≡ v → Runs (thaw_marked d) m r m') → Runs (thaw_entry (lift e)) m r m'
good_entry e v m r m' h f go = by_short e m r m' h (good_by (lift e) e v m r m' (kept_entry e) f go)

pub bad_entry : (e : Entry) (m : State) (s : Stop) → length e.bytes ≤ LONGEST → None ≡ marks_in (lift e) → s ≡ Fault BadShadow m.line → Runs (thaw_entry (lift e)) m (Err s) m
bad_entry e m s h f is = by_short e m (Err s) m h (bad_by (lift e) m s f is)

-- want of memory before the first step
pub marked_lost : (d : Marked) (m : State) (r : Result LabelledText Stop) → IsErrAnd r (λ x. x ≡ Memory) → Runs (thaw_marked d) m r m
marked_lost d m r is f u k = does_unbegun_exit (act (charge (length (policies (marks d))))) _ r is

short_lost : (l : LabelledEntry) (m : State) (r : Result LabelledText Stop) → IsErrAnd r (λ x. x ≡ Memory) → Runs (thaw_short l) m r m
short_lost (Good d version) m r is = marked_lost d m r is
short_lost (Bad bytes shadow) m r is = λ f u k. does_lost_act (faults BadShadow) r is

pub entry_lost : (e : Entry) (m : State) (r : Result LabelledText Stop) → length e.bytes ≤ LONGEST → IsErrAnd r (λ x. x ≡ Memory) → Runs (thaw_entry (lift e)) m r m
entry_lost e m r h is = by_short e m r m h (short_lost (lift e) m r is)

-- want of memory before a policy text is read
pub policy_unread : (text : List ℕ) (m : State) (r : Result ℕ Stop) → IsErrAnd r (λ x. x ≡ Memory) → Runs (thaw_policy text) m r m
policy_unread text m r is = by (said text)
  where
    by : (o : Option Said) → Runs (thaw_said o) m r m
    by None f u k = does_lost_act (faults BadShadow) r is
    by (Some p) f u k = does_unbegun_exit (looked (policy_class p.0)) (remade p) r is

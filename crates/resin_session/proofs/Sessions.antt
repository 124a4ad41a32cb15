-- A session text is read back, and nothing else is read as one.
use Rattle.std.proofs.Common.{◌≡◌, ℕ, zero, suc, ◌^◌, ◌<◌, ◌≤◌, Bool, true, false, cond, [], ◌∷◌, ◌++◌, length, Option, Some, None, refl, sym, ap, subst, ◌∙◌, arith, append_assoc, append-nil, length-append}
use Rattle.std.specs.Prelude.{option_map, is_none, Ok, Err}
use Rattle.std.specs.List.{AllByRecursion}
use Rattle.std.proofs.lemmas.List.Sums.{fold_push}
use Rattle.resin_value.specs.Under.lstr.declared.limits.TheConstants.{LONGEST}
use Rattle.resin_value.specs.Under.lstr.Texts.{Text}
use Rattle.resin_value.specs.declared.key.Key.{Key}
use Rattle.resin_value.specs.Keys.{key_eq}
use Rattle.resin_value.specs.Trees.{Tree, null, boolean, integer, text, array, object}
use Rattle.resin_value.specs.Arrays.{EntryList, Array}
use Rattle.resin_value.specs.Changes.{lookup, put, raised, largest_with, IsApart}
use Rattle.resin_value.proofs.Keeps.{other_key}
use Rattle.resin_value.proofs.Pairs.{put_last}
use Rattle.resin_session.specs.Texts.{entry_text, session_text}
use Rattle.resin_session.specs.Sessions.{IsKey, IsKept, array_of, IsSessionOf}
use Rattle.resin_session.specs.declared.stop.Stop.{Stop}
use Rattle.resin_session.specs.declared.stop.Stop.TheVariants as stops
use Rattle.resin_session.specs.Answers.{Is, ReadsArray, KeepsArray}
use Rattle.resin_session.specs.declared.entries.Head.{Head}
use Rattle.resin_session.specs.Reading.{and_then, key, head, value_line, more, all, session}
use Rattle.resin_session.specs.Laws.{KeepsOneArray, ReadsWhatIsKept}
use Rattle.resin_session.proofs.Basics.{from_some, none_some, bound, on}
use Rattle.resin_session.proofs.Pairs.{entry_long, value_line_read, more-front, more_read}

-- ---- keys that are new
some_none : {X : Type 0} (x : X) → Some x ≡ None → ⊥
some_none x e = none_some x (sym e)

-- no key of the second list stands in the first
abbrev Free : EntryList → EntryList → Type 0
Free es [] = Unit {0}
Free es (g ∷ gs) = (lookup g.0 es ≡ None) × Free es gs

looked_past : (k j : Key) (v : Tree) (es : EntryList) → lookup k ((j, v) ∷ es) ≡ None → (key_eq k j ≡ false) × (lookup k es ≡ None)
looked_past k j v es = by (key_eq k j)
  where
    by : (b : Bool) → cond b (Some v) (lookup k es) ≡ None → (b ≡ false) × (lookup k es ≡ None)
    by true e = absurd (some_none v e)
    by false e = (refl, e)

absent_behind : (j k : Key) (v : Tree) (es : EntryList) → lookup j es ≡ None → key_eq j k ≡ false → lookup j (es ++ (k, v) ∷ []) ≡ None
absent_behind j k v [] h f = ap (λ b. cond b (Some v) None) f
absent_behind j k v (e ∷ es) h f =
    let p = looked_past j e.0 e.1 es h in
    ap (λ b. cond b (Some e.1) (lookup j (es ++ (k, v) ∷ []))) p.0 ∙ absent_behind j k v es p.1 f

absent_both : (j k : Key) (v : Tree) (es : EntryList) → lookup j (es ++ (k, v) ∷ []) ≡ None → (lookup j es ≡ None) × (key_eq j k ≡ false)
absent_both j k v [] h = (refl, (looked_past j k v [] h).0)
absent_both j k v (e ∷ es) h =
    let p = looked_past j e.0 e.1 (es ++ (k, v) ∷ []) h in
    let q = absent_both j k v es p.1 in
    (ap (λ b. cond b (Some e.1) (lookup j es)) p.0 ∙ q.0, q.1)

free_push : (k : Key) (v : Tree) (es gs : EntryList) → Free es gs → lookup k gs ≡ None → Free (es ++ (k, v) ∷ []) gs
free_push k v es [] h n = tt
free_push k v es (g ∷ gs) h n =
    let p = looked_past k g.0 g.1 gs n in
    (absent_behind g.0 k v es h.0 (other_key k g.0 p.0), free_push k v es gs h.1 p.1)

free_pop : (k : Key) (v : Tree) (es gs : EntryList) → Free (es ++ (k, v) ∷ []) gs → Free es gs × (lookup k gs ≡ None)
free_pop k v es [] h = (tt, refl)
free_pop k v es (g ∷ gs) h =
    let p = absent_both g.0 k v es h.0 in
    let q = free_pop k v es gs h.1 in
    ((p.0, q.0), ap (λ b. cond b (Some g.1) (lookup k gs)) (other_key g.0 k p.1) ∙ q.1)

free_empty : (gs : EntryList) → Free [] gs
free_empty [] = tt
free_empty (g ∷ gs) = (refl, free_empty gs)

-- ---- all entries are read back
all_end : (n : ℕ) (es : EntryList) → all n es [] ≡ Some es
all_end zero es = refl
all_end (suc n) es = refl

all-front : (n : ℕ) (es gs : EntryList) → AllByRecursion (λ e. IsKey e.0) gs → AllByRecursion (λ e. IsKept e.1) gs → Free es gs → IsApart gs
    → length (session_text gs) ≤ n → length (session_text gs) < 2 ^ 63 → all n es (session_text gs) ≡ Some (es ++ gs)
all-front n es [] keys kept free apart le low = all_end n es ∙ ap Some (sym (append-nil es))
all-front zero es (g ∷ gs) keys kept free apart le low = absurd (let l = length-append (entry_text g) (session_text gs) in let m = entry_long g.0 g.1 in omega (arith, l, m, le))
all-front (suc n) es (g ∷ gs) keys kept free apart le low =
    let l = length-append (entry_text g) (session_text gs) in
    let m = entry_long g.0 g.1 in
    on (λ r. all n r.0 r.1) (more-front es g.0 g.1 (session_text gs) keys.0 kept.0 free.0 (omega (arith, l, m, low)) (omega (arith, l, m, low)))
    ∙ all-front n (es ++ g ∷ []) gs keys.1 kept.1 (free_push g.0 g.1 es gs free.1 apart.0) apart.1 (omega (arith, l, m, le)) (omega (arith, l, m, low))
    ∙ ap Some (append_assoc es (g ∷ []) gs)

pub session-front : (t : Text) (a : Array) → length t ≤ LONGEST → IsSessionOf t a → session t ≡ Some a
unfolding session
session-front t a le h =
    let same : length t ≡ length (session_text a.entries) = ap length h.text_is in
    ap (λ u. option_map array_of (all (length t) [] u)) h.text_is
    ∙ ap (option_map array_of) (all-front (length t) [] a.entries h.keys h.values (free_empty a.entries) h.apart (omega (arith, same)) (omega (arith, same, le)))
    ∙ ap Some (sym h.built)

-- ---- nothing else is read
record AllRead (es : EntryList) (xs : Text) (fs : EntryList) : Type 0 where
  gs : EntryList
  told : xs ≡ session_text gs
  becomes : es ++ gs ≡ fs
  keys : AllByRecursion (λ e. IsKey e.0) gs
  kept : AllByRecursion (λ e. IsKept e.1) gs
  free : Free es gs
  apart : IsApart gs

all_read : (n : ℕ) (es : EntryList) (xs : Text) (fs : EntryList) → all n es xs ≡ Some fs → AllRead es xs fs
all_read zero es [] fs e = record { gs = []; told = refl; becomes = append-nil es ∙ from_some es fs e; keys = tt; kept = tt; free = tt; apart = tt }
all_read (suc n) es [] fs e = record { gs = []; told = refl; becomes = append-nil es ∙ from_some es fs e; keys = tt; kept = tt; free = tt; apart = tt }
all_read zero es (x ∷ xs) fs e = absurd (none_some fs e)
all_read (suc n) es (x ∷ xs) fs e =
    let r = bound (more es (x ∷ xs)) (λ r. all n r.0 r.1) fs e in
    let m = more_read es (x ∷ xs) r.0.0 r.0.1 r.1 in
    let i = all_read n r.0.0 r.0.1 fs r.2 in
    let q = free_pop m.k m.v es i.gs (subst (λ hs. Free hs i.gs) (sym m.becomes) i.free) in
    record {
      gs = (m.k, m.v) ∷ i.gs;
      told = m.told ∙ ap (λ t. entry_text (m.k, m.v) ++ t) i.told;
      becomes = sym (append_assoc es ((m.k, m.v) ∷ []) i.gs) ∙ ap (λ hs. hs ++ i.gs) m.becomes ∙ i.becomes;
      keys = (m.key_is, i.keys);
      kept = (m.kept, i.kept);
      free = (m.fresh, q.0);
      apart = (q.1, i.apart);
    }

mapped : (o : Option EntryList) (a : Array) → option_map array_of o ≡ Some a → (es : EntryList) × (o ≡ Some es) × (array_of es ≡ a)
mapped None a e = absurd (none_some a e)
mapped (Some es) a e = (es, refl, from_some (array_of es) a e)

pub session_read : (t : Text) (a : Array) → session t ≡ Some a → IsSessionOf t a
unfolding session
session_read t a e =
    let m = mapped (all (length t) [] t) a e in
    let r = all_read (length t) [] t m.0 m.1 in
    subst (IsSessionOf t) (ap array_of r.becomes ∙ m.2) (record { text_is = r.told; keys = r.keys; values = r.kept; apart = r.apart; built = refl })

-- ---- the laws
pub keeps_one_array : KeepsOneArray
keeps_one_array t a b le p q = from_some a b (sym (session-front t a le p) ∙ session-front t b le q)

pub reads_what_is_kept : ReadsWhatIsKept
reads_what_is_kept t a le = (session_read t a, session-front t a le)

-- ---- a turn of the loop over entries
shorter : (es : EntryList) (xs : Text) (fs : EntryList) (rest : Text) → more es xs ≡ Some (fs, rest) → length rest < length xs
shorter es xs fs rest e =
    let m = more_read es xs fs rest e in
    let l = ap length m.told ∙ length-append (entry_text (m.k, m.v)) rest in
    omega (arith, l, entry_long m.k m.v)

same_rest : (n m : ℕ) (o : Option (EntryList × Text)) → ((r : EntryList × Text) → o ≡ Some r → all n r.0 r.1 ≡ all m r.0 r.1) → and_then o (λ r. all n r.0 r.1) ≡ and_then o (λ r. all m r.0 r.1)
same_rest n m None h = refl
same_rest n m (Some r) h = h r refl

enough : (n m : ℕ) (es : EntryList) (xs : Text) → length xs ≤ n → length xs ≤ m → all n es xs ≡ all m es xs
enough n m es [] h l = all_end n es ∙ sym (all_end m es)
enough zero m es (x ∷ xs) h l = absurd (omega arith)
enough (suc n) zero es (x ∷ xs) h l = absurd (omega arith)
enough (suc n) (suc m) es (x ∷ xs) h l =
    same_rest n m (more es (x ∷ xs)) (λ r e. let s = shorter es (x ∷ xs) r.0 r.1 e in enough n m r.0 r.1 (omega (arith, s, h)) (omega (arith, s, l)))

-- what the rest of a text gives, behind the entries that were read
turn : (es fs : EntryList) (xs rest : Text) → more es xs ≡ Some (fs, rest) → all (length xs) es xs ≡ all (length rest) fs rest
turn es fs [] rest e = absurd (let s = shorter es [] fs rest e in omega (arith, s))
turn es fs (x ∷ xs) rest e =
    let s = shorter es (x ∷ xs) fs rest e in
    on (λ r. all (length xs) r.0 r.1) e ∙ enough (length xs) (length rest) fs rest (omega (arith, s)) (omega arith)

pub falls : (es fs : EntryList) (xs rest : Text) → more es xs ≡ Some (fs, rest) → length rest < length xs
falls es fs xs rest e = shorter es xs fs rest e

fails : (es : EntryList) (xs : Text) → 0 < length xs → more es xs ≡ None → all (length xs) es xs ≡ None
fails es [] h e = absurd (omega arith)
fails es (x ∷ xs) h e = ap (λ o. and_then o (λ r. all (length xs) r.0 r.1)) e

ends : (es : EntryList) (xs : Text) → length xs ≡ 0 → all (length xs) es xs ≡ Some es
ends es [] h = refl
ends es (x ∷ xs) h = absurd (omega arith)

-- what was read of a text before its rest
pub record Begun (t : Text) (a : Array) (rest : Text) : Type 0 where
  pub is : all (length rest) a.entries rest ≡ all (length t) [] t
  pub built : a ≡ array_of a.entries

pub begun_more : (t : Text) (a b : Array) (xs rest : Text) → Begun t a xs → ReadsArray (more a.entries xs) (Ok b) rest → Begun t b rest
begun_more t a b xs rest h r = record { is = sym (turn a.entries b.entries xs rest r.0) ∙ h.is; built = r.1 }

pub begun_fails : (t : Text) (a : Array) (xs new : Text) (stop : Stop) → 0 < length xs → Begun t a xs → ReadsArray (more a.entries xs) (Err stop) new → Is (session t) (Err stop)
unfolding session
begun_fails t a xs new stops.Form lt h r = ap (option_map array_of) (sym h.is ∙ fails a.entries xs lt r)
begun_fails t a xs new stops.Memory lt h r = tt

pub begun_ends : (t : Text) (a : Array) (xs : Text) → length xs ≡ 0 → Begun t a xs → session t ≡ Some a
unfolding session
begun_ends t a xs e h = ap (option_map array_of) (sym h.is ∙ ends a.entries xs e) ∙ ap Some (sym h.built)

pub nothing_kept : (t : Text) → length t ≤ LONGEST → session t ≡ None → KeepsArray t None
nothing_kept t le e a h = absurd (none_some a (sym e ∙ session-front t a le h))

-- ---- an entry put last
no_array : (v : Tree) → IsKept v → raised 1 v ≡ 1
no_array null h = absurd h
no_array (boolean b) h = absurd h
no_array (integer n s) h = refl
no_array (text t) h = refl
no_array (array r l g) h = absurd h
no_array (object n) h = absurd h

pub put_kept : (k : Key) (v : Tree) (es : EntryList) → lookup k es ≡ None → IsKept v → put k v (array_of es) ≡ array_of (es ++ (k, v) ∷ [])
put_kept k v es fresh kept =
    let entries = put_last k v es fresh in
    let largest = sym (fold_push (λ l (e : Key × Tree). largest_with e.0 l) None es (k, v)) in
    let height = no_array v kept in
    (λ i. record { entries = entries i; largest = largest i; height = height i })

-- the array with the entry that was read
pub added : (a b : Array) (h : Head) (k : Key) (v : Tree) (xs ys zs rest : Text) → head xs ≡ Some (h, ys) → key h.key_len ys ≡ Some (k, zs) → lookup k a.entries ≡ None → value_line h.kind h.value_len zs ≡ Some (v, rest)
    → a ≡ array_of a.entries → b ≡ put k v a → (more a.entries xs ≡ Some (b.entries, rest)) × (b ≡ array_of b.entries)
unfolding more
added a b h k v xs ys zs rest f g n l built is =
    let kept = (value_line_read h.kind h.value_len zs v rest l).kept in
    let es = a.entries in
    let whole : b ≡ array_of (es ++ (k, v) ∷ []) = is ∙ ap (put k v) built ∙ put_kept k v es n kept in
    let entries : b.entries ≡ es ++ (k, v) ∷ [] = ap (λ c. c.entries) whole in (
      on (λ h. and_then (key h.0.key_len h.1) (λ k. cond (is_none (lookup k.0 es)) (and_then (value_line h.0.kind h.0.value_len k.1) (λ v. Some (es ++ (k.0, v.0) ∷ [], v.1))) None)) f
          ∙ on (λ k. cond (is_none (lookup k.0 es)) (and_then (value_line h.kind h.value_len k.1) (λ v. Some (es ++ (k.0, v.0) ∷ [], v.1))) None) g
          ∙ ap (λ o. cond (is_none o) (and_then (value_line h.kind h.value_len zs) (λ v. Some (es ++ (k, v.0) ∷ [], v.1))) None) n
          ∙ on (λ v. Some (es ++ (k, v.0) ∷ [], v.1)) l
          ∙ ap (λ fs. Some (fs, rest)) (sym entries),
      whole ∙ ap array_of (sym entries),
    )

-- The laws of policy texts.
use Rattle.std.proofs.Common.{◌≡◌, ℕ, ◌-◌, ◌≤◌, true, List, [], ◌∷◌, ◌++◌, length, take, Some, Err, refl, sym, ap, subst, ◌∙◌, arith, length-append}
use Rattle.std.specs.List.{list_all}
use Rattle.resin_value.specs.Values.{FieldList}
use Rattle.resin_frozen.specs.declared.stop.Stop.{Stop}
use Rattle.resin_frozen.specs.declared.stop.Stop.TheVariants.{Form, Memory}
use Rattle.resin_frozen.specs.Reads.{Reads, ReadsPolicy, Thaws}
use Rattle.resin_scan.proofs.Runs.{take_front}
use Rattle.resin_value.specs.Arrays.{EntryList}
use Rattle.resin_frozen.specs.Texts.{policy_text}
use Rattle.resin_frozen.specs.Policies.{IsPolicyText, kept_pairs, pairs_of, is_field_key, Says}
use Rattle.resin_frozen.specs.Reading.{Policy, and_then, policy, front}
use Rattle.resin_frozen.specs.Laws.{SaysOnePolicy, ReadsPolicies, FindsTexts}
use Rattle.resin_frozen.proofs.Numbers.{from_some, none_some}
use Rattle.resin_frozen.proofs.Parts.{bound, on}
use Rattle.resin_frozen.proofs.Written.{policy-policy}
use Rattle.resin_frozen.proofs.Back.{policy_read}

nothing_behind : (xs : List ℕ) → xs ++ [] ≡ xs
nothing_behind [] = refl
nothing_behind (x ∷ xs) = ap (λ ys. x ∷ ys) (nothing_behind xs)

pub says_one_policy : SaysOnePolicy
says_one_policy c d es fs p q e =
    let both = from_some ((c, kept_pairs es), []) ((d, kept_pairs fs), []) (sym (policy-policy c es [] p) ∙ ap (λ w. policy (w ++ [])) e ∙ policy-policy d fs [] q) in
    (ap (λ r. r.0.0) both, ap (λ r. r.0.1) both)

pub reads_policies : ReadsPolicies
reads_policies xs rest c es = (
  λ e. let r = policy_read xs c es rest e in (r.told, r.is_policy, r.same),
  λ h. ap policy h.0 ∙ policy-policy c es rest h.1 ∙ ap (λ fs. Some ((c, fs), rest)) h.2,
)

-- the front before what is behind it
before : (w rest : List ℕ) → take (length (w ++ rest) - length rest) (w ++ rest) ≡ w
before w rest = let n : length (w ++ rest) - length rest ≡ length w = omega (arith, length-append w rest) in ap (λ k. take k (w ++ rest)) n ∙ take_front w rest

pub front_is : (xs w rest : List ℕ) → IsPolicyText w → xs ≡ w ++ rest → front xs ≡ Some (w, rest)
unfolding front
front_is xs w rest h e =
    let whole : xs ≡ policy_text h.class h.fields ++ rest = e ∙ ap (λ v. v ++ rest) h.text_is in
    on (λ p. Some (take (length xs - length p.1) xs, p.1)) (ap policy whole ∙ policy-policy h.class h.fields rest h.is_policy)
    ∙ ap (λ ys. Some (take (length ys - length rest) ys, rest)) e
    ∙ ap (λ v. Some (v, rest)) (before w rest)

pub front_read : (xs w rest : List ℕ) → front xs ≡ Some (w, rest) → (xs ≡ w ++ rest) × IsPolicyText w
unfolding front
front_read xs w rest e =
    let p = bound (policy xs) (λ p. Some (take (length xs - length p.1) xs, p.1)) (w, rest) e in
    let r = policy_read xs p.0.0.0 p.0.0.1 p.0.1 p.1 in
    let q = from_some (take (length xs - length p.0.1) xs, p.0.1) (w, rest) p.2 in
    let text = policy_text p.0.0.0 p.0.0.1 in
    let w_is : w ≡ text = sym (ap (λ q. q.0) q) ∙ ap (λ ys. take (length ys - length p.0.1) ys) r.told ∙ before text p.0.1 in
    (r.told ∙ ap (λ v. v ++ p.0.1) (sym w_is) ∙ ap (λ q. w ++ q.1) q, record { class = p.0.0.0; fields = p.0.0.1; is_policy = r.is_policy; text_is = w_is })

pub finds_texts : FindsTexts
finds_texts xs w rest = (front_read xs w rest, λ h. front_is xs w rest h.1 h.0)

-- ---- what is read from the front, by the policy that stands there
pub front_fails : (xs new after : List ℕ) (stop : Stop) → ReadsPolicy (policy xs) (Err stop) new → Reads (front xs) (Err stop) after
unfolding front
front_fails xs new after Form h = ap (λ o. and_then o (λ p. Some (take (length xs - length p.1) xs, p.1))) h
front_fails xs new after Memory h = tt

pub front_found : (xs new : List ℕ) (p : Policy) → policy xs ≡ Some (p, new) → front xs ≡ Some (take (length xs - length new) xs, new)
unfolding front
front_found xs new p h = on (λ p. Some (take (length xs - length p.1) xs, p.1)) h

pub behind_short : (xs new : List ℕ) (p : Policy) → policy xs ≡ Some (p, new) → length new ≤ length xs
behind_short xs new p h =
    let r = policy_read xs p.0 p.1 new h in
    let l = ap length r.told in
    omega (arith, l, length-append (policy_text p.0 p.1) new)

-- ---- what a policy text says
pub text_whole : (xs : List ℕ) (h : IsPolicyText xs) → policy xs ≡ Some ((h.class, kept_pairs h.fields), [])
text_whole xs h = ap policy (sym (nothing_behind xs) ∙ ap (λ w. w ++ []) h.text_is) ∙ policy-policy h.class h.fields [] h.is_policy

pub says : (text xs new class name : List ℕ) (es : EntryList) (fields : FieldList) → IsPolicyText text → xs ≡ text → policy xs ≡ Some ((class, es), new) → name ≡ class → pairs_of fields ≡ es → Says text name fields
says text xs new class name es fields h same e n f =
    let r = policy_read xs class es new e in
    let last : new ≡ [] = ap (λ q. q.1) (from_some ((class, es), new) ((h.class, kept_pairs h.fields), []) (sym e ∙ ap policy same ∙ text_whole text h)) in
    record {
      text_is = sym same ∙ r.told ∙ ap (λ u. policy_text class es ++ u) last ∙ nothing_behind (policy_text class es) ∙ ap (λ c. policy_text c es) (sym n) ∙ ap (policy_text name) (sym f);
      are_kept = subst (λ fs. kept_pairs fs ≡ fs) (sym f) r.same;
    }

pub names_of : (xs new class : List ℕ) (es : EntryList) → policy xs ≡ Some ((class, es), new) → list_all (λ e. is_field_key e.0) es ≡ true
names_of xs new class es e = (policy_read xs class es new e).is_policy.field_names

pub thaw_fails : (text xs new : List ℕ) (stop : Stop) → xs ≡ text → IsPolicyText text → ReadsPolicy (policy xs) (Err stop) new → Thaws text (Err stop)
thaw_fails text xs new Form same h e = none_some ((h.class, kept_pairs h.fields), []) (sym e ∙ ap policy same ∙ text_whole text h)
thaw_fails text xs new Memory same h e = tt

-- What is left of a list of fields says what the whole list does.
use Rattle.std.proofs.Common.{◌≡◌, ℕ, ◌+◌, ◌<◌, Bool, true, false, cond, List, [], ◌∷◌, length, drop, map, get_or, Option, Some, None, refl, sym, ap, ◌∙◌, add-one}
use Rattle.std.proofs.Math.Seq.{drop-cons}
use Rattle.httparse.specs.declared.spans.HeaderSpan.{HeaderSpan}
use Rattle.httparse.specs.Spans.{header_bytes, span_bytes}
use Rattle.resin_http.specs.Fields.{Pair, body_length, next_length, values_of}
use Rattle.resin_inputs.specs.Names.{is_named}

-- the length of a body once a first `Content-Length` may have been read
abbrev pub rest_length : Option ℕ → List (List ℕ) → Option ℕ
rest_length None values = body_length values
rest_length (Some n) [] = Some n
rest_length (Some n) (v ∷ values) = None

pub rest_next : (found : Option ℕ) (v : List ℕ) (values : List (List ℕ)) (n : ℕ) → next_length found v ≡ Some n
    → rest_length (Some n) values ≡ rest_length found (v ∷ values)
rest_next None v [] n e = sym e
rest_next None v (w ∷ values) n e = refl
rest_next (Some m) v values n e = cc

pub rest_none : (found : Option ℕ) (v : List ℕ) (values : List (List ℕ)) → next_length found v ≡ None → rest_length found (v ∷ values) ≡ None
rest_none None v [] e = e
rest_none None v (w ∷ values) e = refl
rest_none (Some m) v values e = refl

-- the fields from a place on are that one and those after it
pub drop-field : (fields : List HeaderSpan) (i : ℕ) (d : HeaderSpan) → i < length fields → drop i fields ≡ get_or fields i d ∷ drop (i + 1) fields
drop-field fields i d within = drop-cons fields i d within ∙ ap (λ n. get_or fields i d ∷ drop n fields) (sym (add-one i))

values_of_pairs : (wanted : List ℕ) (p : Pair) (fields : List Pair) (t : Bool) → is_named wanted p.0 ≡ t
    → values_of wanted (p ∷ fields) ≡ cond t (p.1 ∷ values_of wanted fields) (values_of wanted fields)
values_of_pairs wanted p fields true e = ap (λ b. map (λ (q : Pair). q.1) (cond b (p ∷ Rattle.std.specs.Prelude.filter (λ q. is_named wanted q.0) fields) (Rattle.std.specs.Prelude.filter (λ q. is_named wanted q.0) fields))) e
values_of_pairs wanted p fields false e = ap (λ b. map (λ (q : Pair). q.1) (cond b (p ∷ Rattle.std.specs.Prelude.filter (λ q. is_named wanted q.0) fields) (Rattle.std.specs.Prelude.filter (λ q. is_named wanted q.0) fields))) e

-- a field of that name gives its value first
pub values-field : (wanted head : List ℕ) (fields : List HeaderSpan) (i : ℕ) (d : HeaderSpan) (t : Bool) → i < length fields
    → is_named wanted (span_bytes head (get_or fields i d).name) ≡ t
    → values_of wanted (map (header_bytes head) (drop i fields))
    ≡ cond t (span_bytes head (get_or fields i d).value ∷ values_of wanted (map (header_bytes head) (drop (i + 1) fields)))
    (values_of wanted (map (header_bytes head) (drop (i + 1) fields)))
values-field wanted head fields i d t within e =
    ap (λ fs. values_of wanted (map (header_bytes head) fs)) (drop-field fields i d within)
    ∙ values_of_pairs wanted (header_bytes head (get_or fields i d)) (map (header_bytes head) (drop (i + 1) fields)) t e

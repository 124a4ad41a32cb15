-- Arguments that are arrays, and those that a format reads.
use Rattle.std.proofs.Common.{◌≡◌, ℕ, ◌<◌, Bool, true, List, [], ◌∷◌, ◌++◌, length, Some, Result, Ok, refl, sym, ap, subst, ◌∙◌, arith}
use Rattle.std.specs.Prelude.{map}
use Rattle.std.proofs.lemmas.List.{append-nil}
use Rattle.resin_format.specs.Under.scalar.declared.faults.CallStop.{CallStop}
use Rattle.resin_array_fn.specs.Under.value.declared.value.Value.{Value}
use Rattle.resin_array_fn.specs.Under.value.declared.value.Value.TheVariants.{Arr}
use Rattle.resin_array_fn.specs.Under.value.Arrays.{EntryList, Array, entries_of-row_of}
use Rattle.resin_array_fn.specs.Under.value.Trees.{Tree}
use Rattle.resin_array_fn.specs.Under.value.Seen.{tree_of, trees_of}
use Rattle.resin_array_fn.specs.Under.text_fn.Stops.{GivesOrNoMemory}
use Rattle.resin_format.specs.declared.form.Kind.{Kind}
use Rattle.resin_format.specs.declared.args.FormatArg.{FormatArg}
use Rattle.resin_array_fn.specs.Rows.{values, texts_in}
use Rattle.resin_builtin.specs.Arguments.{as_array}
use Rattle.resin_builtin.specs.Rows.{mapped, format_arguments}
use Rattle.resin_builtin.specs.Calls.{cost, searches_in, replacements_in}

-- ---- arrays among the arguments
pub array_again : (v : Value) (a : Array) → v ≡ Arr a → as_array (Some (tree_of v)) ≡ Ok a
array_again v a e =
    ap (λ (w : Value). as_array (Some (tree_of w))) e
    ∙ ap (λ (es : EntryList). Ok (record { entries = es; largest = a.largest; height = a.height })) (entries_of-row_of a.entries)

pub cost_of_array : (v : Value) (a : Array) → v ≡ Arr a → length a.entries ≡ cost (tree_of v)
cost_of_array v a e = sym (ap (λ (w : Value). cost (tree_of w)) e ∙ ap (λ (es : EntryList). length es) (entries_of-row_of a.entries))

pub searched_again : (v : Value) (a : Array) → v ≡ Arr a → texts_in (values a) ≡ searches_in (tree_of v)
searched_again v a e = sym (ap (λ (w : Value). searches_in (tree_of w)) e ∙ ap (λ (es : EntryList). texts_in (map (λ p. p.1) es)) (entries_of-row_of a.entries))

pub replaced_again : (beside_array : Bool) (v : Value) (a : Array) (n : ℕ) → beside_array ≡ true → v ≡ Arr a → texts_in (values a) ≡ replacements_in beside_array (tree_of v) n
replaced_again beside_array v a n h e =
    sym (ap (λ (b : Bool). replacements_in b (tree_of v) n) h ∙ ap (λ (w : Value). replacements_in true (tree_of w) n) e
    ∙ ap (λ (es : EntryList). texts_in (map (λ p. p.1) es)) (entries_of-row_of a.entries))

pub gives_along : {X : Type 0} (r x y : Result X CallStop) → x ≡ y → GivesOrNoMemory r x → GivesOrNoMemory r y
gives_along r x y e h = subst (GivesOrNoMemory r) e h

-- ---- the arguments of a format
pub none_left : (vs : List Value) → length vs < 1 → trees_of vs ≡ []
none_left [] h = refl
none_left (v ∷ vs) h = absurd (omega arith)

pub argument_ends : (out : List FormatArg) (ks : List Kind) (ts : List Tree) (whole : Result (List FormatArg) CallStop) → mapped (λ more. out ++ more) (format_arguments ks ts) ≡ whole → ts ≡ [] → whole ≡ Ok out
argument_ends out [] ts whole e none = sym e ∙ ap Ok (append-nil out)
argument_ends out (k ∷ ks) ts whole e none = sym e ∙ ap (λ us. mapped (λ more. out ++ more) (format_arguments (k ∷ ks) us)) none ∙ ap Ok (append-nil out)

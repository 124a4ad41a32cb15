-- Escapes of texts that are kept as bytes and runs.
use Rattle.std.proofs.Common.{◌≡◌, ℕ, ◌<◌, ◌≤◌, ◌-◌, List, [], ◌∷◌, ◌++◌, refl, sym, ap, ◌∙◌, arith, suc, length, take, drop, get_or, append_assoc, length-append}
use Rattle.std.specs.List.{zip, flat_map}
use Rattle.std.proofs.lemmas.List.{take-append-drop, map-append}
use Rattle.std.proofs.lemmas.List.Concat.{flat_map-append}
use Rattle.resin_label.specs.Sets.{NumberSet}
use Rattle.resin_lstr.specs.declared.text.Run.{Run}
use Rattle.resin_lstr.specs.Texts.{Text, carrying, bytes_of, sets_of}
use Rattle.resin_lstr.specs.Runs.{last_end, AreRunsOf, text_of}
use Rattle.resin_lstr.proofs.Pieces.{one_more_run}
use Rattle.resin_escape_fn.specs.Escapes.{escaped}

-- a rule works on the bytes of one set as on bytes
pub escaped-carrying : (rule : ℕ → List ℕ) (s : NumberSet) (bs : List ℕ) → escaped rule (carrying s bs) ≡ carrying s (flat_map rule bs)
escaped-carrying rule s [] = refl
escaped-carrying rule s (b ∷ bs) =
    ap (λ t. carrying s (rule b) ++ t) (escaped-carrying rule s bs) ∙ sym (map-append (λ c. (c, s)) (rule b) (flat_map rule bs))

-- what one more run adds
one_more_escaped : (bs : List ℕ) (rs : List Run) (are : AreRunsOf (length bs) rs) (k : ℕ) (d : Run) (lt : k < length rs) (rule : ℕ → List ℕ) → escaped rule (take (get_or rs k d).end (text_of bs rs)) ≡ escaped rule (take (last_end 0 (take k rs)) (text_of bs rs)) ++ carrying (get_or rs k d).set (flat_map rule (take ((get_or rs k d).end - last_end 0 (take k rs)) (drop (last_end 0 (take k rs)) bs)))
one_more_escaped bs rs are k d lt rule =
    let part = take ((get_or rs k d).end - last_end 0 (take k rs)) (drop (last_end 0 (take k rs)) bs) in
    ap (escaped rule) (one_more_run bs rs are k d lt) ∙ flat_map-append _ (take (last_end 0 (take k rs)) (text_of bs rs)) (carrying (get_or rs k d).set part)
    ∙ ap (λ t. escaped rule (take (last_end 0 (take k rs)) (text_of bs rs)) ++ t) (escaped-carrying rule (get_or rs k d).set part)

-- what a run puts behind the text before it
pub escaped_run : (bs : List ℕ) (rs : List Run) (are : AreRunsOf (length bs) rs) (k : ℕ) (r : Run) → k < length rs → r ≡ get_or rs k r → (rule : ℕ → List ℕ) (from : ℕ) (start out : Text) → from ≡ last_end 0 (take k rs) → out ≡ start ++ escaped rule (take from (text_of bs rs)) → out ++ carrying r.set (flat_map rule (take (r.end - from) (drop from bs))) ≡ start ++ escaped rule (take r.end (text_of bs rs))
escaped_run bs rs are k r lt is rule from start out at out_is =
    let piece : Run → ℕ → Text = λ q f. carrying q.set (flat_map rule (take (q.end - f) (drop f bs))) in
    let before = escaped rule (take (last_end 0 (take k rs)) (text_of bs rs)) in
    ap (λ t. t ++ piece r from) (out_is ∙ ap (λ n. start ++ escaped rule (take n (text_of bs rs))) at)
    ∙ append_assoc start before (piece r from)
    ∙ ap (λ t. start ++ (before ++ t)) (ap (piece r) at ∙ ap (λ q. piece q (last_end 0 (take k rs))) is)
    ∙ ap (λ t. start ++ t) (sym (one_more_escaped bs rs are k r lt rule))
    ∙ ap (λ q. start ++ escaped rule (take q.end (text_of bs rs))) (sym is)

-- a front of a text is written no longer than the text
pub escaped_front : (rule : ℕ → List ℕ) (start t : Text) (n : ℕ) → length (start ++ escaped rule (take n t)) ≤ length (start ++ escaped rule t)
escaped_front rule start t n =
    omega (
      arith,
      ap length (ap (escaped rule) (sym (take-append-drop n t)) ∙ flat_map-append _ (take n t) (drop n t)),
      length-append (escaped rule (take n t)) (escaped rule (drop n t)),
      length-append start (escaped rule (take n t)),
      length-append start (escaped rule t),
    )

-- a text is its bytes beside its sets
pub text_again : (t : Text) → zip (bytes_of t) (sets_of t) ≡ t
text_again [] = refl
text_again (p ∷ t) = ap (λ ps. p ∷ ps) (text_again t)

pub length-bytes_of : (t : Text) → length (bytes_of t) ≡ length t
length-bytes_of [] = refl
length-bytes_of (p ∷ t) = ap suc (length-bytes_of t)

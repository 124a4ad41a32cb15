use Rattle.std.proofs.Common.{◌≡◌, ◌+◌, ◌++◌, List, ℕ, [], ◌∷◌, length, map, sym, ap, subst, ◌∙◌, arith, append_assoc, append-nil}
use Rattle.resin_lstr.specs.Texts.{ArePartsFrom}
use Rattle.resin_text_fn.specs.Matches.{matched_parts, AreLeftmost}
use Rattle.resin_text_fn.proofs.Parted.{parts_follow, parts_leftmost, parts_end, parts_earlier}
use Rattle.resin_text_fn.proofs.search.matched_parts.Goals as goal

pub loop-start-init : goal.loop-start-init
loop-start-init c =
    let part : ℕ → ℕ × ℕ = λ start. (start, start + length c.args.needle.now) in
    let found = c.into_iter-start-iterator.ensures.into_iter_gives ∙ c.find_iter-start-items.ensures.value in
    record {
      can = tt;
      ends = tt;
      is = ap (λ ps. ps ++ map part c.into_iter-start-iterator.result) c.new-parts.ensures ∙ ap (map part) found;
      behind = subst (λ (xs : List ℕ). ArePartsFrom 0 (map part xs) (length c.args.haystack.now)) (sym found) (parts_follow c.args.haystack.now c.args.needle.now c.requires.some);
    }

pub overflow_add-start : goal.overflow_add-start
overflow_add-start c =
    let part : ℕ → ℕ × ℕ = λ start. (start, start + length c.args.needle.now) in
    let here = subst (λ (xs : List ℕ). ArePartsFrom 0 (map part xs) (length c.args.haystack.now)) c.in-Some.ensures.steps c.loop-start.invariant.behind in
    let end = parts_end _ _ _ here.2 in
    omega (arith, end, c.requires.short)

pub loop-start-preserved : goal.loop-start-preserved
loop-start-preserved c =
    let part : ℕ → ℕ × ℕ = λ start. (start, start + length c.args.needle.now) in
    let here = subst (λ (xs : List ℕ). ArePartsFrom 0 (map part xs) (length c.args.haystack.now)) c.in-Some.ensures.steps c.loop-start.invariant.behind in
    record {
      can = tt;
      ends = tt;
      is = ap (λ ps. ps ++ map part c.next.new.self) c.in_ok-push.ensures.ok
          ∙ append_assoc c.loop-start.parts (part c.in-Some.start ∷ []) (map part c.next.new.self)
          ∙ ap (λ xs. c.loop-start.parts ++ map part xs) (sym c.in-Some.ensures.steps)
          ∙ c.loop-start.invariant.is;
      behind = parts_earlier _ _ _ here.2;
    }

pub returns-clause-follow : goal.returns-clause-follow
returns-clause-follow c =
    let part : ℕ → ℕ × ℕ = λ start. (start, start + length c.args.needle.now) in
    let value : c.loop-start.parts ≡ matched_parts c.args.haystack.now c.args.needle.now =
    sym (append-nil c.loop-start.parts) ∙ ap (λ xs. c.loop-start.parts ++ map part xs) (sym c.in-None.ensures.steps.0) ∙ c.loop-start.invariant.is in
    subst (λ (ps : List (ℕ × ℕ)). ArePartsFrom 0 ps (length c.args.haystack.now)) (sym value) (parts_follow c.args.haystack.now c.args.needle.now c.requires.some)

pub returns-clause-leftmost : goal.returns-clause-leftmost
returns-clause-leftmost c =
    let part : ℕ → ℕ × ℕ = λ start. (start, start + length c.args.needle.now) in
    let value : c.loop-start.parts ≡ matched_parts c.args.haystack.now c.args.needle.now =
    sym (append-nil c.loop-start.parts) ∙ ap (λ xs. c.loop-start.parts ++ map part xs) (sym c.in-None.ensures.steps.0) ∙ c.loop-start.invariant.is in
    subst (λ (ps : List (ℕ × ℕ)). AreLeftmost 0 ps c.args.haystack.now c.args.needle.now) (sym value) (parts_leftmost c.args.haystack.now c.args.needle.now c.requires.some)

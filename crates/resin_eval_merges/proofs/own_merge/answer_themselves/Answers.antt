use Rattle.std.proofs.Common.{◌≡◌, ℕ, All, ap, subst, sym, ◌∙◌}
use Rattle.std.specs.Prelude.{Bool, false, IfSome, None, Option, Some, is_some, not}
use Rattle.std.proofs.lemmas.Bool.{true≢false}
use Rattle.std.proofs.lemmas.List.{take_all}
use Rattle.std.proofs.lemmas.List.Elements.{All-more}
use Rattle.resin_eval_merges.specs.OwnMerge.{AnswersItself}
use Rattle.resin_eval_merges.proofs.own_merge.answer_themselves.Goals as goal

told : (P : Type 0) (o : Option ℕ) (none : Bool) → is_some o ≡ not none → none ≡ false → IfSome o (λ class. P) → P
told P None none is isnt h = absurd (true≢false (sym (is ∙ ap not isnt)))
told P (Some class) none is isnt h = h

pub loop-o-preserved : goal.loop-o-preserved
loop-o-preserved c = record {
  known = c.own_class-known.ensures.own;
  so_far =
      All-more (AnswersItself c.args.m.now) c.args.policies.now c.loop-o.o-index 0 c.loop-o-test.true c.loop-o.invariant.so_far
      (told _ c.own_class-known.result c.is_none.result c.is_none.ensures c.if-is_none.false c.own_class-known.ensures.itself);
}

pub returns : goal.returns
returns c = λ t. subst (All (AnswersItself c.args.m.now)) (take_all c.loop-o.o-index c.args.policies.now c.loop-o-test.false) c.loop-o.invariant.so_far

use Rattle.resin_eval_merges.specs.Under.builtin.Signatures.{is_count as resin_is_count, sig_of}
use Rattle.resin_eval_merges.proofs.eval_nested_lemmas.Arms.{does_no, does_yes}
use Rattle.resin_eval_merges.proofs.eval_nested_lemmas.Arguments.{counted_as}
use Rattle.resin_eval_functions.proofs.Counts.{sig_is, sig_there}
use Rattle.resin_eval_merges.proofs.meaning_lemmas.Composition.{does_exit, does_loosely, does_next}
use Rattle.std.proofs.Common.{ap, length}
use Rattle.resin_eval_functions.proofs.arguments.Builtins.builtin.Goals as goal

pub returns-in_default : goal.returns-in_default
returns-in_default g c =
    absurd (sig_there _ _ _ c.requires.named c.signature.ensures c.in_default.is)

pub returns-then-not-takes : goal.returns-then-not-takes
returns-then-not-takes g c =
    does_no _ _ _ (counted_as (λ n. resin_is_count (sig_of c.args.known) n) c.args.args.now _ _ _ (rw (sig_is _ _ _ _ c.requires.named c.signature.ensures c.in-Some.is) at c.takes.ensures) (ap length c.as_slice.ensures) c.if-not-takes.true) (c.miscounted.ensures _ _ _)

pub returns-in_err-turned : goal.returns-in_err-turned
returns-in_err-turned g c =
    does_yes _ _ _ (counted_as (λ n. resin_is_count (sig_of c.args.known) n) c.args.args.now _ _ _ (rw (sig_is _ _ _ _ c.requires.named c.signature.ensures c.in-Some.is) at c.takes.ensures) (ap length c.as_slice.ensures) c.if-not-takes.false) (does_exit _ _ _ c.from_residual.ensures.1 (rw ((sig_is _ _ _ _ c.requires.named c.signature.ensures c.in-Some.is), c.as_slice-2.ensures) at c.in_err-turned.ensures))

pub returns-in_err-set : goal.returns-in_err-set
returns-in_err-set g c =
    does_yes _ _ _ (counted_as (λ n. resin_is_count (sig_of c.args.known) n) c.args.args.now _ _ _ (rw (sig_is _ _ _ _ c.requires.named c.signature.ensures c.in-Some.is) at c.takes.ensures) (ap length c.as_slice.ensures) c.if-not-takes.false) (does_next _ _ (rw ((sig_is _ _ _ _ c.requires.named c.signature.ensures c.in-Some.is), c.as_slice-2.ensures) at c.in_ok-turned.ensures) (does_exit _ _ _ c.from_residual-in_err-set.ensures.1 (rw (c.as_slice-3.ensures) at c.in_err-set.ensures)))

pub work-requires : goal.work-requires
work-requires g c =
    c.requires.named

pub returns : goal.returns
returns g c =
    does_yes _ _ _ (counted_as (λ n. resin_is_count (sig_of c.args.known) n) c.args.args.now _ _ _ (rw (sig_is _ _ _ _ c.requires.named c.signature.ensures c.in-Some.is) at c.takes.ensures) (ap length c.as_slice.ensures) c.if-not-takes.false) (does_next _ _ (rw ((sig_is _ _ _ _ c.requires.named c.signature.ensures c.in-Some.is), c.as_slice-2.ensures) at c.in_ok-turned.ensures) (does_next _ _ (rw (c.as_slice-3.ensures) at c.in_ok-set.ensures) (does_loosely _ _ _ _ c.work.ensures.acts)))

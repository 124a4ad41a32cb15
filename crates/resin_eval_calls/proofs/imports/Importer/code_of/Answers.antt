use Rattle.resin_eval_channels.proofs.eval_nested_lemmas.Exits.{does_seen_exit, does_seen_lost}
use Rattle.resin_eval_channels.proofs.meaning_lemmas.Composition.{does_act, does_give, does_next}
use Rattle.resin_eval_calls.proofs.imports.Importer.code_of.Goals as goal

pub returns-in_err-text : goal.returns-in_err-text
returns-in_err-text g c =
    does_seen_exit _ _ _ _ c.from_residual.ensures.1 (c.in_err-text.ensures _ _ _)

pub returns-in_err-context : goal.returns-in_err-context
returns-in_err-context g c =
    does_seen_lost _ _ _ _ c.from_residual-in_err-context.ensures.1 (c.in_ok-text.ensures _ _ _)

pub returns-in_err-src : goal.returns-in_err-src
returns-in_err-src g c =
    does_next _ _ (c.in_ok-text.ensures _ _ _) (does_seen_exit _ _ _ _ c.from_residual-in_err-src.ensures.1 (rw c.in_ok-context.ensures at c.in_err-src.ensures))

pub returns-in_err-import : goal.returns-in_err-import
returns-in_err-import g c =
    does_next _ _ (c.in_ok-text.ensures _ _ _) (does_next _ _ (rw c.in_ok-context.ensures at c.in_ok-src.ensures) (does_seen_exit _ _ _ _ c.from_residual-in_err-import.ensures.1 (does_act _ _ _ _ c.in_err-import.ensures.acts)))

pub returns : goal.returns
returns g c =
    does_next _ _ (c.in_ok-text.ensures _ _ _) (does_next _ _ (rw c.in_ok-context.ensures at c.in_ok-src.ensures) (does_next _ _ (does_act _ _ _ _ c.in_ok-import.ensures.acts) (does_give _ _)))

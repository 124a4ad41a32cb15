use Rattle.resin_eval_queries.specs.Under.meaning_forms.Files.{contents_of}
use Rattle.resin_eval_queries.specs.Under.meaning_forms.Programs.{evals}
use Rattle.resin_eval_queries.specs.Under.store.Entries.{lift}
use Rattle.resin_eval_queries.specs.Under.base.declared.files.Entry.{Entry}
use Rattle.resin_eval_queries.proofs.eval_nested_lemmas.Exits.{does_is, does_seen_exit, does_seen_lost}
use Rattle.resin_eval_queries.proofs.meaning_lemmas.Composition.{does_give, does_next}
use Rattle.std.specs.Option.{option_map}
use Rattle.std.proofs.Common.{Option, ap}
use Rattle.resin_eval_channels.proofs.files.Shelf.contents_of.Goals as goal

pub returns-in_default : goal.returns-in_default
returns-in_default g c =
    does_is (ap (λ (o : Option Entry). contents_of (evals c.args.self.now.by.now.room) c.args.path.now (option_map lift o)) c.in_default.is) (does_give _ _)

pub returns-in_err-text : goal.returns-in_err-text
returns-in_err-text g c =
    does_is (ap (λ (o : Option Entry). contents_of (evals c.args.self.now.by.now.room) c.args.path.now (option_map lift o)) c.in-Some.is) (does_seen_exit _ _ _ _ c.from_residual.ensures.1 (c.in_err-text.ensures _ _ _))

pub returns-in_err-context : goal.returns-in_err-context
returns-in_err-context g c =
    does_is (ap (λ (o : Option Entry). contents_of (evals c.args.self.now.by.now.room) c.args.path.now (option_map lift o)) c.in-Some.is) (does_seen_lost _ _ _ _ c.from_residual-in_err-context.ensures.1 (c.in_ok-text.ensures _ _ _))

pub returns-in_err-read : goal.returns-in_err-read
returns-in_err-read g c =
    does_is (ap (λ (o : Option Entry). contents_of (evals c.args.self.now.by.now.room) c.args.path.now (option_map lift o)) c.in-Some.is) (does_next _ _ (c.in_ok-text.ensures _ _ _) (does_seen_exit _ _ _ _ c.from_residual-in_err-read.ensures.1 (rw c.in_ok-context.ensures at c.in_err-read.ensures)))

pub returns : goal.returns
returns g c =
    does_is (ap (λ (o : Option Entry). contents_of (evals c.args.self.now.by.now.room) c.args.path.now (option_map lift o)) c.in-Some.is) (does_next _ _ (c.in_ok-text.ensures _ _ _) (does_next _ _ (rw c.in_ok-context.ensures at c.in_ok-read.ensures) (does_give _ _)))

use Rattle.resin_eval_queries.specs.Under.meaning_forms.Channels.{flushed}
use Rattle.resin_eval_queries.specs.Under.meaning_forms.Programs.{evals}
use Rattle.resin_eval_queries.proofs.eval_nested_lemmas.Exits.{does_is, does_seen_exit}
use Rattle.resin_eval_queries.specs.Under.lstr.Texts.{Text as LabelledText}
use Rattle.resin_eval_queries.proofs.meaning_lemmas.Composition.{does_give, does_next}
use Rattle.std.proofs.Common.{Option, ap}
use Rattle.resin_eval_channels.proofs.channels.Sender.flushed.Goals as goal

pub returns-in_err-write_page-in-Some : goal.returns-in_err-write_page-in-Some
returns-in_err-write_page-in-Some g c =
    does_is (ap (λ (x : Option LabelledText). flushed (evals c.args.self.now.by.now.room) x) c.in-Some.is) (does_seen_exit _ _ _ _ c.from_residual.ensures.1 (c.in_err-write_page-in-Some.ensures))

pub returns-in_ok-write_page-in-Some : goal.returns-in_ok-write_page-in-Some
returns-in_ok-write_page-in-Some g c =
    does_is (ap (λ (x : Option LabelledText). flushed (evals c.args.self.now.by.now.room) x) c.in-Some.is) (does_next _ _ (c.in_ok-write_page-in-Some.ensures) (does_give _ _))

pub returns-in-None : goal.returns-in-None
returns-in-None g c =
    does_is (ap (λ (x : Option LabelledText). flushed (evals c.args.self.now.by.now.room) x) c.in-None.is) (does_give _ _)

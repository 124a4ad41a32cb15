use Rattle.std.proofs.Common.{refl}
use Rattle.resin_serve.proofs.Event_runs.{at_piece, event_stop, at_end}
use Rattle.resin_serve.proofs.Keeping.{kept_none}
use Rattle.resin_serve.proofs.run.serve_event.Goals as goal

pub returns-in-Ok-clause-ran : goal.returns-in-Ok-clause-ran
returns-in-Ok-clause-ran g c = λ place seen h.
    at_piece _ _ seen _ _ place _ _ _ _ _ _ _ _ _ _ _ h c.in-Piece.is refl c.in-Ok.ensures.ok c.in-Ok.ensures.others c.serve_connection.ensures.others (c.serve_connection.ensures.ran place) c.serve_connection.ensures.line

pub returns-in-Err-clause-kept : goal.returns-in-Err-clause-kept
returns-in-Err-clause-kept g c = kept_none _

pub returns-in-Err-clause-ran : goal.returns-in-Err-clause-ran
returns-in-Err-clause-ran g c = λ place seen h. event_stop _ seen _ _ _ _ _ _ _

pub returns-in-End-clause-kept : goal.returns-in-End-clause-kept
returns-in-End-clause-kept g c = kept_none _

pub returns-in-End-clause-ran : goal.returns-in-End-clause-ran
returns-in-End-clause-ran g c = λ place seen h. at_end _ seen _ _ place _ _ _ _ _ _ h c.in-End.is c.end.ensures.here c.end.ensures.others

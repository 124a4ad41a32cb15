-- The meaning of an answer in a run: the site's, with what it puts into the log and the record of its response (this project).
use Rattle.std.specs.Prelude.{ℕ}
use Rattle.resin_site.specs.Replies.{answer}
use Rattle.resin_site.specs.Replies as replies
use Rattle.resin_serve.specs.Meaning.{Reply, Meaning}
use Rattle.resin_serve.specs.Records.{record_text}
use Rattle.resin_serve.specs.Logs.{logged}
use Rattle.resin_serve.specs.declared.logging.Logging.{Logging}
use Rattle.resin_serve.specs.declared.run.Service.{Service}

-- the reply of the site in an answer of this number, with what it puts into the log, and the record of its response on a connection
abbrev pub recorded : Logging → ℕ → ℕ → replies.Reply → Reply
recorded logging number conn r = record {
  logging = logging;
  log = logged logging number r.journal;
  mail = r.mail;
  out = record_text conn r.response;
  is = r;
  after = r.after;
  moments = r.moments;
}

-- the answers of a site whose requests have so much fuel, and whose log is of this kind
abbrev pub meaning : Logging → ℕ → Meaning
meaning logging fuel K s number conn asked = recorded logging number conn (answer fuel K s.store s.made number asked)

-- the answers of a service
abbrev pub served : Service → Meaning
served service = meaning service.logging service.site

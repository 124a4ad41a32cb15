-- The joint grammar: where nothing stands, a statement is wanted, and what a text is read as says what it is.
use Rattle.std.proofs.Common.{◌≡◌, ℕ, List, [], ◌⊎◌, Result, Ok, Err, refl}
use Rattle.resin_form.specs.Reading.{Stop}
use Rattle.resin_sql_words.specs.Forms.{under}
use Rattle.resin_sql_words.specs.Words.{gap, gap_from}
use Rattle.resin_sql.specs.declared.fault.SqlFault.{SqlFault}
use Rattle.resin_sql.specs.declared.fault.SqlFault.TheVariants.{Memory}
use Rattle.resin_sql.proofs.Endings.{IsRead, answers_of, found_of}
use Rattle.resin_joint.specs.Answers.{AnswersMore, IsMore, start}
use Rattle.resin_joint.specs.Joint.{joint, opening}
use Rattle.resin_joint.specs.Readings.{read_more_as}
use Rattle.resin_joint.specs.declared.tree.MoreStmt.{MoreStmt}

pub nothing_read : under joint [] ≡ Stop []
unfolding joint opening gap gap_from
nothing_read = refl

module _ (bytes : List ℕ) (r : Result MoreStmt SqlFault) (h : IsRead joint start nothing_read bytes r) where
  pub answers : AnswersMore bytes r
  answers = answers_of joint start nothing_read bytes r h

  pub found : (q : MoreStmt) → IsMore bytes q → (r ≡ Ok q) ⊎ (r ≡ Err Memory)
  found = found_of joint start nothing_read bytes r h

  pub is_read : (r ≡ read_more_as bytes) ⊎ (r ≡ Err Memory)
  unfolding read_more_as
  is_read = h

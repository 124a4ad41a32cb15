-- What a text is read as says what the guard of queries answers.
use Rattle.std.proofs.Common.{◌≡◌, ◌≢◌, ℕ, Result, Ok, Err, refl, sym, ap, subst, ◌∙◌}
use Rattle.std.specs.Prelude.{IfOk}
use Rattle.resin_label.specs.Sets.{NumberSet}
use Rattle.resin_lstr.specs.Texts.{Text, bytes_of}
use Rattle.resin_sql.specs.Answers.{Answers, IsStatement}
use Rattle.resin_sql.specs.Readings.{read_as}
use Rattle.resin_sql.specs.declared.fault.SqlFault.{SqlFault}
use Rattle.resin_sql.specs.declared.fault.SqlFault.TheVariants as fault
use Rattle.resin_sql.specs.declared.tree.Stmt.{Stmt}
use Rattle.resin_sql.proofs.Whole.{one_answer}
use Rattle.resin_guard.specs.Pages.{Places}
use Rattle.resin_guard.specs.Judged.{IsJudged, judged}
use Rattle.resin_guard.specs.Literals.{literal_places, GivesLiterals, IsQueryGuard}
use Rattle.resin_guard.specs.Verdicts.{query_verdict, sql_verdict}
use Rattle.resin_guard.specs.declared.judge.Guard.{Guard}
use Rattle.resin_guard.specs.declared.judge.Guard.TheVariants.{Pass, Bad, Untrusted}
use Rattle.resin_guard.proofs.Judging.{is_judged}

module _ (bad : NumberSet) (d : Text) where
  query_guard : (g : Guard) (q : Stmt) → IsStatement (bytes_of d) q → IsJudged bad (literal_places q) d g → IsQueryGuard bad d g
  query_guard Pass q s j = (q, s, j)
  query_guard (Bad at) q s j = absurd j
  query_guard (Untrusted at) q s j = (q, s, j)

  by_reading : (r : Result Stmt SqlFault) → r ≢ Err fault.Memory → Answers (bytes_of d) r → IsQueryGuard bad d (query_verdict bad d r)
  by_reading (Ok q) n a = query_guard (judged bad (literal_places q) d) q a (is_judged bad (literal_places q) d)
  by_reading (Err (fault.Bad at)) n a = a
  by_reading (Err fault.Memory) n a = absurd (n refl)

  pub query_is_guarded : IsQueryGuard bad d (sql_verdict bad d)
  unfolding sql_verdict
  query_is_guarded = let h = one_answer (bytes_of d) in by_reading (read_as (bytes_of d)) h.is_told h.answers

  reads_as : (r : Result Stmt SqlFault) → r ≢ Err fault.Memory → Answers (bytes_of d) r → query_verdict bad d r ≡ sql_verdict bad d
  unfolding sql_verdict
  reads_as r n a = let h = one_answer (bytes_of d) in ap (query_verdict bad d) (h.only r n a)

  pub of_query : {E : Type 0} (r : Result Guard E) (places : Places) → GivesLiterals (bytes_of d) (Ok places) → IfOk r (λ g. g ≡ judged bad places d) → IfOk r (λ g. g ≡ sql_verdict bad d)
  of_query (Ok g) places p e = e ∙ ap (λ ps. judged bad ps d) p.2 ∙ reads_as (Ok p.0) (λ k. absurd (cc)) p.1
  of_query (Err x) places p e = tt

  pub of_query_fault : (at : ℕ) → Answers (bytes_of d) (Err (fault.Bad at)) → Bad at ≡ sql_verdict bad d
  of_query_fault at a = reads_as (Err (fault.Bad at)) (λ k. absurd (cc)) a

  pub guards_query : {E : Type 0} (r : Result Guard E) → IfOk r (λ g. g ≡ sql_verdict bad d) → IfOk r (λ g. IsQueryGuard bad d g)
  guards_query (Ok g) e = subst (IsQueryGuard bad d) (sym e) query_is_guarded
  guards_query (Err x) e = tt

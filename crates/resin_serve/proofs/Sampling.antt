-- A run over a source, sinks and keepers that never fail.
use Rattle.std.proofs.Common.{◌≡◌, ℕ, ◌+◌, ◌-◌, ◌^◌, ◌≤◌, min, List, [], ◌++◌, length, Option, Some, None, refl, ap, ◌∙◌, subst, arith, inl, inr}
use Rattle.std.specs.FinMap.{empty}
use Rattle.resin_site.specs.Under.base.Causes.{Rose}
use Rattle.resin_site.specs.Under.base.FileStore.{FileStore}
use Rattle.resin_site.specs.Under.base.TableStore.{TableStore}
use Rattle.resin_site.specs.Under.store.Files.{lift_files}
use Rattle.resin_site.specs.Keeping.{Store, Answers, state, store_of}
use Rattle.resin_trace.specs.Verdicts.{IsGood}
use Rattle.resin_serve.specs.declared.give.Given.TheVariants.{Whole}
use Rattle.resin_serve.specs.declared.status.Status.{Status}
use Rattle.resin_serve.specs.declared.status.Status.TheVariants.{Usage, BadTrace, ReadFault, WriteFault, TraceTooLong, AuditRefused}
use Rattle.resin_serve.specs.declared.status.Status.TheVariants.{Ok as StatusOk, Memory as StatusMemory}
use Rattle.resin_serve.specs.Meaning.{Meaning, order, bytes_of, AllObey}
use Rattle.resin_serve.specs.Ran.{World, world, part, Ran}
use Rattle.resin_serve.specs.Gives.{Sinks, RoseIn, CausedIn, counts, sinks}
use Rattle.resin_serve.specs.Kept.{Keepers, keepers, Kept}
use Rattle.resin_serve.specs.Whole_run.{RunsFrom, ReadCause, Numbers, given_of_status}
use Rattle.resin_serve.specs.Headline.{Completes, Calm}
use Rattle.resin_serve.specs.Samples.{held, lines_in, TellsCounts}
use Rattle.resin_serve.proofs.Completing.{completes, no_fails}

-- sinks that never fail
abbrev pub still : Sinks
still = sinks (counts 0 0) (counts 0 0) (counts 0 0)

no_rise : Rose 0 0 → ⊥
no_rise h = let l : min (0 + 1) (2 ^ 64 - 1) ≤ 0 = h in omega arith

no_rise_in : RoseIn (counts 0 0) (counts 0 0) → ⊥
no_rise_in (inl r) = no_rise r
no_rise_in (inr r) = no_rise r

calm : (k k' : Keepers) → k.file_faults ≡ 0 → k'.file_faults ≡ 0 → k.table_faults ≡ 0 → k'.table_faults ≡ 0 → Calm 0 0 still still k k'
calm k k' e e' t t' = record {
  reads_stay = no_rise;
  log_stays = no_rise_in;
  mail_stays = no_rise_in;
  out_stays = no_rise_in;
  files_stay = λ h. no_rise (subst (λ n. Rose 0 n) e' (subst (λ n. Rose n k'.file_faults) e h));
  tables_stay = λ h. no_rise (subst (λ n. Rose 0 n) t' (subst (λ n. Rose n k'.table_faults) t h));
}

-- the run of a good trace comes to its end, or memory is wanting
pub comes_to_end : (status : Status) (R : Meaning) (K T : List ℕ) (now : Option (List ℕ)) (old new : World) → RunsFrom status R K T now old new → IsGood T
    → CausedIn (given_of_status status) still still → ReadCause status 0 0 → Completes status
comes_to_end status R K T now old new run good cause read =
    completes status R K T run.taken old new still still 0 0 (keepers 0 [] None 0 None 0) (keepers 0 [] None 0 None 0) run.runs good cause read
    (calm (keepers 0 [] None 0 None 0) (keepers 0 [] None 0 None 0) refl refl refl refl)

-- the whole run from these files and tables
through : (Q : _ → Type 0) (R : Meaning) (K : List ℕ) (xs : _) (log mail out log' : List ℕ) (mail' out' : Option (List ℕ)) (files : FileStore) (tables : TableStore) (told told' : Answers) (store' : Option Store) (made made' : ℕ)
    → Ran Whole Q R K 1 xs (world (Some log) (Some mail) (Some out) (store_of (Some files) (Some tables)) told made) (world (Some log') mail' out' store' told' made')
    → log' ≡ log ++ part 0 (bytes_of R K (state (record { files = lift_files files; tables = tables }) made) 1 xs)
unfolding Ran
through Q R K xs log mail out log' mail' out' files tables told told' store' made made' r = r.gained.log

-- each of its answers obeys the access law
obeyed : (Q : _ → Type 0) (R : Meaning) (K : List ℕ) (xs : _) (log mail out log' : List ℕ) (mail' out' : Option (List ℕ)) (files : FileStore) (tables : TableStore) (told told' : Answers) (store' : Option Store) (made made' : ℕ)
    → Ran Whole Q R K 1 xs (world (Some log) (Some mail) (Some out) (store_of (Some files) (Some tables)) told made) (world (Some log') mail' out' store' told' made')
    → AllObey R K (state (record { files = lift_files files; tables = tables }) made) 1 xs
unfolding Ran
obeyed Q R K xs log mail out log' mail' out' files tables told told' store' made made' r = r.lawful

pub tells_counts : (status : Status) (R : Meaning) (T : List ℕ) (now : Option (List ℕ)) (files : FileStore) (tables : TableStore) (failed failed' : List ℕ) (made made' next : ℕ) (log mail out log' : List ℕ) (mail' out' : Option (List ℕ)) (told told' : Answers) (store' : Option Store)
    → Kept (keepers made failed None 0 None 0) (keepers made' failed' None 0 None 0) → made ≡ 0 → failed ≡ [] → tables ≡ empty → log ≡ [] → IsGood T → Numbers status T next
    → RunsFrom status R failed' T now (world (Some log) (Some mail) (Some out) (store_of (Some files) (Some tables)) told made) (world (Some log') mail' out' store' told' made')
    → TellsCounts status R files T next log'
tells_counts StatusOk R T now files tables failed failed' made made' next log mail out log' mail' out' told told' store' kept m f t l good number run =
    let xs = order [] good.events in
    let n : next ≡ 1 + length xs = number good.events [] good.records in
    let none : failed' ≡ [] = no_fails _ _ kept f no_rise no_rise in
    let is : log' ≡ log ++ part 0 (bytes_of R failed' (state (record { files = lift_files files; tables = tables }) made) 1 xs) =
    through _ R failed' xs log mail out log' mail' out' files tables told told' store' made made' (run.runs.1 good.events [] good.records) in
    let same : log' ≡ part 0 (bytes_of R [] (state (held files) 0) 1 xs) =
    is ∙ ap (λ a. a ++ part 0 (bytes_of R failed' (state (record { files = lift_files files; tables = tables }) made) 1 xs)) l
    ∙ ap (λ K. part 0 (bytes_of R K (state (record { files = lift_files files; tables = tables }) made) 1 xs)) none
    ∙ ap (λ s. part 0 (bytes_of R [] (state (record { files = lift_files files; tables = s }) made) 1 xs)) t
    ∙ ap (λ k. part 0 (bytes_of R [] (state (held files) k) 1 xs)) m in
    let law : AllObey R failed' (state (record { files = lift_files files; tables = tables }) made) 1 xs =
    obeyed _ R failed' xs log mail out log' mail' out' files tables told told' store' made made' (run.runs.1 good.events [] good.records) in
    let same_law : AllObey R [] (state (held files) 0) 1 xs =
    subst (λ k. AllObey R [] (state (held files) k) 1 xs) m
    (subst (λ s. AllObey R [] (state (record { files = lift_files files; tables = s }) made) 1 xs) t
    (subst (λ K. AllObey R K (state (record { files = lift_files files; tables = tables }) made) 1 xs) none law)) in (
      omega arith,
      record {
        records = good.events;
        whole = good.records;
        requests_are = (let e : next - 1 ≡ length xs = omega arith in e);
        lawful = same_law;
        denied_are = ap lines_in same;
      },
    )
tells_counts Usage R T now files tables failed failed' made made' next log mail out log' mail' out' told told' store' kept m f t l good number run = tt
tells_counts (BadTrace offset) R T now files tables failed failed' made made' next log mail out log' mail' out' told told' store' kept m f t l good number run = tt
tells_counts ReadFault R T now files tables failed failed' made made' next log mail out log' mail' out' told told' store' kept m f t l good number run = tt
tells_counts WriteFault R T now files tables failed failed' made made' next log mail out log' mail' out' told told' store' kept m f t l good number run = tt
tells_counts TraceTooLong R T now files tables failed failed' made made' next log mail out log' mail' out' told told' store' kept m f t l good number run = tt
tells_counts StatusMemory R T now files tables failed failed' made made' next log mail out log' mail' out' told told' store' kept m f t l good number run = tt
tells_counts AuditRefused R T now files tables failed failed' made made' next log mail out log' mail' out' told told' store' kept m f t l good number run = tt

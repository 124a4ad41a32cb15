-- How the top call ends: by a run, by an audit, or at once.
use Rattle.std.proofs.Common.{◌≡◌, ℕ, ◌≤◌, ◌<◌, Bool, List, [], length, Option, Some, None, sym, ap, ◌∙◌, subst, arith, inl, inr}
use Rattle.resin_trace.specs.Records.{limit}
use Rattle.resin_trace.specs.Seen.{Seen}
use Rattle.resin_serve.specs.declared.give.Given.{Given}
use Rattle.resin_serve.specs.declared.give.Given.TheVariants.{Whole, Fault, Memory as GivenMemory}
use Rattle.resin_serve.specs.declared.status.Status.{Status}
use Rattle.resin_serve.specs.declared.status.Status.TheVariants.{Usage, BadTrace, ReadFault, WriteFault, TraceTooLong, AuditRefused}
use Rattle.resin_serve.specs.declared.status.Status.TheVariants.{Ok as StatusOk, Memory as StatusMemory}
use Rattle.resin_serve.specs.Gives.{Counts, Sinks, sinks, RoseIn, Caused, CausedIn}
use Rattle.resin_site.specs.Under.base.declared.calls.Calls.{Calls}
use Rattle.resin_site.specs.Under.base.Numbering.{AreNumbered, RiseWithin}
use Rattle.resin_site.specs.Keeping.{Answers, Store}
use Rattle.resin_serve.specs.declared.logging.Logging.{Logging}
use Rattle.resin_serve.specs.Asked.{meaning}
use Rattle.resin_serve.specs.Meaning.{Meaning}
use Rattle.resin_serve.specs.Ran.{World, world}
use Rattle.resin_serve.specs.Kept.{Keepers, keepers, Kept}
use Rattle.resin_serve.specs.Whole_run.{Finished, RunsFrom, ReadCause, given_of_status}
use Rattle.resin_serve.specs.Headline.{Calm, Completes}
use Rattle.resin_serve.specs.Samples.{Samples}
use Rattle.resin_serve.specs.Audits.{Audits, EndsRun, CompletesAudit}
use Rattle.resin_serve.proofs.Completing.{kept_new, runs_nothing}

-- a run that ends where the trace does ends by a status of runs
pub ends_run : (s : Seen) (status : Status) → Finished s status → EndsRun status
ends_run s StatusOk f = tt
ends_run s Usage f = f
ends_run s (BadTrace offset) f = tt
ends_run s ReadFault f = tt
ends_run s WriteFault f = tt
ends_run s TraceTooLong f = tt
ends_run s StatusMemory f = tt
ends_run s AuditRefused f = f

-- no call was made
pub kept_ended : (made : ℕ) (failed : List ℕ) (files tables : Option (List Bool)) (file_faults table_faults : ℕ) → made ≡ 0 → failed ≡ []
    → Kept (keepers 0 [] files file_faults tables table_faults) (keepers made failed files file_faults tables table_faults)
kept_ended made failed files tables file_faults table_faults e f =
    subst (λ m. Kept (keepers 0 [] files file_faults tables table_faults) (keepers m failed files file_faults tables table_faults)) (sym e)
    (kept_new failed files tables file_faults table_faults f)

-- words that ask for something are some of the forms
pub no_task : {A P : Type 0} (o : Option A) (a : A) → None ≡ o → o ≡ Some a → P
no_task o a e f = let g : None ≡ Some a = e ∙ f in absurd (cc)

-- only the output was given something
pub caused_out : (g : Given) (log mail out out' : Counts) → Caused g out out' → CausedIn g (sinks log mail out) (sinks log mail out')
caused_out Whole log mail out out' c = ap (sinks log mail) c
caused_out Fault log mail out out' c = inr (inr c)
caused_out GivenMemory log mail out out' c = ap (sinks log mail) c

-- an audit over a calm outside comes to its verdict
pub completes_audit : (status : Status) (text : List ℕ) (old new : Option (List ℕ)) (s s' : Sinks) (r r' : ℕ) (k k' : Keepers)
    → Audits status text old new → length text ≤ limit → CausedIn (given_of_status status) s s' → ReadCause status r r' → Calm r r' s s' k k' → CompletesAudit status
completes_audit StatusOk text old new s s' r r' k k' a l c x calm = tt
completes_audit Usage text old new s s' r r' k k' a l c x calm = a
completes_audit (BadTrace offset) text old new s s' r r' k k' a l c x calm = a
completes_audit ReadFault text old new s s' r r' k k' a l c x calm = calm.reads_stay x
completes_audit WriteFault text old new s s' r r' k k' a l (inl c) x calm = calm.log_stays c
completes_audit WriteFault text old new s s' r r' k k' a l (inr (inl c)) x calm = calm.mail_stays c
completes_audit WriteFault text old new s s' r r' k k' a l (inr (inr c)) x calm = calm.out_stays c
completes_audit TraceTooLong text old new s s' r r' k k' a l c x calm = let m : limit < length text = a.0 in absurd (omega arith)
completes_audit StatusMemory text old new s s' r r' k k' a l c x calm = tt
completes_audit AuditRefused text old new s s' r r' k k' a l c x calm = tt

-- ---- a run that didn't begin, and one that does

pub runs_ended : (status : Status) (R : Meaning) (K T : List ℕ) (now log mail out : Option (List ℕ)) (store : Option Store) (told : Answers) (made : ℕ) → status ≡ StatusMemory → made ≡ 0 → now ≡ Some T
    → RunsFrom status R K T now (world log mail out store told 0) (world log mail out store told made)
runs_ended status R K T now log mail out store told made e f p =
    subst (λ s. RunsFrom s R K T now (world log mail out store told 0) (world log mail out store told made)) (sym e)
    (subst (λ m. RunsFrom StatusMemory R K T now (world log mail out store told 0) (world log mail out store told m)) (sym f)
    (runs_nothing R K T now (world log mail out store told 0) p))

pub runs_begun : (status : Status) (logging logging' : Logging) (fuel fuel' : ℕ) (K T : List ℕ) (now log mail out : Option (List ℕ)) (store : Option Store) (told : Answers) (made : ℕ) (new : World)
    → logging ≡ logging' → fuel ≡ fuel' → made ≡ 0 → RunsFrom status (meaning logging fuel) K T now (world log mail out store told made) new
    → RunsFrom status (meaning logging' fuel') K T now (world log mail out store told 0) new
runs_begun status logging logging' fuel fuel' K T now log mail out store told made new l f m r =
    subst (λ k. RunsFrom status (meaning k fuel') K T now (world log mail out store told 0) new) l
    (subst (λ k. RunsFrom status (meaning logging k) K T now (world log mail out store told 0) new) f
    (subst (λ k. RunsFrom status (meaning logging fuel) K T now (world log mail out store told k) new) m r))

pub kept_begun : (made : ℕ) (failed : List ℕ) (files tables : Option (List Bool)) (file_faults table_faults : ℕ) (new : Keepers) → made ≡ 0 → failed ≡ []
    → Kept (keepers made failed files file_faults tables table_faults) new → Kept (keepers 0 [] files file_faults tables table_faults) new
kept_begun made failed files tables file_faults table_faults new e f k =
    subst (λ l. Kept (keepers 0 l files file_faults tables table_faults) new) f
    (subst (λ m. Kept (keepers m failed files file_faults tables table_faults) new) e k)

pub none_numbered : (calls : Calls) → calls.failed ≡ [] → AreNumbered calls
none_numbered calls e = subst (λ l. RiseWithin 0 calls.made l) (sym e) tt

-- a sample over a calm output gives its line
pub completes_sample : (status : Status) (number : ℕ) (old new : Option (List ℕ)) (s s' : Counts) → Samples status number old new → Caused (given_of_status status) s s' → (RoseIn s s' → ⊥) → Completes status
completes_sample StatusOk number old new s s' a c calm = tt
completes_sample Usage number old new s s' a c calm = a
completes_sample (BadTrace offset) number old new s s' a c calm = a
completes_sample ReadFault number old new s s' a c calm = a
completes_sample WriteFault number old new s s' a c calm = calm c
completes_sample TraceTooLong number old new s s' a c calm = a
completes_sample StatusMemory number old new s s' a c calm = tt
completes_sample AuditRefused number old new s s' a c calm = a

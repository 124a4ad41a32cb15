-- What a calm outside leaves of a run over a good trace.
use Rattle.std.proofs.Common.{◌≡◌, ℕ, ◌+◌, ◌<◌, ◌≤◌, min, List, [], ◌++◌, length, Option, Some, refl, sym, ap, ◌∙◌, arith, subst, inl, inr, Bool}
use Rattle.std.specs.Prelude.{Ok, Err}
use Rattle.std.proofs.lemmas.List.{nil_from_length}
use Rattle.resin_site.specs.Under.base.Causes.{Rose, last_count}
use Rattle.resin_trace.specs.declared.reader.TraceFault.TheVariants.{Bad, TooLong}
use Rattle.resin_trace.specs.Verdicts.{IsGood}
use Rattle.resin_trace.proofs.Verdicts_of.{one_end}
use Rattle.resin_serve.specs.declared.status.Status.{Status}
use Rattle.resin_serve.specs.declared.status.Status.TheVariants.{Usage, BadTrace, ReadFault, WriteFault, TraceTooLong, AuditRefused}
use Rattle.resin_serve.specs.declared.status.Status.TheVariants.{Ok as StatusOk, Memory as StatusMemory}
use Rattle.resin_serve.specs.declared.logging.Logging.{Logging}
use Rattle.resin_serve.specs.Asked.{meaning}
use Rattle.resin_serve.specs.Meaning.{Meaning}
use Rattle.resin_serve.specs.Ran.{World}
use Rattle.resin_serve.specs.Gives.{Sinks, CausedIn}
use Rattle.resin_serve.specs.Kept.{Keepers, keepers, Kept, failed_after}
use Rattle.resin_serve.specs.Whole_run.{Runs, RunsFrom, ReadCause, given_of_status}
use Rattle.resin_serve.specs.Headline.{Completes, Calm}
use Rattle.resin_serve.proofs.Runs.{ran_stop}
use Rattle.resin_serve.proofs.Keeping.{kept_none}

pub completes : (status : Status) (R : Meaning) (K T U : List ℕ) (old new : World) (s s' : Sinks) (r r' : ℕ) (k k' : Keepers)
    → Runs status R K T U old new → IsGood T → CausedIn (given_of_status status) s s' → ReadCause status r r' → Calm r r' s s' k k' → Completes status
completes StatusOk R K T U old new s s' r r' k k' run g c a calm = tt
completes Usage R K T U old new s s' r r' k k' run g c a calm = run
completes (BadTrace offset) R K T U old new s s' r r' k k' run g c a calm = let e = one_end T (Ok tt) (Err (Bad offset)) g run.0 in cc
completes ReadFault R K T U old new s s' r r' k k' run g c a calm = calm.reads_stay a
completes WriteFault R K T U old new s s' r r' k k' run g (inl c) a calm = calm.log_stays c
completes WriteFault R K T U old new s s' r r' k k' run g (inr (inl c)) a calm = calm.mail_stays c
completes WriteFault R K T U old new s s' r r' k k' run g (inr (inr c)) a calm = calm.out_stays c
completes TraceTooLong R K T U old new s s' r r' k k' run g c a calm = let e = one_end T (Ok tt) (Err TooLong) g run.0 in cc
completes StatusMemory R K T U old new s s' r r' k k' run g c a calm = tt
completes AuditRefused R K T U old new s s' r r' k k' run g c a calm = run

-- a count that didn't rise stands where it stood, below its last value
stays : (a b : ℕ) → a ≤ b → (Rose a b → ⊥) → (b ≤ a) × (b < last_count)
stays a b l n = let n' : min (a + 1) last_count ≤ b → ⊥ = n in (omega (arith, n'), omega (arith, n'))

-- where no count of faults rose, no call failed
pub no_fails : (k k' : Keepers) → Kept k k' → k.failed ≡ [] → (Rose k.file_faults k'.file_faults → ⊥) → (Rose k.table_faults k'.table_faults → ⊥) → k'.failed ≡ []
no_fails k k' h e f t =
    let x = stays k.file_faults k'.file_faults h.rose.0 f in
    let y = stays k.table_faults k'.table_faults h.rose.1 t in
    let s : (k.file_faults + k.table_faults) + length (failed_after k.made h.calls) ≤ k'.file_faults + k'.table_faults = h.rose.2 x.1 y.1 in
    let a : k'.file_faults ≤ k.file_faults = x.0 in
    let b : k'.table_faults ≤ k.table_faults = y.0 in
    let none : length (failed_after k.made h.calls) ≡ 0 = omega arith in
    h.failed ∙ ap (λ l. l ++ failed_after k.made h.calls) e ∙ nil_from_length (failed_after k.made h.calls) none

-- nothing was done, for want of memory
pub runs_nothing : (R : Meaning) (K T : List ℕ) (now : Option (List ℕ)) (w : World) → now ≡ Some T → RunsFrom StatusMemory R K T now w w
runs_nothing R K T now w told = record { taken = []; left = T; told = told; front = refl; runs = λ records rest r. ran_stop _ R K 1 _ w }

pub some_same : (a b : ℕ) → Some a ≡ Some b → a ≡ b
some_same a b e = cc

-- no call was made
pub kept_new : (failed : List ℕ) (files tables : Option (List Bool)) (file_faults table_faults : ℕ) → failed ≡ []
    → Kept (keepers 0 [] files file_faults tables table_faults) (keepers 0 failed files file_faults tables table_faults)
kept_new failed files tables file_faults table_faults e =
    subst (λ l. Kept (keepers 0 [] files file_faults tables table_faults) (keepers 0 l files file_faults tables table_faults)) (sym e) (kept_none (keepers 0 [] files file_faults tables table_faults))

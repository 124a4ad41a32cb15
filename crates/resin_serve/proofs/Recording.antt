-- The log of a recorded run is a journal file, and an audit says Yes of it.
use Rattle.std.proofs.Common.{◌≡◌, ℕ, suc, ◌+◌, ◌<◌, ◌≤◌, ◌^◌, List, [], ◌∷◌, ◌++◌, length, Option, Some, None, refl, sym, ap, ◌∙◌, arith, subst}
use Rattle.resin_site.specs.Under.journal.Access.{ObeysAccessLaw}
use Rattle.resin_audit.specs.Under.journal_file.Files.{file_from, journal_text}
use Rattle.resin_audit.specs.Under.journal_file.Limits.{Each, CanBeTold}
use Rattle.resin_site.specs.declared.outcome.End.{End}
use Rattle.resin_site.specs.Keeping.{St}
use Rattle.resin_site.specs.Laws.{ObeysIn}
use Rattle.resin_site.specs.Replies as site
use Rattle.resin_serve.specs.declared.logging.Logging.TheVariants.{Journals}
use Rattle.resin_serve.specs.Meaning.{Meaning, Owed, tagged, reply, bytes_of, AllObey}
use Rattle.resin_serve.specs.Asked.{meaning}
use Rattle.resin_serve.specs.Ran.{Grew, part}
use Rattle.resin_serve.specs.Recorded.{journals_of, RecordsPass}
use Rattle.resin_serve.proofs.Runs.{part_append}
use Rattle.resin_serve.proofs.Giving.{part_log}

-- the journal of an answer obeys the access law
nothing_obeys : ObeysAccessLaw []
nothing_obeys = record { placed = refl; checked = λ w l. refl; in_order = refl }

law_in : (end : Option End) (n : ℕ) (r : site.Reply) → ObeysIn end n r → ObeysAccessLaw r.journal
law_in None n r h = subst ObeysAccessLaw (sym h.journal) nothing_obeys
law_in (Some end) n r h = subst ObeysAccessLaw h.told.journal h.lawful.writes

all_obey : (fuel : ℕ) (K : List ℕ) (s : St) (n : ℕ) (xs : List Owed) → AllObey (meaning Journals fuel) K s n xs → Each ObeysAccessLaw (journals_of (meaning Journals fuel) K s n xs)
all_obey fuel K s n [] h = tt
all_obey fuel K s n (x ∷ xs) h =
    let r = reply (meaning Journals fuel) K s n x in
    (law_in r.is.end n r.is h.0.obeys, all_obey fuel K r.after (n + 1) xs h.1)

all_told : (fuel : ℕ) (K : List ℕ) (s : St) (n : ℕ) (xs : List Owed) → AllObey (meaning Journals fuel) K s n xs → Each (Each CanBeTold) (journals_of (meaning Journals fuel) K s n xs)
all_told fuel K s n [] h = tt
all_told fuel K s n (x ∷ xs) h = (h.0.told.1, all_told fuel K (reply (meaning Journals fuel) K s n x).after (n + 1) xs h.1)

-- the last of some answers has a number of 64 bits
last_counted : (fuel : ℕ) (K : List ℕ) (s : St) (n : ℕ) (x : Owed) (xs : List Owed) → AllObey (meaning Journals fuel) K s n (x ∷ xs) → n + length (x ∷ xs) ≤ 2 ^ 64
last_counted fuel K s n x [] h = let l : n < 2 ^ 64 = h.0.told.0 in omega arith
last_counted fuel K s n x (y ∷ ys) h =
    let l : n + 1 + length (y ∷ ys) ≤ 2 ^ 64 = last_counted fuel K (reply (meaning Journals fuel) K s n x).after (n + 1) y ys h.1 in
    omega arith

as_many : (R : Meaning) (K : List ℕ) (s : St) (n : ℕ) (xs : List Owed) → length (journals_of R K s n xs) ≡ length xs
as_many R K s n [] = refl
as_many R K s n (x ∷ xs) = ap suc (as_many R K (reply R K s n x).after (n + 1) xs)

few : (fuel : ℕ) (K : List ℕ) (s : St) (xs : List Owed) → AllObey (meaning Journals fuel) K s 1 xs → length xs < 2 ^ 64
few fuel K s [] h = omega arith
few fuel K s (x ∷ xs) h = let l : 1 + length (x ∷ xs) ≤ 2 ^ 64 = last_counted fuel K s 1 x xs h in omega arith

-- what the answers put into the log is the file of their journals
log_is : (fuel : ℕ) (K : List ℕ) (s : St) (n : ℕ) (xs : List Owed) → part 0 (bytes_of (meaning Journals fuel) K s n xs) ≡ file_from n (journals_of (meaning Journals fuel) K s n xs)
log_is fuel K s n [] = refl
log_is fuel K s n (x ∷ xs) =
    let r = reply (meaning Journals fuel) K s n x in
    part_append 0 (tagged r) (bytes_of (meaning Journals fuel) K r.after (n + 1) xs)
    ∙ ap (λ l. l ++ part 0 (bytes_of (meaning Journals fuel) K r.after (n + 1) xs)) (part_log r.log r.mail r.out)
    ∙ ap (λ l. journal_text n r.is.journal ++ l) (log_is fuel K r.after (n + 1) xs)

pub records_pass : RecordsPass
records_pass fuel K s xs old new h =
    let js = journals_of (meaning Journals fuel) K s 1 xs in
    let same : length js ≡ length xs = as_many (meaning Journals fuel) K s 1 xs in
    let less : length xs < 2 ^ 64 = few fuel K s xs h.lawful in
    record {
      log = subst (Grew old.log new.log) (log_is fuel K s 1 xs) h.gained.log;
      audited = record {
        journals = js;
        file = record { text_is = refl; count = omega arith; told = all_told fuel K s 1 xs h.lawful };
        obey = all_obey fuel K s 1 xs h.lawful;
        requests_are = refl;
        events_are = refl;
      };
    }

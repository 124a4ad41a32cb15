-- Events, texts and sets that a journal file can tell, one item after another.
use Rattle.std.proofs.Common.{◌≡◌, ℕ, zero, suc, ◌-◌, ◌<◌, List, [], ◌∷◌, ◌++◌, length, replicate, get_or, sym, arith, subst}
use Rattle.resin_site.specs.Under.label.Sets.{NumberSet}
use Rattle.resin_site.specs.Under.lstr.declared.text.Run.{Run}
use Rattle.resin_site.specs.Under.lstr.Runs.{spell}
use Rattle.resin_site.specs.Under.journal.Events.{EventList}
use Rattle.resin_site.specs.Under.journal.declared.event.Event.{Event}
use Rattle.resin_site.specs.Under.journal.Access.{TellsNames, ClassesAreNames}
use Rattle.resin_audit.specs.Under.journal_file.Limits.{Each}
use Rattle.resin_serve.specs.declared.logging.Logging.{Logging}
use Rattle.resin_serve.specs.Logs.{CanTell}

each_last : {X : Type 0} (P : X → Type 0) (xs : List X) (x : X) → Each P xs → P x → Each P (xs ++ x ∷ [])
each_last P [] x h p = (p, tt)
each_last P (y ∷ ys) x h p = (h.0, each_last P ys x h.1 p)

-- one item more
pub each_more : {X : Type 0} (P : X → Type 0) (xs ys : List X) (x : X) → ys ≡ xs ++ x ∷ [] → Each P xs → P x → Each P ys
each_more P xs ys x e h p = subst (Each P) (sym e) (each_last P xs x h p)

each_append : {X : Type 0} (P : X → Type 0) (xs ys : List X) → Each P xs → Each P ys → Each P (xs ++ ys)
each_append P [] ys h k = k
each_append P (x ∷ xs) ys h k = (h.0, each_append P xs ys h.1 k)

each_of_one : {X : Type 0} (P : X → Type 0) (n : ℕ) (x : X) → P x → Each P (replicate n x)
each_of_one P zero x p = tt
each_of_one P (suc n) x p = (p, each_of_one P n x p)

-- what holds of the set of each run holds of the set of each byte
pub each_spelled : (P : NumberSet → Type 0) (from : ℕ) (rs : List Run) → Each (λ (r : Run). P r.set) rs → Each P (spell from rs)
each_spelled P from [] h = tt
each_spelled P from (r ∷ rs) h = each_append P (replicate (r.end - from) r.set) (spell r.end rs) (each_of_one P (r.end - from) r.set h.0) (each_spelled P r.end rs h.1)

-- the classes of one event are names where those of all are
pub names_at : (es : EventList) (k : ℕ) (d : Event) → k < length es → ClassesAreNames es → TellsNames (get_or es k d)
names_at [] k d l n = absurd (omega arith)
names_at (e ∷ es) zero d l n = n.0
names_at (e ∷ es) (suc k) d l n = names_at es k d (omega arith) n.1

-- the log can tell an answer without events
pub told_none : (logging : Logging) (number : ℕ) (j : EventList) → j ≡ [] → (ClassesAreNames j → CanTell logging number j) → CanTell logging number []
told_none logging number j e f = let none : ClassesAreNames [] → CanTell logging number [] = subst (λ es. ClassesAreNames es → CanTell logging number es) e f in none tt

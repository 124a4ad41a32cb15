-- Two neighbouring answers of a run, in either order.
use Rattle.std.proofs.Common.{◌≡◌, ℕ, ◌+◌, List, ◌∷◌, ◌++◌, length, refl, sym, ap, subst, ◌∙◌, arith, append_assoc}
use Rattle.resin_site.specs.Framing.{SayTheSameAs}
use Rattle.resin_site.specs.Keeping.{St}
use Rattle.resin_site.specs.Replies as site
use Rattle.resin_site.proofs.Exchanged.{in_either_order}
use Rattle.resin_site.proofs.Framed.{framed_answer}
use Rattle.resin_serve.specs.Asked.{recorded, meaning}
use Rattle.resin_serve.specs.Exchange.{IsSameAnswer, Exchanges, IsRunOf, ExchangesInRuns, ExchangedRuns}
use Rattle.resin_serve.specs.Logs.{logged}
use Rattle.resin_serve.specs.Meaning.{Meaning, Owed, Reply, tagged, reply, bytes_of, after_of, calls_of}
use Rattle.resin_serve.specs.Records.{record_text}
use Rattle.resin_serve.specs.declared.logging.Logging.{Logging}
use Rattle.resin_serve.proofs.Runs.{bytes_append, after_append}
use Rattle.resin_serve.proofs.Calling.{calls_append}

-- what is recorded of two replies that say the same
recorded_same : (logging : Logging) (before number conn : ℕ) (r r' : site.Reply) → SayTheSameAs number r r'
    → IsSameAnswer number (recorded logging before conn r) (recorded logging number conn r')
recorded_same logging before number conn r r' says = record {
  says = says;
  out = ap (record_text conn) says.response;
  mail = says.mail;
  log = sym (ap (logged logging number) says.journal);
}

pub exchanges : (logging : Logging) (fuel : ℕ) → Exchanges (meaning logging fuel)
exchanges logging fuel K s number x y apart =
    let both = in_either_order (λ K s made number. site.answer fuel K s made number x.asked) (λ K s made number. site.answer fuel K s made number y.asked)
    (framed_answer fuel x.asked) (framed_answer fuel y.asked) K s.store s.made number apart.spare apart.spared apart.succeed apart.first apart.second in
    record {
      first = recorded_same logging number (number + 1) x.conn _ _ both.first;
      second = recorded_same logging (number + 1) number y.conn _ _ both.second;
      after = both.after;
    }

-- ---- whole runs

-- four texts, one behind the other
regrouped : {X : Type 0} (a b c d : List X) → a ++ (b ++ (c ++ d)) ≡ a ++ b ++ c ++ d
regrouped a b c d = sym (append_assoc a b (c ++ d)) ∙ sym (append_assoc (a ++ b) c d)

-- a run around two neighbours
around : (R : Meaning) (K : List ℕ) (s : St) (number : ℕ) (done later : List Owed) (x y : Owed)
    → let a = reply R K (after_of R K s number done) (number + length done) x in
    let b = reply R K a.after (number + length done + 1) y in
    IsRunOf R K s number (done ++ x ∷ y ∷ later) done a b b.after later
around R K s number done later x y = record {
  bytes = bytes_append R K s number n done (x ∷ y ∷ later) refl ∙ regrouped (bytes_of R K s number done) (tagged a) (tagged b) (bytes_of R K b.after (n + 1 + 1) later)
      ∙ ap (λ m. bytes_of R K s number done ++ tagged a ++ tagged b ++ bytes_of R K b.after m later) two;
  calls = calls_append R K s number n done (x ∷ y ∷ later) refl ∙ regrouped (calls_of R K s number done) a.is.calls b.is.calls (calls_of R K b.after (n + 1 + 1) later)
      ∙ ap (λ m. calls_of R K s number done ++ a.is.calls ++ b.is.calls ++ calls_of R K b.after m later) two;
  after = after_append R K s number n done (x ∷ y ∷ later) refl ∙ ap (λ m. after_of R K b.after m later) two;
}
  where
    n : ℕ
    n = number + length done

    a : Reply
    a = reply R K (after_of R K s number done) n x

    b : Reply
    b = reply R K a.after (n + 1) y

    two : n + 1 + 1 ≡ n + 2
    two = omega arith

-- the same from an equal state
from_same : (R : Meaning) (K : List ℕ) (s : St) (number : ℕ) (all done : List Owed) (a b : Reply) (t u : St) (later : List Owed) → t ≡ u
    → IsRunOf R K s number all done a b t later → IsRunOf R K s number all done a b u later
from_same R K s number all done a b t u later e h = subst (λ v. IsRunOf R K s number all done a b v later) e h

runs_alike : (R : Meaning) → Exchanges R → ExchangesInRuns R
runs_alike R exchange K s number done later x y apart =
    let both = exchange K (after_of R K s number done) (number + length done) x y apart in
    let one = around R K s number done later x y in
    let other = from_same R K s number _ done _ _ _ _ later (sym both.after) (around R K s number done later y x) in
    record { pair = both; one = one; other = other; after = one.after ∙ sym other.after }

pub exchanged_runs : ExchangedRuns
exchanged_runs logging fuel = runs_alike (meaning logging fuel) (exchanges logging fuel)

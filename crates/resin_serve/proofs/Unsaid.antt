-- Nothing of an answer was given.
use Rattle.std.proofs.Common.{◌≡◌, ◌≢◌, ℕ, List, [], length, Option, refl, ap, arith, length-append}
use Rattle.std.proofs.lemmas.List.{append-nil, length-map}
use Rattle.resin_site.specs.Keeping.{Answers, Store}
use Rattle.resin_serve.specs.declared.give.Given.TheVariants.{Memory}
use Rattle.resin_serve.specs.Ran.{world}
use Rattle.resin_serve.specs.Gives.{GaveAll, three}
use Rattle.resin_serve.specs.Records.{record_text}
use Rattle.resin_serve.proofs.Runs.{gained_same}

some_record : (conn : ℕ) (response : List ℕ) → record_text conn response ≢ []
unfolding record_text
some_record conn response e =
    let n : length (record_text conn response) ≡ 0 = ap length e in
    omega (arith, length-append {A = ℕ})

some_three : (lines mails : List ℕ) (conn : ℕ) (response : List ℕ) → three lines mails (record_text conn response) ≢ []
some_three lines mails conn response e =
    let n : length (three lines mails (record_text conn response)) ≡ 0 = ap length e in
    let l : length (record_text conn response) ≡ 0 = omega (arith, length-append {A = ℕ × ℕ}, length-map {A = ℕ} {B = ℕ × ℕ}) in
    some_record conn response (Rattle.std.proofs.lemmas.List.nil_from_length (record_text conn response) l)

pub unsaid : (lines mails : List ℕ) (conn : ℕ) (response : List ℕ) (log mail out : Option (List ℕ)) (store store' : Option Store) (told told' : Answers) (made made' : ℕ)
    → GaveAll Memory (three lines mails (record_text conn response)) (world log mail out store told made) (world log mail out store' told' made')
unsaid lines mails conn response log mail out store store' told told' made made' = record {
  got = [];
  lost = three lines mails (record_text conn response);
  split = refl;
  lost_is = some_three lines mails conn response;
  gained = gained_same (world log mail out store told made) (world log mail out store' told' made') refl refl refl;
}

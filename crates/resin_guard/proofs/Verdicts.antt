-- What a text is read as says what the guard of pages answers.
use Rattle.std.proofs.Common.{◌≡◌, ◌-◌, ℕ, List, [], ◌∷◌, length, Result, Ok, Err, refl, sym, ap, subst, ◌∙◌}
use Rattle.std.specs.Prelude.{IfOk}
use Rattle.resin_form.specs.Reading.{Got, Stop}
use Rattle.resin_label.specs.Sets.{NumberSet}
use Rattle.resin_lstr.specs.Texts.{Text, bytes_of}
use Rattle.resin_sql_words.specs.declared.cursor.Placed.{Placed}
use Rattle.resin_sql_words.specs.Forms.{under}
use Rattle.resin_sql_words.specs.Places.{placed}
use Rattle.resin_guard.specs.Pages.{Places, page}
use Rattle.resin_guard.specs.Answers.{IsPage}
use Rattle.resin_guard.specs.Guards.{IsPageGuard}
use Rattle.resin_guard.specs.Judged.{IsJudged, judged}
use Rattle.resin_guard.specs.Verdicts.{page_told, page_verdict, html_verdict}
use Rattle.resin_guard.specs.declared.page.PageFault.{PageFault}
use Rattle.resin_guard.specs.declared.page.PageFault.TheVariants.{Syntax}
use Rattle.resin_guard.specs.declared.judge.Guard.{Guard}
use Rattle.resin_guard.specs.declared.judge.Guard.TheVariants.{Pass, Bad, Untrusted}
use Rattle.resin_guard.proofs.Endings.{PageAnswers, page_answers}
use Rattle.resin_guard.proofs.Free.{page_settled}
use Rattle.resin_guard.proofs.Judging.{is_judged}

module _ (bad : NumberSet) (d : Text) where
  page_guard : (g : Guard) (places : Places) → IsPage (bytes_of d) places → IsJudged bad places d g → IsPageGuard bad d g
  page_guard Pass places p j = (places, p, j)
  page_guard (Bad at) places p j = absurd j
  page_guard (Untrusted at) places p j = (places, p, j)

  by_reading : (r : Result Places ℕ) → PageAnswers (bytes_of d) r → IsPageGuard bad d (page_verdict bad d r)
  by_reading (Ok places) a = page_guard (judged bad places d) places a (is_judged bad places d)
  by_reading (Err at) a = a

  pub page_is_guarded : IsPageGuard bad d (html_verdict bad d)
  unfolding html_verdict
  page_is_guarded =
      let ts = placed 0 (bytes_of d) in
      by_reading (page_told (bytes_of d) (under (page []) ts)) (page_answers (bytes_of d) (under (page []) ts) refl (page_settled [] ts))

  pub guards_page : {E : Type 0} (r : Result Guard E) → IfOk r (λ g. g ≡ html_verdict bad d) → IfOk r (λ g. IsPageGuard bad d g)
  guards_page (Ok g) e = subst (IsPageGuard bad d) (sym e) page_is_guarded
  guards_page (Err x) e = tt

-- ---- what the code makes of it; `tokens`, `rest`: what it holds

told_whole : (bytes : List ℕ) (places : Places) (rest : List Placed) → rest ≡ [] → page_told bytes (Got places rest) ≡ Ok places
told_whole bytes places [] e = refl
told_whole bytes places (t ∷ more) e = cc

module _ (bad : NumberSet) (d : Text) (tokens rest : List Placed) (is_text : tokens ≡ placed 0 (bytes_of d)) where
  pub whole_verdict : {E : Type 0} (r : Result Guard E) (places : Places) → under (page []) tokens ≡ Got places rest → rest ≡ [] → IfOk r (λ g. g ≡ judged bad places d) → IfOk r (λ g. g ≡ html_verdict bad d)
  unfolding html_verdict
  whole_verdict (Ok g) places e z j =
      let read = ap (under (page [])) (sym is_text) ∙ e in
      let told : page_told (bytes_of d) (under (page []) (placed 0 (bytes_of d))) ≡ Ok places = ap (page_told (bytes_of d)) read ∙ told_whole (bytes_of d) places rest z in
      j ∙ sym (ap (page_verdict bad d) told)
  whole_verdict (Err x) places e z j = tt

  pub fault_verdict : {E : Type 0} (r : Result Guard E) (fault : PageFault) (at : ℕ) → IfOk r (λ g. (fault ≡ Syntax) × (g ≡ Bad at)) → (fault ≡ Syntax → under (page []) tokens ≡ Stop rest)
      → at ≡ length (bytes_of d) - length rest → IfOk r (λ g. g ≡ html_verdict bad d)
  unfolding html_verdict
  fault_verdict (Ok g) fault at h stops n =
      let read = ap (under (page [])) (sym is_text) ∙ stops h.0 in
      let told : page_told (bytes_of d) (under (page []) (placed 0 (bytes_of d))) ≡ Err at = ap (page_told (bytes_of d)) read ∙ ap Err (sym n) in
      h.1 ∙ sym (ap (page_verdict bad d) told)
  fault_verdict (Err x) fault at h stops n = tt

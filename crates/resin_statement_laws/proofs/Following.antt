-- Plans that are followed step by step with an effect.
use Rattle.std.proofs.Common.{◌≡◌, List, [], ◌∷◌, ◌++◌, refl, sym, ap, ◌∙◌}
use Rattle.resin_base.specs.TableStore.{TableStore}
use Rattle.resin_meaning_forms.specs.Under.meaning_tables.Under.plan.Plans.{Steps, Done, Ask}
use Rattle.resin_frame.specs.LabelledTables.{LabelledTables, lift_tables}
use Rattle.resin_statement_laws.specs.Effects.{Step, stepped, all_stepped}
use Rattle.resin_statement_laws.specs.Runs.{answer_of, left_by, followed}

-- each call takes none, one or more of the steps, and all that follow are taken by what is left of the plan
abbrev pub Follows : {A : Type 0} → Steps A → TableStore → List Step → A → Type 0
Follows (Done end) s steps r = (steps ≡ []) × (end ≡ r)
Follows (Ask call next) s steps r =
    (now : List Step) × (later : List Step) × (steps ≡ now ++ later) × (lift_tables (left_by call s) ≡ all_stepped (lift_tables s) now)
    × Follows (next (answer_of call s)) (left_by call s) later r

pub stepped_then : (s : LabelledTables) (now later : List Step) → all_stepped s (now ++ later) ≡ all_stepped (all_stepped s now) later
stepped_then s [] later = refl
stepped_then s (step ∷ now) later = stepped_then (stepped s step) now later

pub followed_by : {A : Type 0} (p : Steps A) (s : TableStore) (steps : List Step) (r : A) → Follows p s steps r
    → (lift_tables (followed p s).0 ≡ all_stepped (lift_tables s) steps) × ((followed p s).1 ≡ r)
followed_by (Done end) s steps r f = (sym (ap (all_stepped (lift_tables s)) f.0), f.1)
followed_by (Ask call next) s steps r f =
    let rest = followed_by (next (answer_of call s)) (left_by call s) f.1 r f.4 in
    (rest.0 ∙ ap (λ t. all_stepped t f.1) f.3 ∙ sym (stepped_then (lift_tables s) f.0 f.1) ∙ sym (ap (all_stepped (lift_tables s)) f.2), rest.1)

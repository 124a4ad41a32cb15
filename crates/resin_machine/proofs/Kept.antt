-- What steps keep.
use Rattle.std.proofs.Common.{◌≡◌, [], ◌++◌, append-nil, append_assoc, length, false, true, refl, sym, ap, subst, ◌∙◌, IsTrue}
use Rattle.resin_stage.specs.Under.journal.Events.{EventList}
use Rattle.resin_stage.specs.Ties.{IsTied}
use Rattle.resin_stage.specs.Stages.{Stage}
use Rattle.resin_machine.specs.State.{State}
use Rattle.resin_machine.specs.Keeping.{Keeps, HasGrown, IsCalm, IsInside, Tied, leaving}

pub grown_same : (j k : EventList) → k ≡ j → HasGrown j k
grown_same j k e = ([], e ∙ sym (append-nil j))

grown_then : (i j k : EventList) → HasGrown i j → HasGrown j k → HasGrown i k
grown_then i j k (a, e) (b, f) = (a ++ b, f ∙ (ap (λ (l : EventList). l ++ b) e ∙ append_assoc i a b))

calm_same : (m m' : State) → m'.stage ≡ m.stage → IsCalm m m'
calm_same m m' e = record {
  grown = grown_same m.stage.journal m'.stage.journal (ap (λ (s : Stage). s.journal) e);
  journal = ap (λ (s : Stage). leaving s.journal) e;
  writes = ap (λ (s : Stage). s.writes) e;
  status = ap (λ (s : Stage). s.status) e;
  headers = ap (λ (s : Stage). s.headers) e;
  body = ap (λ (s : Stage). s.body) e;
  mail = ap (λ (s : Stage). s.mail) e;
}

calm_then : (u v w : State) → IsCalm u v → IsCalm v w → IsCalm u w
calm_then u v w a b = record {
  grown = grown_then u.stage.journal v.stage.journal w.stage.journal a.grown b.grown;
  journal = b.journal ∙ a.journal;
  writes = b.writes ∙ a.writes;
  status = b.status ∙ a.status;
  headers = b.headers ∙ a.headers;
  body = b.body ∙ a.body;
  mail = b.mail ∙ a.mail;
}

pub keeps_same : (m : State) → Keeps m m
keeps_same m = record { request = refl; open_calls = refl; checking = refl; calm = λ t. calm_same m m refl }

pub keeps_then : (u v w : State) → Keeps u v → Keeps v w → Keeps u w
keeps_then u v w g h = record {
  request = h.request ∙ g.request;
  open_calls = h.open_calls ∙ g.open_calls;
  checking = h.checking ∙ g.checking;
  calm = λ t. calm_then u v w (g.calm t) (h.calm (subst IsTrue (sym g.checking) t));
}

-- a change that leaves the stage
pub keeps_inside : (m m' : State) → IsInside m m' → Keeps m m'
keeps_inside m m' i = record { request = i.request; open_calls = i.open_calls; checking = i.checking; calm = λ t. calm_same m m' i.stage }

pub tied_inside : (m m' : State) → IsInside m m' → Tied m → Tied m'
tied_inside m m' i t = subst (λ n. IsTied n m'.stage) (sym i.request) (subst (IsTied m.request) (sym i.stage) t)

false_true : false ≡ true → ⊥
false_true e = cc

-- a change where no check runs
pub keeps_awake : (m m' : State) → m.checking ≡ false → m'.request ≡ m.request → length m'.frames.calls ≡ length m.frames.calls → m'.checking ≡ m.checking → Keeps m m'
keeps_awake m m' e r o c = record { request = r; open_calls = o; checking = c; calm = λ t. absurd (false_true (sym e ∙ t)) }

-- A request is isolated from the sessions of others: it touches none of them.
use Rattle.std.proofs.Common.{◌≡◌, ℕ, ◌+◌, Bool, true, false, List, [], ◌∷◌, length, Option, inl, inr, refl, sym, ap, ◌∙◌}
use Rattle.std.specs.Cmp.Lexicographic.{nat_list_cmp_total}
use Rattle.std.specs.FinMap.{get, same_map, slice_cmp-IsAntisymmetric, nat_cmp-IsAntisymmetric}
use Rattle.resin_request.specs.Under.frame.Frames.{SameAt, AgreeOn, MayChange, IsChanged, KeepsTheRest, IsOfOwn, AreOfOwn, IsFramed}
use Rattle.resin_request.specs.Under.http.Inputs.{inputs_of}
use Rattle.resin_request.specs.Under.http.declared.request.Request.{Request}
use Rattle.resin_request.specs.Under.meaning.Programs.{KeeperCall}
use Rattle.resin_request.specs.Under.meaning_forms.Sessions.{is_of_other}
use Rattle.resin_request.specs.Paths.{path_of}
use Rattle.resin_request.specs.Requests.{request_program}
use Rattle.resin_request.specs.Sessions.{session_of}
use Rattle.resin_request.proofs.Framed.{request_framed}
use Rattle.resin_site.specs.Isolation.{AgreeFor, KeepsOthers, Isolates, IsIsolated}
use Rattle.resin_site.specs.Keeping.{Store}
use Rattle.resin_site.specs.Replies.{begun, steps, request}
use Rattle.resin_site.proofs.Framed.{framed_request, same_number}

true_false : true ≡ false → ⊥
true_false e = cc

-- what a request touches is among what all share and its own session
agree_at : (own : Option (List ℕ)) (s t : Store) (b : Bool) (name : List ℕ) → (b ≡ false → is_of_other own name ≡ false) → AgreeFor own s t → SameAt b name s t
agree_at own s t true name h ag = ap (λ tables. get tables name) ag.tables
agree_at own s t false name h ag = ag.files name (h refl)

agree_own : (own : Option (List ℕ)) (cs : List KeeperCall) (s t : Store) → AreOfOwn own cs → AgreeFor own s t → AgreeOn cs s t
agree_own own [] s t h ag = tt
agree_own own (c ∷ cs) s t h ag = (agree_at own s t c.on_tables c.name h.0 ag, agree_own own cs s t h.1 ag)

-- no call of it may change a session of others
others_stay : (own : Option (List ℕ)) (cs : List KeeperCall) (path : List ℕ) → AreOfOwn own cs → is_of_other own path ≡ true → IsChanged cs false path → ⊥
others_stay own [] path h k c = c
others_stay own (c ∷ cs) path h k (inl d) = true_false (sym k ∙ sym (ap (is_of_other own) d.names) ∙ h.0 d.kind)
others_stay own (c ∷ cs) path h k (inr d) = others_stay own cs path h.1 k d

keeps_others : (own : Option (List ℕ)) (cs : List KeeperCall) (s s' : Store) → AreOfOwn own cs → KeepsTheRest cs s s' → KeepsOthers own s s'
keeps_others own cs s s' h keeps path k = sym (keeps false path (others_stay own cs path h k))

pub is_isolated : (fuel made number : ℕ) (r : Request) → IsIsolated fuel made number r
unfolding steps request
is_isolated fuel made number r K s t ag =
    let own = session_of (inputs_of r) in
    let f : IsFramed own (request_program (path_of r.target) (inputs_of r)) = request_framed (path_of r.target) (inputs_of r) in
    let names = f.names K (begun fuel s made number) in
    let a = request fuel K s made number r in
    let follows = (framed_request fuel r).frames K K s t made made number number (agree_own own a.calls s t names ag) (λ i lt. refl) (inl refl) in
    record {
      same = same_number fuel K K s t made made number r follows.says;
      made = (framed_request fuel r).counts K s made number ∙ ap (λ cs. made + length cs) follows.says.calls ∙ sym ((framed_request fuel r).counts K t made number);
      agree = record {
        tables = same_map nat_list_cmp_total (slice_cmp-IsAntisymmetric nat_cmp-IsAntisymmetric) _ _ (λ name. follows.stores true name (ap (λ tables. get tables name) ag.tables));
        files = λ path h. follows.stores false path (ag.files path h);
      };
      kept = keeps_others own a.calls s a.after.store names (f.keeps K (begun fuel s made number));
      kept_too = keeps_others own _ t _ (f.names K (begun fuel t made number)) (f.keeps K (begun fuel t made number));
    }

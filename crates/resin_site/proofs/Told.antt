-- A request was served as it means.
use Rattle.std.proofs.Common.{◌≡◌, ◌≢◌, ℕ, ◌+◌, Bool, List, [], ◌∷◌, ◌++◌, length, Option, Some, None, Result, Ok, Err, refl, sym, ap, ◌∙◌, arith, subst, ◌⊎◌, inl, inr}
use Rattle.std.specs.Prelude.{IfOk, OnOk}
use Rattle.std.specs.declared.alloc.AllocError.{AllocError}
use Rattle.std.specs.Option.{option_map}
use Rattle.resin_request.specs.Under.base.FileStore.{FileStore}
use Rattle.resin_request.specs.Under.store.Files.{LabelledFiles, lift_files}
use Rattle.resin_request.specs.Under.base.TableStore.{TableStore}
use Rattle.resin_request.specs.Under.base.Numbering.{AreNumbered}
use Rattle.resin_request.specs.Under.base.declared.calls.Calls.{Calls}
use Rattle.resin_request.specs.Under.http.declared.request.Request.{Request}
use Rattle.resin_request.specs.Under.http.Inputs.{inputs_of}
use Rattle.resin_request.specs.Under.inputs.declared.arrays.InputArrays.{InputArrays}
use Rattle.resin_request.specs.Under.machine.Keeping.{Tied}
use Rattle.resin_request.specs.Under.machine.declared.stop.Stop.{Stop}
use Rattle.resin_request.specs.Under.machine.declared.stop.Stop.TheVariants.{Memory}
use Rattle.resin_request.specs.Under.machine.State.{State, new_state}
use Rattle.resin_request.specs.Under.meaning.Programs.{Prog, KeeperCall, Moment, moment, Out}
use Rattle.resin_request.specs.Under.meaning.Runs.{Seen, files_seen, World, world, Does, done, Meets, IsAt, IsAmong, Reached, Blames}
use Rattle.resin_request.specs.declared.request.Finish.{Finish}
use Rattle.resin_request.specs.Paths.{path_of}
use Rattle.resin_request.specs.Requests.{request_program}
use Rattle.resin_site.specs.declared.outcome.Outcome.{Outcome}
use Rattle.resin_site.specs.Keeping.{Store, Answers, Later, answers, store_of, Tells}
use Rattle.resin_site.specs.Laws.{IsLawful}
use Rattle.resin_site.specs.Outcomes.{outcome}
use Rattle.resin_site.specs.Replies.{is_head, begun, reply_out, steps, request}
use Rattle.resin_site.specs.Serving.{WholeReply, PartReply, Served, Ends}
use Rattle.resin_site.proofs.Keepers.{agrees, tells, tells_none, where_stored, stored_as}
use Rattle.resin_site.proofs.Ended.{memory_or, ends}

reached_behind : (m : Moment) (xs ys : List Moment) → Reached m ys → Reached m (xs ++ ys)
reached_behind m [] ys h = h
reached_behind m (x ∷ xs) ys h = inr (reached_behind m xs ys h)

reached_front : (m : Moment) (xs ys : List Moment) → Reached m xs → Reached m (xs ++ ys)
reached_front m [] ys h = absurd h
reached_front m (x ∷ xs) ys (inl e) = inl e
reached_front m (x ∷ xs) ys (inr h) = inr (reached_front m xs ys h)

-- a keeper of files, whose shadow texts tell the policies of what it holds
abbrev pub labelled : Seen FileStore → Seen LabelledFiles
labelled f = files_seen f.stored f.faults f.answers

module _ (fuel number : ℕ) (r : Request) (f f' : Seen FileStore) (t t' : Seen TableStore) (c c' : Calls) (m' : State) (end : Result Finish Stop) where
  module _ (numbered : AreNumbered c) (d : Does (request_program (path_of r.target) (inputs_of r)) (world (new_state fuel number) (labelled f) t c) end (world m' (labelled f') t' c')) (K : List ℕ) (later : Later c'.made c'.failed K) where
    meets : (s : Store) → Some s.files ≡ option_map lift_files f.stored → Some s.tables ≡ t.stored
        → Meets (request_program (path_of r.target) (inputs_of r) K (begun fuel s c.made number)) end (world m' (labelled f') t' c') (done d).goes.calls
    meets s ef et = (done d).means numbered (begun fuel s c.made number) (record { state = refl; files = ef; tables = et; made = refl }) K (agrees K (world m' (labelled f') t' c') later)

    -- the whole request was served
    pub served_whole : (o : Outcome) → end ≢ Err Memory → o ≡ outcome (path_of r.target) (is_head r.method) end m'
        → Served fuel K (store_of f.stored t.stored) c.made number r (λ calls. Tells calls (answers f.answers t.answers) (answers f'.answers t'.answers) c.made c'.made c'.failed) (Ok o) (store_of f'.stored t'.stored) c'.made
    unfolding request steps
    served_whole o ne is = where_stored f.stored t.stored _ (λ s ef et.
        let q = (meets s ef et).same ne in
        let at : IsAt (request_program (path_of r.target) (inputs_of r) K (begun fuel s c.made number)).whole (world m' (labelled f') t' c') = q.1 in
        let e : o ≡ outcome (path_of r.target) (is_head r.method) (request_program (path_of r.target) (inputs_of r) K (begun fuel s c.made number)).end (request_program (path_of r.target) (inputs_of r) K (begun fuel s c.made number)).whole.state =
        is ∙ ap (λ x. outcome (path_of r.target) (is_head r.method) x m') (sym q.0) ∙ ap (λ x. outcome (path_of r.target) (is_head r.method) (request_program (path_of r.target) (inputs_of r) K (begun fuel s c.made number)).end x) (sym at.state) in
        record {
          says = record {
            end = ap (λ (x : Outcome). Some x.end) e;
            status = ap (λ (x : Outcome). x.status) e;
            headers = ap (λ (x : Outcome). x.headers) e;
            body = ap (λ (x : Outcome). x.body) e;
            response = ap (λ (x : Outcome). x.response) e;
            mail = ap (λ (x : Outcome). x.mail) e;
            journal = ap (λ (x : Outcome). x.journal) e;
          };
          made_is = sym at.made;
          store_is = stored_as f'.stored t'.stored (request_program (path_of r.target) (inputs_of r) K (begun fuel s c.made number)).whole.store at.files at.tables;
          called = subst (λ calls. Tells calls (answers f.answers t.answers) (answers f'.answers t'.answers) c.made c'.made c'.failed) (sym q.2) (tells (world (new_state fuel number) (labelled f) t c) (world m' (labelled f') t' c') numbered (done d).goes);
        })

    -- memory was wanting in the steps, or after them
    pub served_part : (e : AllocError)
        → Served fuel K (store_of f.stored t.stored) c.made number r (λ calls. Tells calls (answers f.answers t.answers) (answers f'.answers t'.answers) c.made c'.made c'.failed) (Err e) (store_of f'.stored t'.stored) c'.made
    unfolding request steps
    served_part e = where_stored f.stored t.stored _ (λ s ef et. by_end s (meets s ef et) (memory_or end))
      where
        by_end : (s : Store) → Meets (request_program (path_of r.target) (inputs_of r) K (begun fuel s c.made number)) end (world m' (labelled f') t' c') (done d).goes.calls
            → (end ≡ Err Memory) ⊎ (end ≢ Err Memory)
            → PartReply (λ calls. Tells calls (answers f.answers t.answers) (answers f'.answers t'.answers) c.made c'.made c'.failed) c.made
            (reply_out number (path_of r.target) (is_head r.method) (begun fuel s c.made number) (request_program (path_of r.target) (inputs_of r) K (begun fuel s c.made number))) (store_of f'.stored t'.stored) c'.made
        by_end s h (inl lost) =
            let a : IsAmong (request_program (path_of r.target) (inputs_of r) K (begun fuel s c.made number)).moments (world m' (labelled f') t' c') (done d).goes.calls = h.front lost in
            record {
              at = a.at;
              reached = inr (reached_front a.at (request_program (path_of r.target) (inputs_of r) K (begun fuel s c.made number)).moments _ a.reached);
              made_is = (done d).goes.made ∙ ap (λ calls. c.made + length calls) (sym a.so_far);
              store_is = stored_as f'.stored t'.stored a.at.store a.files a.tables;
              called = subst (λ calls. Tells calls (answers f.answers t.answers) (answers f'.answers t'.answers) c.made c'.made c'.failed) (sym a.so_far) (tells (world (new_state fuel number) (labelled f) t c) (world m' (labelled f') t' c') numbered (done d).goes);
            }
        by_end s h (inr ne) =
            let q = h.same ne in
            let o : Out Finish = request_program (path_of r.target) (inputs_of r) K (begun fuel s c.made number) in
            let at : IsAt (request_program (path_of r.target) (inputs_of r) K (begun fuel s c.made number)).whole (world m' (labelled f') t' c') = q.1 in
            record {
              at = moment o.calls o.whole;
              reached = inr (reached_behind (moment o.calls o.whole) o.moments (moment o.calls o.whole ∷ []) (inl refl));
              made_is = (done d).goes.made ∙ ap (λ calls. c.made + length calls) (sym q.2);
              store_is = stored_as f'.stored t'.stored o.whole.store at.files at.tables;
              called = subst (λ calls. Tells calls (answers f.answers t.answers) (answers f'.answers t'.answers) c.made c'.made c'.failed) (sym q.2) (tells (world (new_state fuel number) (labelled f) t c) (world m' (labelled f') t' c') numbered (done d).goes);
            }

-- memory was wanting before the steps began
pub served_nothing : (fuel number : ℕ) (r : Request) (f : Seen FileStore) (t : Seen TableStore) (c : Calls) (K : List ℕ) (e : AllocError)
    → Served fuel K (store_of f.stored t.stored) c.made number r (λ calls. Tells calls (answers f.answers t.answers) (answers f.answers t.answers) c.made c.made c.failed) (Err e) (store_of f.stored t.stored) c.made
unfolding request
served_nothing fuel number r f t c K e = where_stored f.stored t.stored _ (λ s ef et. record {
  at = moment [] (begun fuel s c.made number);
  reached = inl refl;
  made_is = (let z : c.made ≡ c.made + 0 = omega arith in z);
  store_is = stored_as f.stored t.stored s ef et;
  called = tells_none f.answers t.answers c.made c.failed;
})

-- the steps of a request, as the code has their parts
pub as_asked : (fuel number : ℕ) (r : Request) (p : List ℕ) (inputs : InputArrays) (m : State) (f : Seen LabelledFiles) (t : Seen TableStore) (c : Calls) (end : Result Finish Stop) (w : World)
    → p ≡ path_of r.target → inputs ≡ inputs_of r → m ≡ new_state fuel number
    → Does (request_program p inputs) (world m f t c) end w → Does (request_program (path_of r.target) (inputs_of r)) (world (new_state fuel number) f t c) end w
as_asked fuel number r p inputs m f t c end w ep ei em d =
    subst (λ x. Does (request_program x (inputs_of r)) (world (new_state fuel number) f t c) end w) ep
    (subst (λ x. Does (request_program p x) (world (new_state fuel number) f t c) end w) ei
    (subst (λ x. Does (request_program p inputs) (world x f t c) end w) em d))

-- however the outcome came
pub served_end : (fuel number : ℕ) (r : Request) (f f' : Seen FileStore) (t t' : Seen TableStore) (c c' : Calls) (m' : State) (end : Result Finish Stop) (numbered : AreNumbered c)
    (d : Does (request_program (path_of r.target) (inputs_of r)) (world (new_state fuel number) (labelled f) t c) end (world m' (labelled f') t' c')) (K : List ℕ) (later : Later c'.made c'.failed K)
    (result : Result Outcome AllocError) → IfOk result (λ o. o ≡ outcome (path_of r.target) (is_head r.method) end m') → OnOk result (end ≢ Err Memory)
    → Served fuel K (store_of f.stored t.stored) c.made number r (λ calls. Tells calls (answers f.answers t.answers) (answers f'.answers t'.answers) c.made c'.made c'.failed) result (store_of f'.stored t'.stored) c'.made
served_end fuel number r f f' t t' c c' m' end numbered d K later (Ok o) is ne = served_whole fuel number r f f' t t' c c' m' end numbered d K later o ne is
served_end fuel number r f f' t t' c c' m' end numbered d K later (Err e) is ne = served_part fuel number r f f' t t' c c' m' end numbered d K later e

-- an outcome obeys the access law where the request began tied
pub lawful_end : (fuel number : ℕ) (p : Prog Finish) (m m' : State) (f f' : Seen LabelledFiles) (t t' : Seen TableStore) (c c' : Calls) (end : Result Finish Stop) (result : Result Outcome AllocError)
    → m ≡ new_state fuel number → Tied m → Does p (world m f t c) end (world m' f' t' c') → OnOk result (end ≢ Err Memory)
    → (Tied m' → IfOk result (λ o. IsLawful m'.request o)) → IfOk result (λ o. IsLawful number o)
lawful_end fuel number p m m' f f' t t' c c' end (Ok o) em tied d ne law =
    let e : m'.request ≡ number = (done d).goes.keeps.request ∙ ap (λ (x : State). x.request) em in
    subst (λ n. IsLawful n o) e (law ((done d).ties ne tied))
lawful_end fuel number p m m' f f' t t' c c' end (Err e) em tied d ne law = tt

pub ends_end : (p : List ℕ) (head_only : Bool) (m : State) (u w : World) (end : Result Finish Stop) (result : Result Outcome AllocError)
    → IfOk result (λ o. o ≡ outcome p head_only end m) → OnOk result (end ≢ Err Memory) → Blames end u w → Ends result w.calls.made u.calls.failed w.calls.failed
ends_end p head_only m u w end (Ok o) is ne b = ends end m p head_only o u w ne is b
ends_end p head_only m u w end (Err e) is ne b = tt

-- what was served whole stands at its last moment
part_of_whole : (fuel : ℕ) (K : List ℕ) (s : Store) (before number : ℕ) (r : Request) (old new : Answers) (failed : List ℕ) (o : Outcome) (now : Option Store) (made : ℕ)
    → WholeReply (λ calls. Tells calls old new before made failed) o (request fuel K s before number r) now made
    → PartReply (λ calls. Tells calls old new before made failed) before (request fuel K s before number r) now made
unfolding request steps
part_of_whole fuel K s before number r old new failed o now made w =
    let out : Out Finish = request_program (path_of r.target) (inputs_of r) K (begun fuel s before number) in
    record {
      at = moment out.calls out.whole;
      reached = inr (reached_behind (moment out.calls out.whole) out.moments (moment out.calls out.whole ∷ []) (inl refl));
      made_is = w.called.made;
      store_is = w.store_is;
      called = w.called;
    }

-- memory was wanting behind the answer, or its outcome was made
pub served_then : (fuel : ℕ) (K : List ℕ) (held : Option Store) (before number : ℕ) (r : Request) (old new : Answers) (failed : List ℕ) (o : Outcome) (result : Result Outcome AllocError) (now : Option Store) (made : ℕ)
    → IfOk result (λ x. x ≡ o) → Served fuel K held before number r (λ calls. Tells calls old new before made failed) (Ok o) now made
    → Served fuel K held before number r (λ calls. Tells calls old new before made failed) result now made
served_then fuel K None before number r old new failed o result now made is h = tt
served_then fuel K (Some s) before number r old new failed o (Ok x) now made is h =
    subst (λ (y : Outcome). WholeReply (λ calls. Tells calls old new before made failed) y (request fuel K s before number r) now made) (sym is) h
served_then fuel K (Some s) before number r old new failed o (Err e) now made is h = part_of_whole fuel K s before number r old new failed o now made h

pub ends_then : (made : ℕ) (failed failed' : List ℕ) (o : Outcome) (result : Result Outcome AllocError) → IfOk result (λ x. x ≡ o) → Ends (Ok o) made failed failed' → Ends result made failed failed'
ends_then made failed failed' o (Ok x) is h = subst (λ (y : Outcome). Ends (Ok y) made failed failed') (sym is) h
ends_then made failed failed' o (Err e) is h = tt

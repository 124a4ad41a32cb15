-- `lend_four` keeps the borrows of its places open while f runs, and shuts them at what f gave back. Written after the proof of `replace_with` of core.
use mathlib.Core.Path.{◌≡◌, refl, sym, subst, ap, ◌∙◌}
use mathlib.Core.Bool.{Bool, true, false, ◌&&◌}
use Prim.Native.Nat.{ℕ}
use mathlib.Core.List.{List, [], ◌∷◌, ◌++◌}
use lib.Dec.{T}
use seplogic.Ra.Ura.{Ura}
use mir.Syntax.{Ty, Args, Fn, Body, Dict, a_type, dnil, dcons, method, no_args, place, assign, rv_opd, copy, seq, return}
use mir.Val.{Val, vptr, vstruct, of_list, has_ty, WT}
use mir.MapTy.{inst_fn}
use base.Logic.{SProp, ent, emp, via, id⊢, fst∗, snd∗}
use base.Fml.{ftrue, fsep, flft}
use prog.Memory.{Memory}
use prog.Routine.{Routine}
use prog.Wp.{Env, WpFn, Tables}
use types.Logic.{Logic, sem}
use contract.BorrowLft.{◌⊑◌}
use contract.Lifetimes.{Lfts}
use contract.Monad.{Fun, fact, fact_i, fact_use}
use contract.Running.{tables, tables_of}
use sound.WpLaws.{fm_of, WpFn-mono}
use types.Kit.{Goal, Seq, Item, ‵, raw, ◌⊛◌, some, later, at_ret, ◌$◌, ◌∵◌, !, qed, move, keep, drop, use0, use1, split, join, pick, rewrite, fsplit, fsplit3, fjoin, fjoin3, fpick, feq_i, feq_l, suffices, await, done}
use types.Part.{whole, sub}
use types.Run.{look_raw, store_raw, stop, fld, load, addr, no_more, and_then, of_opd, assigns, first, blocks, exec, returns, enter}
use types.ByLocal.{alloc_all, pass_all, free_all, look_at, get, get_in, through, sets, sets_last, lands_as, env}
use denote.Exit.{no}
use denote.RattleType.{RattleType, owns}
use denote.Laws.{Typed, Is, Are, Ises, shows, owns_show, showss}
use denote.Param.{layout, bounded, param}
use denote.Param.Laws.{Laws, param_laws}
use denote.Param.Steps.{one_value, opens_one}
use denote.Param.Members.{once_call}
use denote.Param.Call as called
use denote.Signature.{plain, types_at}
use denote.Struct.Tuple.{Tuple}
use denote.Steps.{heard, nothing, only, peeks, closes}
use denote.Triple.Call.{calls_at}
use denote.Triple.Clauses.{Ended, Clauses, closing}
use denote.Triple.Entry.{on_entry, alive}
use denote.Triple.Spec.{Meets, triple_of}
use denote.Triple.Statement.{Triple, Contract}
use denote.Triple.Table.{entered}
use denote.Triple.Walked.{Stays, stay_ref, stay_dropped, walk_of, ends_at, says, Goes-ref, Goes-dropped, walk_Meets}
use Rattle.resin_lend.specs.contracts.lend_four as Promised
use Rattle.resin_lend.specs.contracts.lend_four.F-FnOnce as Called
use Rattle.resin_lend.specs.contracts.lend_four.Key as key
use Rattle.resin_lend.proofs.lend_four.Statement as stated
use Rattle.resin_lend.proofs.lend_four.Code as code

both : (a b : Bool) → T a → T b → T (a && b)
both true b s t = t
both false b s t = absurd s

alone : (τ : Ty) (vs : List Val) → Typed (τ ∷ []) vs → (v : Val) × ((vs ≡ v ∷ []) × (T (has_ty τ v) × WT v))
alone τ [] t = absurd t
alone τ (v ∷ []) t = (v, (refl, t.0))
alone τ (v ∷ w ∷ vs) t = absurd t.1

abbrev to : ℕ → ℕ → List Val
to b o = vptr b o ∷ []

module _ {M : Type 1} {𝓤 : Ura M} {𝓛 : Logic 𝓤} {K : Type 0} {Γ : List (Item 𝓤)} {G : Goal 𝓤 𝓛.H} where
  -- what is owned of a parameter's value is one machine value
  tells : K → (i : ℕ) (Z : RattleType) → Laws Z → (a : Z.Denot) (vs : List Val)
      → ((v : Val) → vs ≡ v ∷ [] → T (has_ty (layout Z) v) × WT v → Seq K 𝓛 (‵ (Z.own_val a (v ∷ [])) ∷ Γ) G) → Seq K 𝓛 (‵ (Z.own_val a vs) ∷ Γ) G
  tells t i Z L a vs k =
      peeks t (param i Z) (Is (param i Z)) (shows 𝓛 (param i Z)) a vs (λ is.
      let one = alone (layout Z) vs (((param_laws i Z L).lawful 𝓛).typed a vs is) in
      rewrite t 0 (λ (us : List Val). ‵ (Z.own_val a us)) one.1.0 refl $ k one.0 one.1.0 one.1.1)

abbrev rest : Body
rest = seq (assign (place 0 []) (rv_opd (copy (place 15 [])))) return

module _ (A B C D R F : RattleType) (g : Called.Ghosts A B C D R F) (d d' : Dict) where
  abbrev args : Args
  args = bounded (a_type ∷ a_type ∷ a_type ∷ a_type ∷ a_type ∷ a_type ∷ []) (A, (B, (C, (D, (R, (F, tt)))))) (dcons d (dcons d' dnil))

  abbrev here : Fn
  here = inst_fn args code.function

  abbrev ended : Ended
  ended = Promised.ended A B C D R F g d d'

  abbrev stayed : Stays ended.signature.params ended.kept
  stayed = (stay_ref (0 ∷ []) tt (plain (λ _. param 0 A)), (stay_ref (1 ∷ []) tt (plain (λ _. param 1 B)), (stay_ref (2 ∷ []) tt (plain (λ _. param 2 C)), (stay_ref (3 ∷ []) tt (plain (λ _. param 3 D)), (stay_dropped (plain (λ _. param 5 F)) no, tt)))))

  abbrev Once : {M : Type 1} {𝓤 : Ura M} (𝓛 : Logic 𝓤) → Contract 𝓤
  Once 𝓛 = triple_of 𝓛 (Called.ended A B C D R F).signature
      (called.spec (Called.ended A B C D R F) 6 (λ κs. (κs.0, (κs.1.0, (κs.1.1.0, (κs.1.1.1.0, (κs.1.1.1.1.0, (κs.1.1.1.1.1.0, tt))))))) (F.lives, (A.lives, (B.lives, (C.lives, (D.lives, (R.lives, tt)))))) (once_call g) (λ κs a. a) (λ κs a. a) (λ κs a. a) 𝓛)

  module _ (LA : Laws A) (LB : Laws B) (LC : Laws C) (LD : Laws D) (LR : Laws R) (LF : Laws F) {M : Type 1} {𝓤 : Ura M} (𝓛 : Logic 𝓤) (at_mem : Memory → SProp 𝓤) (run : Routine → Fun 𝓤) (𝓣 : Tables 𝓤 𝓛.H) (met : Triple 𝓤 (𝓣.C (method d 0 no_args)) (Once 𝓛)) where
    open 𝓛 use {H}

    abbrev held : Clauses 𝓤 ended
    held = Promised.clauses A B C D R F g d d' 𝓛 at_mem run

    module _ (z : (walk_of 𝓛 ended stayed held).Ghost) where
      abbrev To : List Val → List Val → List Val → List Val → List Val → (walk_of 𝓛 ended stayed held).Ghost
      To p₀ p₁ p₂ p₃ fs = ((z.0.0, z.0.1, z.0.2, z.0.3, (p₀, (p₁, (p₂, (p₃, (fs, tt)))))), z.1)

      abbrev Goes : List Val → List Val → List Val → List Val → List Val → Type 1
      Goes p₀ p₁ p₂ p₃ fs = ent 𝓤 ((walk_of 𝓛 ended stayed held).pre (To p₀ p₁ p₂ p₃ fs)) (WpFn 𝓤 H 𝓣.C 𝓣.Λ here (p₀ ++ (p₁ ++ (p₂ ++ (p₃ ++ (fs ++ []))))) ((walk_of 𝓛 ended stayed held).post (To p₀ p₁ p₂ p₃ fs)))

      abbrev At : List Val → (walk_of 𝓛 ended stayed held).Ghost
      At fs = To (to z.0.3.0.ref_ptr.0 z.0.3.0.ref_ptr.1) (to z.0.3.1.0.ref_ptr.0 z.0.3.1.0.ref_ptr.1) (to z.0.3.1.1.0.ref_ptr.0 z.0.3.1.1.0.ref_ptr.1) (to z.0.3.1.1.1.0.ref_ptr.0 z.0.3.1.1.1.0.ref_ptr.1) fs

      walk : (w : Val) → T (has_ty (layout F) w) × WT w → Goes (to z.0.3.0.ref_ptr.0 z.0.3.0.ref_ptr.1) (to z.0.3.1.0.ref_ptr.0 z.0.3.1.0.ref_ptr.1) (to z.0.3.1.1.0.ref_ptr.0 z.0.3.1.1.0.ref_ptr.1) (to z.0.3.1.1.1.0.ref_ptr.0 z.0.3.1.1.1.0.ref_ptr.1) (w ∷ [])
      walk w gw =
          let κ₀ = z.0.0.0 in let κ₁ = z.0.0.1.0 in let κ₂ = z.0.0.1.1.0 in let κ₃ = z.0.0.1.1.1.0 in let κ₄ = z.0.0.1.1.1.1.0 in let κ₅ = z.0.0.1.1.1.1.1.0 in let κ₆ = z.0.0.1.1.1.1.1.1.0 in let κ₇ = z.0.0.1.1.1.1.1.1.1.0 in let κ₈ = z.0.0.1.1.1.1.1.1.1.1.0 in let κ₉ = z.0.0.1.1.1.1.1.1.1.1.1.0 in
          let q₀ = z.0.1.0 in let q₁ = z.0.1.1.0 in let q₂ = z.0.1.1.1.0 in let q₃ = z.0.1.1.1.1.0 in let q₄ = z.0.1.1.1.1.1.0 in let q₅ = z.0.1.1.1.1.1.1.0 in let q₆ = z.0.1.1.1.1.1.1.1.0 in let q₇ = z.0.1.1.1.1.1.1.1.1.0 in let q₈ = z.0.1.1.1.1.1.1.1.1.1.0 in let q₉ = z.0.1.1.1.1.1.1.1.1.1.1.0 in
          let b₀ = z.0.3.0.ref_ptr.0 in let o₀ = z.0.3.0.ref_ptr.1 in let h₀ = z.0.3.0.now in
          let b₁ = z.0.3.1.0.ref_ptr.0 in let o₁ = z.0.3.1.0.ref_ptr.1 in let h₁ = z.0.3.1.0.now in
          let b₂ = z.0.3.1.1.0.ref_ptr.0 in let o₂ = z.0.3.1.1.0.ref_ptr.1 in let h₂ = z.0.3.1.1.0.now in
          let b₃ = z.0.3.1.1.1.0.ref_ptr.0 in let o₃ = z.0.3.1.1.1.0.ref_ptr.1 in let h₃ = z.0.3.1.1.1.0.now in
          let f = z.0.3.1.1.1.1.0 in
          let y₀ = At (w ∷ []) in
          let Post : Val → SProp 𝓤 = (walk_of 𝓛 ended stayed held).post y₀ in
          let Ok : Type 0 = g.pre f (h₀, (h₁, (h₂, (h₃, tt)))) in
          let All : RattleType = Tuple (param 0 A ∷ param 1 B ∷ param 2 C ∷ param 3 D ∷ param 4 R ∷ []) in
          let U : Type 0 = Unit {0} × (Unit {0} × (Unit {0} × (Unit {0} × (Unit {0} × (Unit {0}))))) in
          let κs : Lfts 6 = (κ₉, (κ₄, (κ₅, (κ₆, (κ₇, (κ₈, tt)))))) in
          qed 𝓛 (((‵ (flft κ₀ q₀) ⊛ ‵ (flft κ₁ q₁) ⊛ ‵ (flft κ₂ q₂) ⊛ ‵ (flft κ₃ q₃) ⊛ ‵ (flft κ₄ q₄) ⊛ ‵ (flft κ₅ q₅) ⊛ ‵ (flft κ₆ q₆) ⊛ ‵ (flft κ₇ q₇) ⊛ ‵ (flft κ₈ q₈) ⊛ ‵ (flft κ₉ q₉) ⊛ ‵ ftrue) ⊛ ‵ (owns (types_at ended.signature.params z.0.0) z.0.3 y₀.0.4)) ∷ (raw (fact 𝓤 (κ₄ ⊑ A.lives)) ⊛ raw (fact 𝓤 (κ₅ ⊑ B.lives)) ⊛ raw (fact 𝓤 (κ₆ ⊑ C.lives)) ⊛ raw (fact 𝓤 (κ₇ ⊑ D.lives)) ⊛ raw (fact 𝓤 (κ₈ ⊑ R.lives)) ⊛ raw (fact 𝓤 (κ₉ ⊑ F.lives)) ⊛ raw (fact 𝓤 Ok)) ∷ []) ∵
          move ! (1 ∷ []) $
          split ! $ heard ! (κ₄ ⊑ A.lives) (λ inA. split ! $ heard ! (κ₅ ⊑ B.lives) (λ inB. split ! $ heard ! (κ₆ ⊑ C.lives) (λ inC. split ! $ heard ! (κ₇ ⊑ D.lives) (λ inD. split ! $ heard ! (κ₈ ⊑ R.lives) (λ inR. split ! $ heard ! (κ₉ ⊑ F.lives) (λ inF. heard ! Ok (λ ok.
          split ! $ split ! $ move ! (1 ∷ []) $ split ! $ move ! (1 ∷ []) $ split ! $ move ! (1 ∷ []) $ split ! $ move ! (5 ∷ []) $ fsplit ! $ fsplit3 ! $ drop ! $ move ! (2 ∷ []) $ fsplit ! $ fsplit3 ! $ drop ! $ move ! (2 ∷ []) $ fsplit ! $ fsplit3 ! $ drop ! $ move ! (2 ∷ []) $ fsplit ! $ fsplit3 ! $ drop ! $ move ! (2 ∷ []) $ fsplit ! $ keep ! (8 ∷ 9 ∷ 14 ∷ 6 ∷ 7 ∷ 13 ∷ 4 ∷ 5 ∷ 12 ∷ 2 ∷ 3 ∷ 10 ∷ 0 ∷ 11 ∷ []) $
          enter ! 𝓣.C 𝓣.Λ here (vptr b₀ o₀ ∷ vptr b₁ o₁ ∷ vptr b₂ o₂ ∷ vptr b₃ o₃ ∷ w ∷ []) _ $ alloc_all ! (λ l. pass_all ! refl ((tt, tt), ((tt, tt), ((tt, tt), ((tt, tt), (gw, tt))))) $
          let En : Env 𝓤 H = env here.locals l in
          opens_one ! tt 0 A ((param_laws 0 A LA).lawful 𝓛) b₀ o₀ (λ v₀ g₀.
          move ! (5 ∷ 6 ∷ 7 ∷ []) $ opens_one ! tt 1 B ((param_laws 1 B LB).lawful 𝓛) b₁ o₁ (λ v₁ g₁.
          move ! (10 ∷ 11 ∷ 12 ∷ []) $ opens_one ! tt 2 C ((param_laws 2 C LC).lawful 𝓛) b₂ o₂ (λ v₂ g₂.
          move ! (15 ∷ 16 ∷ 17 ∷ []) $ opens_one ! tt 3 D ((param_laws 3 D LD).lawful 𝓛) b₃ o₃ (λ v₃ g₃.
          move ! (16 ∷ 11 ∷ 6 ∷ 1 ∷ []) $
          sets ! (addr ! (through ! refl (stop !))) refl (tt, tt) $ sets ! (addr ! (through ! refl (stop !))) refl (tt, tt) $ sets ! (addr ! (through ! refl (stop !))) refl (tt, tt) $ sets ! (addr ! (through ! refl (stop !))) refl (tt, tt) $
          first ! $ blocks ! $ sets ! (of_opd ! (get ! refl)) refl gw $ sets ! (of_opd ! (load ! (through ! refl (stop !)) (look_raw ! 0 refl))) refl g₀ $ sets ! (of_opd ! (load ! (through ! refl (stop !)) (look_raw ! 1 refl))) refl g₁ $ sets ! (of_opd ! (load ! (through ! refl (stop !)) (look_raw ! 2 refl))) refl g₂ $ sets ! (of_opd ! (load ! (through ! refl (stop !)) (look_raw ! 3 refl))) refl g₃ $
          let y : (Once 𝓛).Ghost = ((κs, (q₉, (q₄, (q₅, (q₆, (q₇, (q₈, tt)))))), tt, (f, (h₀, (h₁, (h₂, (h₃, tt))))), (w ∷ [], (v₀ ∷ [], (v₁ ∷ [], (v₂ ∷ [], (v₃ ∷ [], tt)))))), tt) in
          use0 𝓛 (raw (fact 𝓤 Ok)) (fact_i 𝓤 Ok (emp 𝓤) ok) $ use0 𝓛 (raw (fact 𝓤 (κ₈ ⊑ R.lives))) (fact_i 𝓤 (κ₈ ⊑ R.lives) (emp 𝓤) inR) $ join ! $ use0 𝓛 (raw (fact 𝓤 (κ₇ ⊑ D.lives))) (fact_i 𝓤 (κ₇ ⊑ D.lives) (emp 𝓤) inD) $ join ! $ use0 𝓛 (raw (fact 𝓤 (κ₆ ⊑ C.lives))) (fact_i 𝓤 (κ₆ ⊑ C.lives) (emp 𝓤) inC) $ join ! $ use0 𝓛 (raw (fact 𝓤 (κ₅ ⊑ B.lives))) (fact_i 𝓤 (κ₅ ⊑ B.lives) (emp 𝓤) inB) $ join ! $ use0 𝓛 (raw (fact 𝓤 (κ₄ ⊑ A.lives))) (fact_i 𝓤 (κ₄ ⊑ A.lives) (emp 𝓤) inA) $ join ! $ use0 𝓛 (raw (fact 𝓤 (κ₉ ⊑ F.lives))) (fact_i 𝓤 (κ₉ ⊑ F.lives) (emp 𝓤) inF) $ join ! $
          nothing ! $ move ! (6 ∷ 0 ∷ []) $ fjoin ! $ move ! (9 ∷ 0 ∷ []) $ fjoin ! $ move ! (12 ∷ 0 ∷ []) $ fjoin ! $ move ! (15 ∷ 0 ∷ []) $ fjoin ! $ move ! (18 ∷ 0 ∷ []) $ fjoin ! $ move ! (18 ∷ []) $ split ! $ move ! (1 ∷ []) $ split ! $ move ! (1 ∷ []) $ split ! $ move ! (1 ∷ []) $ split ! $ move ! (1 ∷ []) $ split ! $ move ! (1 ∷ []) $ split ! $ move ! (1 ∷ []) $ move ! (2 ∷ 0 ∷ []) $ join ! $ move ! (2 ∷ 0 ∷ []) $ join ! $ move ! (2 ∷ 0 ∷ []) $ join ! $ move ! (2 ∷ 0 ∷ []) $ join ! $ move ! (2 ∷ 0 ∷ []) $ join ! $ move ! (1 ∷ 0 ∷ []) $ join ! $ join ! $ join ! $
          use1 𝓛 (raw ((Once 𝓛).pre y)) (id⊢ 𝓤 ((Once 𝓛).pre y)) $
          calls_at ! (fm_of 𝓤 H 𝓛.laws 𝓣) (Once 𝓛) met y (and_then ! (get ! refl) (and_then ! (get ! refl) (and_then ! (get ! refl) (and_then ! (get ! refl) (and_then ! (get ! refl) (no_more !)))))) (λ got.
          use1 𝓛 (later (some (λ (r : All.Denot). ((‵ (flft κ₉ q₉) ⊛ ‵ (flft κ₄ q₄) ⊛ ‵ (flft κ₅ q₅) ⊛ ‵ (flft κ₆ q₆) ⊛ ‵ (flft κ₇ q₇) ⊛ ‵ (flft κ₈ q₈) ⊛ ‵ ftrue) ⊛ ‵ (All.own_val r (got ∷ [])))
          ⊛ some (λ (ws : U). ‵ (fsep ftrue (fsep ftrue (fsep ftrue (fsep ftrue (fsep ftrue ftrue))))) ⊛ raw (fact 𝓤 (g.post f (h₀, (h₁, (h₂, (h₃, tt)))) r)))))) (id⊢ 𝓤 ((Once 𝓛).post y got)) $
          await ! tt $ pick ! (λ r. split ! $ move ! (1 ∷ []) $ pick ! (λ ws. split ! $ drop ! $ heard ! (g.post f (h₀, (h₁, (h₂, (h₃, tt)))) r) (λ gave.
          split ! $ move ! (1 ∷ []) $ fpick ! (λ vss. fsplit ! $ feq_l ! (λ e. fsplit ! $ move ! (1 ∷ []) $ fsplit ! $ move ! (1 ∷ []) $ fsplit ! $ move ! (1 ∷ []) $ fsplit ! $ move ! (1 ∷ []) $ fsplit ! $ move ! (1 ∷ []) $ move ! (5 ∷ []) $
          tells ! 0 A LA r.0 vss.0 (λ u₀ e₀ t₀. move ! (5 ∷ []) $
          tells ! 1 B LB r.1 vss.1.0 (λ u₁ e₁ t₁. move ! (5 ∷ []) $
          tells ! 2 C LC r.2 vss.1.1.0 (λ u₂ e₂ t₂. move ! (5 ∷ []) $
          tells ! 3 D LD r.3 vss.1.1.1.0 (λ u₃ e₃ t₃. move ! (5 ∷ []) $
          tells ! 4 R LR r.4 vss.1.1.1.1.0 (λ u₄ e₄ t₄.
          lands_as ! (ap only e ∙ (λ i. vstruct (of_list (e₀ i ++ (e₁ i ++ (e₂ i ++ (e₃ i ++ (e₄ i ++ [])))))))) refl ((both (has_ty (layout A) u₀) _ t₀.0 (both (has_ty (layout B) u₁) _ t₁.0 (both (has_ty (layout C) u₂) _ t₂.0 (both (has_ty (layout D) u₃) _ t₃.0 (both (has_ty (layout R) u₄) _ t₄.0 tt))))), (t₀.1, (t₁.1, (t₂.1, (t₃.1, (t₄.1, tt)))))) $
          sets ! (of_opd ! (get_in ! (fld ! refl (stop !)) (sub ! 0 refl (whole !)))) refl t₀ $ sets ! (of_opd ! (get_in ! (fld ! refl (stop !)) (sub ! 1 refl (whole !)))) refl t₁ $ sets ! (of_opd ! (get_in ! (fld ! refl (stop !)) (sub ! 2 refl (whole !)))) refl t₂ $ sets ! (of_opd ! (get_in ! (fld ! refl (stop !)) (sub ! 3 refl (whole !)))) refl t₃ $ sets ! (of_opd ! (get_in ! (fld ! refl (stop !)) (sub ! 4 refl (whole !)))) refl t₄ $
          sets ! (of_opd ! (get ! refl)) refl t₀ $ assigns ! (of_opd ! (get ! refl)) (through ! refl (stop !)) (store_raw ! 7 refl t₀) $ sets ! (of_opd ! (get ! refl)) refl t₁ $ assigns ! (of_opd ! (get ! refl)) (through ! refl (stop !)) (store_raw ! 8 refl t₁) $ sets ! (of_opd ! (get ! refl)) refl t₂ $ assigns ! (of_opd ! (get ! refl)) (through ! refl (stop !)) (store_raw ! 9 refl t₂) $ sets ! (of_opd ! (get ! refl)) refl t₃ $ assigns ! (of_opd ! (get ! refl)) (through ! refl (stop !)) (store_raw ! 10 refl t₃) $
          sets_last ! (of_opd ! (get ! refl)) refl t₄ $ exec ! 𝓣.C 𝓣.Λ En rest (at_ret En Post) $ sets ! (of_opd ! (get ! refl)) refl t₄ $
          move ! (7 ∷ 4 ∷ 20 ∷ 21 ∷ 22 ∷ []) $ closes ! tt (param 0 A) r.0 (u₀ ∷ []) b₀ o₀ $ move ! (9 ∷ 6 ∷ 18 ∷ 19 ∷ 20 ∷ []) $ closes ! tt (param 1 B) r.1 (u₁ ∷ []) b₁ o₁ $ move ! (11 ∷ 8 ∷ 16 ∷ 17 ∷ 18 ∷ []) $ closes ! tt (param 2 C) r.2 (u₂ ∷ []) b₂ o₂ $ move ! (13 ∷ 10 ∷ 14 ∷ 15 ∷ 16 ∷ []) $ closes ! tt (param 3 D) r.3 (u₃ ∷ []) b₃ o₃ $
          returns ! (look_at ! 0 refl) $ free_all ! refl $
          suffices ! _ (ends_at 𝓛 ended stayed held y₀ u₄ r.4 (r.0, (r.1, (r.2, (r.3, (tt, tt))))) (tt, (tt, (tt, (tt, (tt, tt)))))) $ says ! gave $
          move ! (9 ∷ 10 ∷ []) $ feq_i ! (List Val) (to b₀ o₀) (to b₀ o₀) refl $ fjoin3 ! $ move ! (7 ∷ 8 ∷ []) $ feq_i ! (List Val) (to b₁ o₁) (to b₁ o₁) refl $ fjoin3 ! $ move ! (5 ∷ 6 ∷ []) $ feq_i ! (List Val) (to b₂ o₂) (to b₂ o₂) refl $ fjoin3 ! $ move ! (3 ∷ 4 ∷ []) $ feq_i ! (List Val) (to b₃ o₃) (to b₃ o₃) refl $ fjoin3 ! $ nothing ! $ nothing ! $ fjoin ! $ move ! (1 ∷ 0 ∷ []) $ fjoin ! $ move ! (1 ∷ 0 ∷ []) $ fjoin ! $ move ! (1 ∷ 0 ∷ []) $ fjoin ! $ move ! (1 ∷ 0 ∷ []) $ fjoin ! $ move ! (0 ∷ 5 ∷ []) $ join ! $
          move ! (6 ∷ []) $ split ! $ move ! (1 ∷ []) $ split ! $ move ! (1 ∷ []) $ split ! $ move ! (1 ∷ []) $ split ! $ move ! (1 ∷ []) $ split ! $ move ! (1 ∷ []) $ split ! $ move ! (1 ∷ []) $ move ! (6 ∷ 0 ∷ []) $ join ! $ move ! (1 ∷ 0 ∷ []) $ join ! $ move ! (1 ∷ 0 ∷ []) $ join ! $ move ! (1 ∷ 0 ∷ []) $ join ! $ move ! (1 ∷ 0 ∷ []) $ join ! $ move ! (1 ∷ 0 ∷ []) $ join ! $ move ! (2 ∷ 0 ∷ []) $ join ! $ move ! (2 ∷ 0 ∷ []) $ join ! $ move ! (2 ∷ 0 ∷ []) $ join ! $ move ! (2 ∷ 0 ∷ []) $ join ! $ keep ! (0 ∷ 1 ∷ []) $ done !)))))))))))))))))))))))

    meets : Meets 𝓛 ended.signature (WpFn 𝓤 H 𝓣.C 𝓣.Λ here) (closing 𝓛 ended held)
    meets =
        walk_Meets 𝓛 ended stayed (Goes-ref 𝓛 10 0 tt (plain (λ _. param 0 A)), (Goes-ref 𝓛 10 1 tt (plain (λ _. param 1 B)), (Goes-ref 𝓛 10 2 tt (plain (λ _. param 2 C)), (Goes-ref 𝓛 10 3 tt (plain (λ _. param 3 D)), (Goes-dropped 𝓛 10 (plain (λ _. param 5 F)) no (λ κs x f. refl), tt))))) held
        (WpFn 𝓤 H 𝓣.C 𝓣.Λ here) (WpFn-mono 𝓤 H 𝓛.laws 𝓣 here)
        (λ z. let a = z.0.3 in let vss = z.0.4 in let Rs : List RattleType = types_at ended.signature.params z.0.0 in
        let entry : SProp 𝓤 = on_entry 𝓛 ended.signature z.0.0 z.0.1 a vss in
        fact_use 𝓤 (Are Rs (Ises Rs) a vss) (via 𝓤 (sem 𝓛 (owns Rs a vss)) (via 𝓤 entry (fst∗ 𝓤 entry ((held z.0.0 a).requires z.1)) (snd∗ 𝓤 (alive 𝓛 ended.signature z.0.0 z.0.1) (sem 𝓛 (owns Rs a vss)))) (owns_show 𝓛 Rs (Ises Rs) (showss 𝓛 Rs) a vss)) (λ are.
        subst (λ (us : List Val). Goes z (us) (z.0.4.1.0) (z.0.4.1.1.0) (z.0.4.1.1.1.0) (z.0.4.1.1.1.1.0)) (sym are.0.0) (
        subst (λ (us : List Val). Goes z (to z.0.3.0.ref_ptr.0 z.0.3.0.ref_ptr.1) (us) (z.0.4.1.1.0) (z.0.4.1.1.1.0) (z.0.4.1.1.1.1.0)) (sym are.1.0.0) (
        subst (λ (us : List Val). Goes z (to z.0.3.0.ref_ptr.0 z.0.3.0.ref_ptr.1) (to z.0.3.1.0.ref_ptr.0 z.0.3.1.0.ref_ptr.1) (us) (z.0.4.1.1.1.0) (z.0.4.1.1.1.1.0)) (sym are.1.1.0.0) (
        subst (λ (us : List Val). Goes z (to z.0.3.0.ref_ptr.0 z.0.3.0.ref_ptr.1) (to z.0.3.1.0.ref_ptr.0 z.0.3.1.0.ref_ptr.1) (to z.0.3.1.1.0.ref_ptr.0 z.0.3.1.1.0.ref_ptr.1) (us) (z.0.4.1.1.1.1.0)) (sym are.1.1.1.0.0) (
        one_value (layout F) (λ fs. Goes z (to z.0.3.0.ref_ptr.0 z.0.3.0.ref_ptr.1) (to z.0.3.1.0.ref_ptr.0 z.0.3.1.0.ref_ptr.1) (to z.0.3.1.1.0.ref_ptr.0 z.0.3.1.1.0.ref_ptr.1) (to z.0.3.1.1.1.0.ref_ptr.0 z.0.3.1.1.1.0.ref_ptr.1) fs) z.0.4.1.1.1.1.0 (((param_laws 5 F LF).lawful 𝓛).typed a.1.1.1.1.0 z.0.4.1.1.1.1.0 are.1.1.1.1.0) (walk z)))))))

pub lend_four_spec : {M : Type 1} → stated.statement M
unfolding tables_of
lend_four_spec 𝓤 𝓛 𝓜 𝓡 wired A B C D R F LA LB LC LD LR LF g d d' met _ =
    let 𝓣 : Tables 𝓤 𝓛.H = tables_of 𝓤 𝓛.H 𝓜 (tables 𝓤 𝓛.H 𝓜 𝓡 𝓡.env) in
    entered 𝓤 𝓛.H (triple_of 𝓛 (Promised.signature A B C D R F) (Promised.spec A B C D R F g d d' 𝓛 𝓜.mem 𝓡.returns)) 𝓣.C 𝓣.Λ (key.name (args A B C D R F g d d')) (here A B C D R F g d d')
    (code.unfolded 𝓤 𝓛.H 𝓜 𝓡 wired (A, (B, (C, (D, (R, (F, tt)))))) d d')
    (meets A B C D R F g d d' LA LB LC LD LR LF 𝓛 𝓜.mem 𝓡.returns 𝓣 met.1)

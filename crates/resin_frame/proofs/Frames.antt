-- What the proofs of the forms share: which paths a script can name, and the rules that show a program framed.
use Rattle.std.proofs.Common.{◌≡◌, ℕ, ◌&&◌, Bool, true, false, not, nat_le, List, ◌++◌, length, drop, codes, Option, Some, None, refl, sym, ap, ◌∙◌}
use Rattle.std.specs.Str.{bytes_eq}
use Rattle.std.proofs.lemmas.Bool.Decides.{Decides-eqb}
use Rattle.std.proofs.lemmas.Slice.Eq.{starts_is, bytes_eq-Decides}
use Rattle.resin_meaning_forms.specs.Under.bytes.Paths.{is_lawful_path, has_segments}
use Rattle.resin_meaning_forms.specs.Under.machine.State.{State}
use Rattle.resin_meaning_forms.specs.Under.tree.declared.expression.Expr.{Expr}
use Rattle.resin_meaning_forms.specs.Under.tree.declared.statement.Stmt.{Stmt}
use Rattle.resin_meaning_forms.specs.Parts.{Evals, looked}
use Rattle.resin_meaning_forms.specs.Sessions.{session_path, is_of_session, is_of_other}
use Rattle.resin_frame.specs.Frames.{IsFramed}
pub use Rattle.resin_frame.proofs.Composition.{PassesSpent, framed_ended, framed_act, framed_then, framed_bind, framed_tried, framed_within, framed_if, framed_where, framed_by_state, framed_by_ticks}
pub use Rattle.resin_frame.proofs.Keepers.{framed_read, framed_write, framed_remove, framed_exists, framed_create, framed_columns, framed_rows, framed_insert, framed_update, framed_delete}
use Rattle.resin_frame.proofs.Numbers.{ReadsBlind, looked_numberless, numberless}

true_false : true ≡ false → ⊥
true_false e = cc

unlawful : (path rest : List ℕ) → path ≡ codes ".resin/s=" ++ rest → is_lawful_path path ≡ false
unlawful path rest e = ap is_lawful_path e ∙ by (nat_le (length (codes ".resin/s=" ++ rest)) 200)
  where
    by : (b : Bool) → (b && false && has_segments (codes ".resin/s=" ++ rest)) ≡ false
    by true = refl
    by false = refl

no_session : (path : List ℕ) → is_lawful_path path ≡ true → is_of_session path ≡ false
no_session path h = by (is_of_session path) refl
  where
    by : (b : Bool) → is_of_session path ≡ b → b ≡ false
    by true e = absurd (true_false (sym h ∙ unlawful path (drop 9 path) ((starts_is Decides-eqb path (codes ".resin/s=") (is_of_session path) refl).0 e)))
    by false e = refl

-- a path that scripts can name is that of no session
pub lawful_seen : (own : Option (List ℕ)) (path : List ℕ) → is_lawful_path path ≡ true → is_of_other own path ≡ false
lawful_seen None path h = no_session path h
lawful_seen (Some name) path h = ap (λ b. b && not (bytes_eq path (session_path name))) (no_session path h)

-- a session is seen by its own requests
pub own_seen : (name : List ℕ) → is_of_other (Some name) (session_path name) ≡ false
own_seen name = ap not ((bytes_eq-Decides (session_path name) (session_path name)).1 refl)

-- ---- the rules

-- something that is read off the state, where `search` doesn't see what
pub framed_looked : {own : Option (List ℕ)} {A : Type 0} (read : State → A) → ReadsBlind read → IsFramed own (looked read)
framed_looked read h = framed_act _ (looked_numberless read h)

pub record FramedEvals (own : Option (List ℕ)) (ev : Evals) : Type 0 where
  pub expr : (e : Expr) → IsFramed own (ev.expr e)
  pub soft : (e : Expr) → IsFramed own (ev.soft e)
  pub stmt : (s : Stmt) → IsFramed own (ev.stmt s)

pub ruleset framing = (numberless, framed_ended, framed_act, framed_bind, framed_tried, framed_within, framed_if)

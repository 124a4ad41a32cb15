-- The programs of LeavingWrites are framed.
use Rattle.std.specs.Prelude.{Option}
use Rattle.std.specs.Prelude.{ℕ, List, [], ◌∷◌, length, unwrap_or, Result, Ok, Err}
use Rattle.resin_meaning_forms.specs.Under.lstr.Texts.{Text, policies_in_order, first_run}
use Rattle.resin_meaning_forms.specs.Under.journal.declared.channel.Channel.{Channel}
use Rattle.resin_meaning_forms.specs.Under.machine.declared.stop.Stop.TheVariants.{Thrown}
use Rattle.resin_meaning_forms.specs.Under.machine.Leaving.{draw, pass, deny, deny_filter}
use Rattle.resin_meaning_forms.specs.Under.meaning.Programs.{Prog, give, stop, ◌>>=◌, tried, quietly, act}
use Rattle.resin_meaning_forms.specs.Under.meaning.LeavingWrites.{judged, ask_policies, filtered, ask_filters, leaving_write}
use Rattle.resin_frame.specs.Frames.{IsFramed}
use Rattle.resin_frame.proofs.Frames.{framing}

pub judged_framed : {own : Option (List ℕ)} (w : ℕ) (c : Channel) (t : Text) (p : ℕ) (a4 : Result (Unit {0}) ℕ) → IsFramed {A = (Unit {0})} own (judged w c t p a4)
judged_framed w c t p (Ok u) = search framing depth 12
judged_framed w c t p (Err thrown) = search framing depth 12

pub ask_policies_framed : {own : Option (List ℕ)} (check : (ℕ → Prog (Unit {0}))) (w : ℕ) (c : Channel) (t : Text) (a4 : List ℕ) → ((x0 : ℕ) → IsFramed own (check x0)) → IsFramed {A = (Unit {0})} own (ask_policies check w c t a4)
ask_policies_framed check w c t [] h_check = search framing depth 12
ask_policies_framed {own = own} check w c t (p ∷ ps) h_check = let ih = ask_policies_framed {own = own} check w c t ps h_check in search (framing, judged_framed) depth 12

pub filtered_framed : {own : Option (List ℕ)} (w : ℕ) (c : Channel) (f : ℕ) (t : Text) (a4 : Result Text ℕ) → IsFramed {A = Text} own (filtered w c f t a4)
filtered_framed w c f t (Ok answer) = search framing depth 12
filtered_framed w c f t (Err thrown) = search framing depth 12

pub ask_filters_framed : {own : Option (List ℕ)} (filter : (ℕ → Text → Prog Text)) (w : ℕ) (c : Channel) (a3 : List ℕ) (t : Text) → ((x0 : ℕ) (x1 : Text) → IsFramed own (filter x0 x1)) → IsFramed {A = Text} own (ask_filters filter w c a3 t)
ask_filters_framed filter w c [] t h_filter = search framing depth 12
ask_filters_framed {own = own} filter w c (f ∷ fs) t h_filter = let ih = λ (y4 : Text). ask_filters_framed {own = own} filter w c fs y4 h_filter in search (framing, filtered_framed, ih) depth 12

pub leaving_write_framed : {own : Option (List ℕ)} (check : (ℕ → Prog (Unit {0}))) (filter : (ℕ → Text → Prog Text)) (c : Channel) (chain : List ℕ) (prepare : (Text → Prog Text)) (send : (ℕ → Text → Prog (Unit {0}))) (t : Text) → ((x0 : ℕ) → IsFramed own (check x0)) → ((x0 : ℕ) (x1 : Text) → IsFramed own (filter x0 x1)) → ((x0 : Text) → IsFramed own (prepare x0)) → ((x0 : ℕ) (x1 : Text) → IsFramed own (send x0 x1)) → IsFramed {A = (Unit {0})} own (leaving_write check filter c chain prepare send t)
leaving_write_framed check filter c chain prepare send t h_check h_filter h_prepare h_send = search (framing, ask_policies_framed, ask_filters_framed) depth 12

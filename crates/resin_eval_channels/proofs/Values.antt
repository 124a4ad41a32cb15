-- What the functions of channels mean by the values of their arguments.
use Rattle.std.proofs.Common.{◌≡◌, ℕ, suc, ℤ, ◌<◌, List, [], ◌∷◌, length, Bool, true, false, cond, Some, None, Result, Ok, refl, sym, ap, subst, ◌∙◌, arith, ◌≤◌, drop, take, get_or, ◌-◌}
use Rattle.std.proofs.lemmas.List.{take_all}
use Rattle.std.specs.Prelude.{pos, negsuc, decimal, nat_le, ◌&&◌}
use Rattle.resin_eval_queries.specs.Under.label.Sets.{NumberSet}
use Rattle.resin_eval_queries.specs.Under.lstr.Texts.{Text as LabelledText, carrying, bytes_of}
use Rattle.resin_eval_queries.specs.Under.scalar.declared.faults.CallStop.{CallStop}
use Rattle.resin_eval_queries.specs.Under.value.declared.value.Value.{Value}
use Rattle.resin_eval_queries.specs.Under.value.declared.value.Value.TheVariants.{Null, Bool as Truth, Int, Text, Arr, Obj}
use Rattle.resin_eval_queries.specs.Under.value.Trees.{Tree, null, boolean, integer, text, array, object}
use Rattle.resin_eval_queries.specs.Under.value.Seen.{tree_of}
use Rattle.resin_eval_queries.specs.Under.meaning_forms.Parts.{Evals}
use Rattle.std.specs.Fmt.{signed_decimal}
use Rattle.resin_eval_queries.specs.Under.ops.Conversions.{text_of}
use Rattle.resin_eval_queries.specs.Under.meaning_forms.Channels.{channel_work, status_in, status_of, unfit}
use Rattle.resin_eval_queries.specs.Under.meaning_forms.declared.callee.ChannelFunction.TheVariants.{FileExists, FileGetContents, FilePutContents, Header, Mail, SqlQuery, Unlink}
use Rattle.resin_eval_queries.proofs.eval_nested_lemmas.Arguments.{IsNoText}
use Rattle.resin_eval_queries.specs.Under.machine.State.{State}
use Rattle.resin_eval_queries.specs.Under.machine.Objects.{settled}
use Rattle.resin_eval_queries.specs.Under.machine.declared.stop.Stop.{Stop}
use Rattle.resin_eval_queries.specs.Under.scalar.Stops.{Gives}
use Rattle.resin_eval_queries.proofs.step_parts_lemmas.Answered.{settled_value}

-- ---- a line, an address, a subject or a message that is no text, and further or missing arguments

pub no_header_line : (ev : Evals) (v : Value) (ts : List Tree) → IsNoText v → channel_work ev Header (tree_of v ∷ ts) ≡ unfit
no_header_line ev Null ts isnt = refl
no_header_line ev (Truth b) ts isnt = refl
no_header_line ev (Int n s) ts isnt = refl
no_header_line ev (Text t) ts isnt = absurd (isnt t refl)
no_header_line ev (Arr a) ts isnt = refl
no_header_line ev (Obj o) ts isnt = refl

pub no_address : (ev : Evals) (v : Value) (x u : Tree) (ts : List Tree) → IsNoText v → channel_work ev Mail (tree_of v ∷ x ∷ u ∷ ts) ≡ unfit
no_address ev Null x u ts isnt = refl
no_address ev (Truth b) x u ts isnt = refl
no_address ev (Int n s) x u ts isnt = refl
no_address ev (Text t) x u ts isnt = absurd (isnt t refl)
no_address ev (Arr a) x u ts isnt = refl
no_address ev (Obj o) x u ts isnt = refl

pub no_subject : (ev : Evals) (to : LabelledText) (v : Value) (u : Tree) (ts : List Tree) → IsNoText v → channel_work ev Mail (text to ∷ tree_of v ∷ u ∷ ts) ≡ unfit
no_subject ev to Null u ts isnt = refl
no_subject ev to (Truth b) u ts isnt = refl
no_subject ev to (Int n s) u ts isnt = refl
no_subject ev to (Text t) u ts isnt = absurd (isnt t refl)
no_subject ev to (Arr a) u ts isnt = refl
no_subject ev to (Obj o) u ts isnt = refl

pub no_message : (ev : Evals) (to subject : LabelledText) (v : Value) (ts : List Tree) → IsNoText v → channel_work ev Mail (text to ∷ text subject ∷ tree_of v ∷ ts) ≡ unfit
no_message ev to subject Null ts isnt = refl
no_message ev to subject (Truth b) ts isnt = refl
no_message ev to subject (Int n s) ts isnt = refl
no_message ev to subject (Text t) ts isnt = absurd (isnt t refl)
no_message ev to subject (Arr a) ts isnt = refl
no_message ev to subject (Obj o) ts isnt = refl

pub mail_more : (ev : Evals) (a b c : Tree) (ts : List Tree) → channel_work ev Mail (a ∷ b ∷ c ∷ ts) ≡ channel_work ev Mail (a ∷ b ∷ c ∷ [])
mail_more ev null b c ts = refl
mail_more ev (boolean x) b c ts = refl
mail_more ev (integer n s) b c ts = refl
mail_more ev (text t) null c ts = refl
mail_more ev (text t) (boolean b2) c ts = refl
mail_more ev (text t) (integer n2 s2) c ts = refl
mail_more ev (text t) (text t2) null ts = refl
mail_more ev (text t) (text t2) (boolean b3) ts = refl
mail_more ev (text t) (text t2) (integer n3 s3) ts = refl
mail_more ev (text t) (text t2) (text t3) ts = refl
mail_more ev (text t) (text t2) (array r3 l3 h3) ts = refl
mail_more ev (text t) (text t2) (object o3) ts = refl
mail_more ev (text t) (array r2 l2 h2) c ts = refl
mail_more ev (text t) (object o2) c ts = refl
mail_more ev (array r l h) b c ts = refl
mail_more ev (object o) b c ts = refl

pub no_mail_of_one : (ev : Evals) (a : Tree) → channel_work ev Mail (a ∷ []) ≡ unfit
no_mail_of_one ev null = refl
no_mail_of_one ev (boolean b) = refl
no_mail_of_one ev (integer n s) = refl
no_mail_of_one ev (text t) = refl
no_mail_of_one ev (array r l h) = refl
no_mail_of_one ev (object o) = refl

pub no_mail_of_two : (ev : Evals) (a b : Tree) → channel_work ev Mail (a ∷ b ∷ []) ≡ unfit
no_mail_of_two ev null b = refl
no_mail_of_two ev (boolean x) b = refl
no_mail_of_two ev (integer n s) b = refl
no_mail_of_two ev (text t) null = refl
no_mail_of_two ev (text t) (boolean b2) = refl
no_mail_of_two ev (text t) (integer n2 s2) = refl
no_mail_of_two ev (text t) (text t2) = refl
no_mail_of_two ev (text t) (array r2 l2 h2) = refl
no_mail_of_two ev (text t) (object o2) = refl
no_mail_of_two ev (array r l h) b = refl
no_mail_of_two ev (object o) b = refl

-- ---- a status by its decimal text

text_in : (x y : LabelledText) → ◌≡◌ {A = Result LabelledText CallStop} (Ok x) (Ok y) → x ≡ y
text_in x y e = cc

bytes_carrying : (s : NumberSet) (bs : List ℕ) → bytes_of (carrying s bs) ≡ bs
bytes_carrying s [] = refl
bytes_carrying s (b ∷ bs) = ap (λ xs. b ∷ xs) (bytes_carrying s bs)

status_number : (n : ℤ) (status : ℕ) → Some status ≡ status_in n → n ≡ pos status
status_number (negsuc k) status e = absurd (cc)
status_number (pos k) status e = by (nat_le 200 k && nat_le k 599) e
  where
    by : (b : Bool) → Some status ≡ cond b (Some k) None → pos k ≡ pos status
    by true h = let f : status ≡ k = cc in ap pos (sym f)
    by false h = absurd (cc)

pub told_status : (v : Value) (status : ℕ) (told : LabelledText) → Some status ≡ status_of (tree_of v) → text_of (tree_of v) ≡ Ok told → bytes_of told ≡ decimal status
told_status Null status told e h = absurd (cc)
told_status (Truth b) status told e h = absurd (cc)
told_status (Text t) status told e h = absurd (cc)
told_status (Arr a) status told e h = absurd (cc)
told_status (Obj o) status told e h = absurd (cc)
told_status (Int n s) status told e h =
    let is = status_number n status e in
    ap bytes_of (sym (text_in (carrying s (signed_decimal n)) told h)) ∙ (bytes_carrying s (signed_decimal n) ∙ ap signed_decimal is)

-- the text that a conversion gave, as it was settled
pub settled_text : (answer rule : Result LabelledText CallStop) (m : State) (told : LabelledText) (m' : State) → Gives answer rule → ◌≡◌ {A = Result LabelledText Stop × State} (settled answer m) (Ok told, m') → rule ≡ Ok told
settled_text answer rule m told m' gives is = subst (λ (x : Result LabelledText CallStop). Gives x rule) (settled_value answer m told m' is) gives

pub no_short_mail : (ev : Evals) (ts : List Tree) → length ts < 3 → channel_work ev Mail ts ≡ unfit
no_short_mail ev [] lt = refl
no_short_mail ev (t ∷ []) lt = no_mail_of_one ev t
no_short_mail ev (t ∷ u ∷ []) lt = no_mail_of_two ev t u
no_short_mail ev (t ∷ u ∷ v ∷ ts) lt = absurd (omega (arith, lt))

-- three arguments that stand first
pub opened_thrice : {A : Type 0} (xs : List A) (x y z : A) → 3 ≤ length xs → x ≡ get_or xs 0 x → y ≡ get_or xs 1 y → z ≡ get_or xs 2 z → xs ≡ x ∷ y ∷ z ∷ drop 3 xs
opened_thrice [] x y z lt e f g = absurd (omega (arith, lt))
opened_thrice (a ∷ []) x y z lt e f g = absurd (omega (arith, lt))
opened_thrice (a ∷ b ∷ []) x y z lt e f g = absurd (omega (arith, lt))
opened_thrice (a ∷ b ∷ c ∷ xs) x y z lt e f g = λ i. sym e i ∷ sym f i ∷ sym g i ∷ xs

-- ---- a path or data that is no text, and missing arguments

pub no_read : (ev : Evals) (v : Value) (ts : List Tree) → IsNoText v → channel_work ev FileGetContents (tree_of v ∷ ts) ≡ unfit
no_read ev Null ts isnt = refl
no_read ev (Truth b) ts isnt = refl
no_read ev (Int n s) ts isnt = refl
no_read ev (Text t) ts isnt = absurd (isnt t refl)
no_read ev (Arr a) ts isnt = refl
no_read ev (Obj o) ts isnt = refl

pub no_query : (ev : Evals) (v : Value) (ts : List Tree) → IsNoText v → channel_work ev SqlQuery (tree_of v ∷ ts) ≡ unfit
no_query ev Null ts isnt = refl
no_query ev (Truth b) ts isnt = refl
no_query ev (Int n s) ts isnt = refl
no_query ev (Text t) ts isnt = absurd (isnt t refl)
no_query ev (Arr a) ts isnt = refl
no_query ev (Obj o) ts isnt = refl

pub no_unlink : (ev : Evals) (v : Value) (ts : List Tree) → IsNoText v → channel_work ev Unlink (tree_of v ∷ ts) ≡ unfit
no_unlink ev Null ts isnt = refl
no_unlink ev (Truth b) ts isnt = refl
no_unlink ev (Int n s) ts isnt = refl
no_unlink ev (Text t) ts isnt = absurd (isnt t refl)
no_unlink ev (Arr a) ts isnt = refl
no_unlink ev (Obj o) ts isnt = refl

pub no_exists : (ev : Evals) (v : Value) (ts : List Tree) → IsNoText v → channel_work ev FileExists (tree_of v ∷ ts) ≡ unfit
no_exists ev Null ts isnt = refl
no_exists ev (Truth b) ts isnt = refl
no_exists ev (Int n s) ts isnt = refl
no_exists ev (Text t) ts isnt = absurd (isnt t refl)
no_exists ev (Arr a) ts isnt = refl
no_exists ev (Obj o) ts isnt = refl

pub no_put_path : (ev : Evals) (v : Value) (ts : List Tree) → IsNoText v → channel_work ev FilePutContents (tree_of v ∷ ts) ≡ unfit
no_put_path ev Null ts isnt = refl
no_put_path ev (Truth b) ts isnt = refl
no_put_path ev (Int n s) ts isnt = refl
no_put_path ev (Text t) ts isnt = absurd (isnt t refl)
no_put_path ev (Arr a) ts isnt = refl
no_put_path ev (Obj o) ts isnt = refl

pub no_put_data : (ev : Evals) (path : LabelledText) (v : Value) (ts : List Tree) → IsNoText v → channel_work ev FilePutContents (text path ∷ tree_of v ∷ ts) ≡ unfit
no_put_data ev path Null ts isnt = refl
no_put_data ev path (Truth b) ts isnt = refl
no_put_data ev path (Int n s) ts isnt = refl
no_put_data ev path (Text t) ts isnt = absurd (isnt t refl)
no_put_data ev path (Arr a) ts isnt = refl
no_put_data ev path (Obj o) ts isnt = refl

no_put_of_one : (ev : Evals) (a : Tree) → channel_work ev FilePutContents (a ∷ []) ≡ unfit
no_put_of_one ev null = refl
no_put_of_one ev (boolean b) = refl
no_put_of_one ev (integer n s) = refl
no_put_of_one ev (text t) = refl
no_put_of_one ev (array r l h) = refl
no_put_of_one ev (object o) = refl

pub no_short_put : (ev : Evals) (ts : List Tree) → length ts < 2 → channel_work ev FilePutContents ts ≡ unfit
no_short_put ev [] lt = refl
no_short_put ev (t ∷ []) lt = no_put_of_one ev t
no_short_put ev (t ∷ u ∷ ts) lt = absurd (omega (arith, lt))

-- two arguments that stand first, and the rest of them, as a pattern binds them
pub opened_twice : {A : Type 0} (xs : List A) (x y : A) → 2 ≤ length xs → x ≡ get_or xs 0 x → y ≡ get_or xs 1 y → xs ≡ x ∷ y ∷ take (length xs - 2) (drop 2 xs)
opened_twice [] x y lt e f = absurd (omega (arith, lt))
opened_twice (a ∷ []) x y lt e f = absurd (omega (arith, lt))
opened_twice (a ∷ b ∷ xs) x y lt e f =
    let h : suc (suc (length xs)) - 2 ≡ length xs = omega arith in
    let all : take (suc (suc (length xs)) - 2) xs ≡ xs = ap (λ n. take n xs) h ∙ take_all (length xs) xs (omega (arith)) in
    λ i. sym e i ∷ sym f i ∷ sym all i

-- A write that leaves (RESIN's default filter in outline; the five steps and their order are this project's own). What asks a policy and what asks a
-- filter are programs that the evaluator gives: they run the code of scripts.
use Rattle.std.specs.Prelude.{ℕ, List, [], ◌∷◌, length, unwrap_or, Result, Ok, Err}
use Rattle.resin_machine.specs.Under.lstr.Texts.{Text, policies_in_order, first_run}
use Rattle.resin_machine.specs.Under.journal.declared.channel.Channel.{Channel}
use Rattle.resin_machine.specs.declared.stop.Stop.TheVariants.{Thrown}
use Rattle.resin_machine.specs.Leaving.{draw, pass, deny, deny_filter}
use Rattle.resin_meaning.specs.Programs.{Prog, give, stop, ◌>>=◌, tried, quietly, act}

-- what a policy's end means for the write w of a text: it passed, or it denied the first range of bytes that carry it, and its exception goes on
abbrev pub judged : ℕ → Channel → Text → ℕ → Result (Unit {0}) ℕ → Prog (Unit {0})
judged w c t p (Ok u) = act (pass w p)
judged w c t p (Err thrown) =
    let run = unwrap_or (first_run p t) (0, 0) in
    act (deny w c p run.0 run.1 thrown) >>= λ _. stop (Thrown thrown)

-- asks each policy, in order
abbrev pub ask_policies : (ℕ → Prog (Unit {0})) → ℕ → Channel → Text → List ℕ → Prog (Unit {0})
ask_policies check w c t [] = give tt
ask_policies check w c t (p ∷ ps) = tried (quietly (check p)) >>= λ end. judged w c t p end >>= λ _. ask_policies check w c t ps

-- what a filter's end means: its answer is the text from here on, or its exception is noted, and goes on
abbrev pub filtered : ℕ → Channel → ℕ → Text → Result Text ℕ → Prog Text
filtered w c f t (Ok answer) = give answer
filtered w c f t (Err thrown) = act (deny_filter w c f (length t) thrown) >>= λ _. stop (Thrown thrown)

-- asks each filter of a chain, each about the answer of the one before
abbrev pub ask_filters : (ℕ → Text → Prog Text) → ℕ → Channel → List ℕ → Text → Prog Text
ask_filters filter w c [] t = give t
ask_filters filter w c (f ∷ fs) t = tried (quietly (filter f t)) >>= λ end. filtered w c f t end >>= λ answer. ask_filters filter w c fs answer

-- the write: it draws its number; its filters are asked, as the chain stood; the text is tested or joined with others; its policies are
-- asked; it goes out
abbrev pub leaving_write : (ℕ → Prog (Unit {0})) → (ℕ → Text → Prog Text) → Channel → List ℕ → (Text → Prog Text)
    → (ℕ → Text → Prog (Unit {0})) → Text → Prog (Unit {0})
leaving_write check filter c chain prepare send t =
    act draw >>= λ w. ask_filters filter w c chain t >>= prepare >>= λ d. ask_policies check w c d (policies_in_order d) >>= λ _. send w d

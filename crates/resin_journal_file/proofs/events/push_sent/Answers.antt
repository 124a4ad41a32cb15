use Rattle.std.proofs.Common.{◌≡◌, ◌++◌, ◌∷◌, [], List, ℕ, length, codes, decimal, sym, ap, ◌∙◌, append_assoc}
use Rattle.std.specs.List.{flat_map}
use Rattle.std.proofs.lemmas.Result.{on_ok_weaker}
use Rattle.resin_lstr.specs.Texts.{bytes_of, sets_of}
use Rattle.resin_journal.specs.Channels.{channel_name}
use Rattle.resin_journal_file.specs.Files.{line, runs_of, run_line, lengths}
use Rattle.resin_journal_file.proofs.Lengths.{lengths_are, length-lengths}
use Rattle.resin_journal_file.proofs.events.push_sent.Goals as goal

-- four pieces put last, one behind the other
joined : (a b c d e p q r s : List ℕ) → p ≡ a ++ b → q ≡ p ++ c → r ≡ q ++ d → s ≡ r ++ e → s ≡ a ++ (b ++ (c ++ (d ++ e)))
joined a b c d e p q r s hp hq hr hs =
    hs ∙ ap (λ t. t ++ e) (hr ∙ ap (λ t. t ++ d) (hq ∙ ap (λ t. t ++ c) hp))
    ∙ append_assoc ((a ++ b) ++ c) d e ∙ append_assoc (a ++ b) c (d ++ e) ∙ append_assoc a b (c ++ (d ++ e))

pub returns : goal.returns
returns c =
    let rs = c.runs-runs.result.now in
    let runs = runs_of (sets_of c.args.sent.now) in
    let same : runs ≡ lengths 0 rs = ap runs_of (sym c.runs-runs.ensures.spelled) ∙ lengths_are 0 rs c.runs-runs.ensures.runs.coalesced in
    let count : length rs ≡ length runs = sym (ap length same ∙ length-lengths 0 rs) in
    let heading = λ (len n : ℕ). line (codes "sent" ∷ decimal c.args.write ∷ channel_name c.args.channel ∷ decimal len ∷ decimal n ∷ []) in
    on_ok_weaker c.push.result
    (joined c.args.text.now (heading (length c.args.sent.now) (length runs)) (flat_map run_line runs) (bytes_of c.args.sent.now) (10 ∷ [])
    c.push_heading.new.text c.push_runs.new.text c.push_slice.new.self c.push.new.self
    (c.in_ok-push_heading.ensures
    ∙ ap (λ len. c.args.text.now ++ heading len (length rs)) c.len.ensures.value
    ∙ ap (λ n. c.args.text.now ++ heading (length c.args.sent.now) n) count)
    (c.in_ok-push_runs.ensures ∙ ap (λ ls. c.push_heading.new.text ++ flat_map run_line ls) (sym same))
    (c.in_ok-push_slice.ensures.ok ∙ ap (λ bs. c.push_runs.new.text ++ bs) c.bytes.ensures))
    c.push.ensures.ok

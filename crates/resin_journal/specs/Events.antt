-- Lists of events.
use Rattle.std.specs.Prelude.{◌≡◌, ℕ, ◌==◌, List, refl, ◌⊎◌, if◌then◌else◌}
use Rattle.std.proofs.Common.{inl, inr}
use Rattle.std.specs.Coded.{Coded, code_by, coded×, coded⊎, coded_ℕ, coded_list}
use Rattle.resin_lstr.specs.Texts.{Text, text_code}
use Rattle.resin_journal.specs.declared.channel.Channel.{Channel}
use Rattle.resin_journal.specs.declared.channel.Channel.TheVariants.{Http, Header, Email, File, Sql, Code, Input, Func}
use Rattle.resin_journal.specs.declared.event.Event.{Event}
use Rattle.resin_journal.specs.declared.event.Event.TheVariants.{Passed, Sent, Denied, FilterDenied}

-- the events of a request, in order
abbrev pub EventList : Type 0
EventList = List Event

-- ---- how events are told apart
abbrev place_of : Channel → ℕ
place_of Http = 0
place_of Header = 1
place_of Email = 2
place_of File = 3
place_of Sql = 4
place_of Code = 5
place_of Input = 6
place_of Func = 7

abbrev channel_at : ℕ → Channel
channel_at n =
    if n == 0 then Http else (if n == 1 then Header else (if n == 2 then Email else (if n == 3 then File else
    (if n == 4 then Sql else (if n == 5 then Code else (if n == 6 then Input else Func))))))

pub channel_at-place_of : (c : Channel) → channel_at (place_of c) ≡ c
channel_at-place_of Http = refl
channel_at-place_of Header = refl
channel_at-place_of Email = refl
channel_at-place_of File = refl
channel_at-place_of Sql = refl
channel_at-place_of Code = refl
channel_at-place_of Input = refl
channel_at-place_of Func = refl

abbrev pub channel_code : Coded Channel
channel_code = code_by ℕ coded_ℕ place_of channel_at channel_at-place_of

-- the write, the channel, the object with its class, the range, and the class of the exception
abbrev Denial : Type 0
Denial = ℕ × (Channel × (ℕ × (List ℕ × (ℕ × (ℕ × List ℕ)))))

abbrev denial_code : Coded Denial
denial_code =
    coded× coded_ℕ (coded× channel_code (coded× coded_ℕ (coded× (coded_list coded_ℕ) (coded× coded_ℕ (coded× coded_ℕ (coded_list coded_ℕ))))))

abbrev Parts : Type 0
Parts = ((ℕ × ℕ) ⊎ (ℕ × (Channel × Text))) ⊎ (Denial ⊎ Denial)

abbrev parts : Event → Parts
parts (Passed w p) = inl (inl (w, p))
parts (Sent w c t) = inl (inr (w, (c, t)))
parts (Denied w c p class from to by) = inr (inl (w, (c, (p, (class, (from, (to, by)))))))
parts (FilterDenied w c f class len by) = inr (inr (w, (c, (f, (class, (0, (len, by)))))))

abbrev event_of : Parts → Event
event_of (inl (inl p)) = Passed p.0 p.1
event_of (inl (inr s)) = Sent s.0 s.1.0 s.1.1
event_of (inr (inl d)) = Denied d.0 d.1.0 d.1.1.0 d.1.1.1.0 d.1.1.1.1.0 d.1.1.1.1.1.0 d.1.1.1.1.1.1
event_of (inr (inr d)) = FilterDenied d.0 d.1.0 d.1.1.0 d.1.1.1.0 d.1.1.1.1.1.0 d.1.1.1.1.1.1

pub event_of-parts : (e : Event) → event_of (parts e) ≡ e
event_of-parts (Passed w p) = refl
event_of-parts (Sent w c t) = refl
event_of-parts (Denied w c p class from to by) = refl
event_of-parts (FilterDenied w c f class len by) = refl

abbrev pub event_code : Coded Event
event_code =
    code_by Parts (coded⊎ (coded⊎ (coded× coded_ℕ coded_ℕ) (coded× coded_ℕ (coded× channel_code text_code))) (coded⊎ denial_code denial_code))
    parts event_of event_of-parts

abbrev pub events_code : Coded EventList
events_code = coded_list event_code

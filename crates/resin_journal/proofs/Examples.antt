-- What the access law says of small journals.
use Rattle.std.proofs.Common.{◌≡◌, ℕ, true, false, [], ◌∷◌, refl, arith}
use Rattle.std.specs.List.{list_all}
use Rattle.resin_label.specs.Kept.{of_rising}
use Rattle.resin_label.proofs.Members.{numbers-of_rising}
use Rattle.resin_lstr.specs.Texts.{Text, policies_in_order}
use Rattle.resin_journal.specs.declared.channel.Channel.TheVariants.{Http, Header, File, Code, Func}
use Rattle.resin_journal.specs.declared.event.Event.{Event}
use Rattle.resin_journal.specs.declared.event.Event.TheVariants.{Passed, Sent, Denied, FilterDenied}
use Rattle.resin_journal.specs.Events.{EventList}
use Rattle.resin_journal.specs.Access.{is_placed, is_one_write, never_fall, writes_of}

-- a text whose first byte carries 2 and 5, and whose second carries 1 and 2
abbrev marked : Text
marked = (97, of_rising (2 ∷ 5 ∷ [])) ∷ (98, of_rising (1 ∷ 2 ∷ [])) ∷ []

order : policies_in_order marked ≡ 2 ∷ 5 ∷ 1 ∷ []
order = rw (numbers-of_rising (2 ∷ 5 ∷ []) (omega arith, (tt, tt)), numbers-of_rising (1 ∷ 2 ∷ []) (omega arith, (tt, tt))) refl

abbrev denied : ℕ → ℕ → ℕ → Event
denied p from to = Denied 1 Http p [] from to []

abbrev stopped : Event
stopped = FilterDenied 1 Http 7 [] 3 []

-- ---- the events of one write
no_event : is_one_write [] ≡ true
no_event = refl

carries_nothing : is_one_write (Sent 1 Http [] ∷ []) ≡ true
carries_nothing = refl

all_returned : is_one_write (Passed 1 2 ∷ Passed 1 5 ∷ Passed 1 1 ∷ Sent 1 Http marked ∷ []) ≡ true
all_returned = rw order refl

one_was_not_asked : is_one_write (Passed 1 2 ∷ Passed 1 5 ∷ Sent 1 Http marked ∷ []) ≡ false
one_was_not_asked = rw order refl

none_was_asked : is_one_write (Sent 1 Http marked ∷ []) ≡ false
none_was_asked = rw order refl

asked_by_number : is_one_write (Passed 1 1 ∷ Passed 1 2 ∷ Passed 1 5 ∷ Sent 1 Http marked ∷ []) ≡ false
asked_by_number = rw order refl

a_fault_came : is_one_write (Passed 1 2 ∷ Passed 1 5 ∷ []) ≡ true
a_fault_came = refl

asked_twice : is_one_write (Passed 1 2 ∷ Passed 1 2 ∷ []) ≡ false
asked_twice = refl

second_denied : is_one_write (Passed 1 2 ∷ denied 5 0 1 ∷ []) ≡ true
second_denied = refl

denied_after_it_returned : is_one_write (Passed 1 5 ∷ denied 5 0 1 ∷ []) ≡ false
denied_after_it_returned = refl

denied_nothing : is_one_write (denied 5 1 1 ∷ []) ≡ false
denied_nothing = refl

sent_after_a_denial : is_one_write (denied 5 0 1 ∷ Sent 1 Http [] ∷ []) ≡ false
sent_after_a_denial = refl

a_filter_denied : is_one_write (stopped ∷ []) ≡ true
a_filter_denied = refl

a_filter_denied_after_a_policy : is_one_write (Passed 1 2 ∷ stopped ∷ []) ≡ false
a_filter_denied_after_a_policy = refl

sent_twice : is_one_write (Sent 1 Http [] ∷ Sent 1 Http [] ∷ []) ≡ false
sent_twice = refl

-- ---- numbers and channels
placed : list_all is_placed (Passed 1 2 ∷ Sent 2 Header [] ∷ stopped ∷ FilterDenied 0 Code 1 [] 3 [] ∷ FilterDenied 0 Func 1 [] 0 [] ∷ []) ≡ true
placed = refl

sent_to_a_file : is_placed (Sent 1 File []) ≡ false
sent_to_a_file = refl

sent_without_a_number : is_placed (Sent 0 Http []) ≡ false
sent_without_a_number = refl

source_with_a_number : is_placed (FilterDenied 1 Code 1 [] 3 []) ≡ false
source_with_a_number = refl

page_without_a_number : is_placed (FilterDenied 0 Http 1 [] 3 []) ≡ false
page_without_a_number = refl

-- ---- the order of writes
abbrev one_after_the_other : EventList
one_after_the_other = Passed 1 2 ∷ FilterDenied 0 Func 1 [] 0 [] ∷ denied 5 0 1 ∷ Sent 3 Http [] ∷ []

in_order : never_fall (writes_of one_after_the_other) ≡ true
in_order = refl

one_in_the_other : never_fall (writes_of (Passed 1 2 ∷ Sent 2 Http [] ∷ denied 5 0 1 ∷ [])) ≡ false
one_in_the_other = refl

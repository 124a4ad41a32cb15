-- What is kept of an item that was read: what the access law asks.
use Rattle.std.specs.Prelude.{ℕ, List, Option, option_map}
use Rattle.resin_lstr.specs.Texts.{Text, policies_in_order}
use Rattle.resin_journal.specs.declared.event.Event.{Event}
use Rattle.resin_journal.specs.declared.event.Event.TheVariants as event
use Rattle.resin_journal_file.specs.Reading as reading
use Rattle.resin_audit.specs.declared.items.Told.{Told}
use Rattle.resin_audit.specs.declared.items.Told.TheVariants.{Passed, Sent, Denied, FilterDenied}
use Rattle.resin_audit.specs.declared.items.Heading.{Heading}
use Rattle.resin_audit.specs.declared.items.Item.{Item}
use Rattle.resin_audit.specs.declared.items.Item.TheVariants.{Request, Happened}

-- of a text that went out, its policies in order; of a denial, neither the classes nor the length of what a filter was given
abbrev pub told_of : Event → Told
told_of (event.Passed w p) = Passed w p
told_of (event.Sent w c t) = Sent w c (policies_in_order t)
told_of (event.Denied w c p class from to by) = Denied w c p from to
told_of (event.FilterDenied w c f class len by) = FilterDenied w c

abbrev pub kept_of : reading.Item → Item
kept_of (reading.Request q) = Request q
kept_of (reading.Happened e) = Happened (told_of e)

-- the same with what is behind it
abbrev pub kept_front : Option (reading.Item × List ℕ) → Option (Item × List ℕ)
kept_front o = option_map (λ p. (kept_of p.0, p.1)) o

-- the item at the front of a text, as it is kept, and what is behind it
abbrev pub next_item : List ℕ → Option (Item × List ℕ)
next_item xs = kept_front (reading.item xs)

-- the policies of a text with its runs, by the lines of the runs
abbrev pub next_carried : ℕ → ℕ → List ℕ → Option (List ℕ × List ℕ)
next_carried len count xs = option_map (λ p. (policies_in_order p.0, p.1)) (reading.labelled len count xs)

abbrev pub heading_of : reading.Heading → Heading
heading_of h = record { write = h.write; channel = h.channel; len = h.len; count = h.count }

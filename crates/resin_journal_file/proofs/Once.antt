-- A text is the file of one list of journals at most.
use Rattle.std.proofs.Common.{◌≡◌, ℕ, ◌+◌, ◌^◌, ◌<◌, ◌≤◌, List, [], ◌∷◌, ◌++◌, length, map, Some, None, refl, sym, ap, subst, ◌∙◌, arith, append_assoc}
use Rattle.std.specs.List.{flat_map}
use Rattle.std.proofs.lemmas.List.Concat.{flat_map-append}
use Rattle.resin_journal.specs.declared.event.Event.{Event}
use Rattle.resin_journal.specs.Events.{EventList}
use Rattle.resin_journal_file.specs.Files.{event_text, request_line, file_from}
use Rattle.resin_journal_file.specs.Limits.{Each, IsNumber, CanBeTold}
use Rattle.resin_journal_file.specs.Laws.{SaysOneThing}
use Rattle.resin_journal_file.specs.Reading.{Item, Request, Happened, item_text, IsItem, item}
use Rattle.resin_journal_file.proofs.Items.{item-item}

-- the items of journals, numbered from q on
abbrev pub items_from : ℕ → List EventList → List Item
items_from q [] = []
items_from q (j ∷ js) = Request q ∷ map Happened j ++ items_from (q + 1) js

events-items : (j : EventList) → flat_map event_text j ≡ flat_map item_text (map Happened j)
events-items [] = refl
events-items (e ∷ j) = ap (λ t. event_text e ++ t) (events-items j)

-- a file is the text of its items
pub file-items : (q : ℕ) (js : List EventList) → file_from q js ≡ flat_map item_text (items_from q js)
file-items q [] = refl
file-items q (j ∷ js) =
    append_assoc (request_line q) (flat_map event_text j) (file_from (q + 1) js)
    ∙ ap (λ t. request_line q ++ t)
    (ap (λ t. flat_map event_text j ++ t) (file-items (q + 1) js)
    ∙ ap (λ t. t ++ flat_map item_text (items_from (q + 1) js)) (events-items j)
    ∙ sym (flat_map-append item_text (map Happened j) (items_from (q + 1) js)))

pub each-append : {X : Type 0} (P : X → Type 0) (xs ys : List X) → Each P xs → Each P ys → Each P (xs ++ ys)
each-append P [] ys h k = k
each-append P (x ∷ xs) ys h k = (h.0, each-append P xs ys h.1 k)

each_event : (j : EventList) → Each CanBeTold j → Each IsItem (map Happened j)
each_event [] h = tt
each_event (e ∷ j) h = (h.0, each_event j h.1)

pub items_told : (q : ℕ) (js : List EventList) → q + length js ≤ 2 ^ 64 → Each (Each CanBeTold) js → Each IsItem (items_from q js)
items_told q [] le h = tt
items_told q (j ∷ js) le h = (
  let lt : q < 2 ^ 64 = omega arith in lt,
  each-append IsItem (map Happened j) (items_from (q + 1) js) (each_event j h.0) (items_told (q + 1) js (omega arith) h.1),
)

pub from_some : {A : Type 0} (a b : A) → Some a ≡ Some b → a ≡ b
from_some a b e = cc

pub none_some : {A : Type 0} (a : A) → None ≡ Some a → ⊥
none_some a e = cc

-- texts of items are the same for the same items alone
pub once : (is ks : List Item) → Each IsItem is → Each IsItem ks → flat_map item_text is ≡ flat_map item_text ks → is ≡ ks
once [] [] h k e = refl
once [] (i ∷ ks) h k e = absurd (none_some (i, flat_map item_text ks) (ap item e ∙ item-item i k.0 (flat_map item_text ks)))
once (i ∷ is) [] h k e = absurd (none_some (i, flat_map item_text is) (sym (ap item e) ∙ item-item i h.0 (flat_map item_text is)))
once (i ∷ is) (m ∷ ks) h k e =
    let both = from_some (i, flat_map item_text is) (m, flat_map item_text ks)
    (sym (item-item i h.0 (flat_map item_text is)) ∙ ap item e ∙ item-item m k.0 (flat_map item_text ks)) in
    let rest : is ≡ ks = once is ks h.1 k.1 (ap (λ p. p.1) both) in
    ap (λ x. x ∷ is) (ap (λ p. p.0) both) ∙ ap (λ xs. m ∷ xs) rest

-- no event stands in front
abbrev pub NoEvent : List Item → Type 0
NoEvent [] = Unit {0}
NoEvent (Request q ∷ is) = Unit {0}
NoEvent (Happened e ∷ is) = ⊥

pub no_event : (q : ℕ) (js : List EventList) → NoEvent (items_from q js)
no_event q [] = tt
no_event q (j ∷ js) = tt

pub same_event : (e f : Event) (is ks : List Item) → Happened e ∷ is ≡ Happened f ∷ ks → (e ≡ f) × (is ≡ ks)
same_event e f is ks h = (cc, cc)

pub same_tail : (i m : Item) (is ks : List Item) → i ∷ is ≡ m ∷ ks → is ≡ ks
same_tail i m is ks h = cc

pub parted : (j k : EventList) (is ks : List Item) → NoEvent is → NoEvent ks → map Happened j ++ is ≡ map Happened k ++ ks → (j ≡ k) × (is ≡ ks)
parted [] [] is ks a b e = (refl, e)
parted [] (f ∷ k) is ks a b e = absurd (subst NoEvent e a)
parted (f ∷ j) [] is ks a b e = absurd (subst NoEvent (sym e) b)
parted (f ∷ j) (g ∷ k) is ks a b e =
    let heads = same_event f g (map Happened j ++ is) (map Happened k ++ ks) e in
    let tails = parted j k is ks a b heads.1 in
    (ap (λ x. x ∷ j) heads.0 ∙ ap (λ xs. g ∷ xs) tails.0, tails.1)

none_request : (q : ℕ) (is : List Item) → [] ≡ Request q ∷ is → ⊥
none_request q is e = cc

same_journals : (q : ℕ) (js ks : List EventList) → items_from q js ≡ items_from q ks → js ≡ ks
same_journals q [] [] e = refl
same_journals q [] (k ∷ ks) e = absurd (none_request q _ e)
same_journals q (j ∷ js) [] e = absurd (none_request q _ (sym e))
same_journals q (j ∷ js) (k ∷ ks) e =
    let parts = parted j k (items_from (q + 1) js) (items_from (q + 1) ks) (no_event (q + 1) js) (no_event (q + 1) ks)
    (same_tail (Request q) (Request q) (map Happened j ++ items_from (q + 1) js) (map Happened k ++ items_from (q + 1) ks) e) in
    ap (λ x. x ∷ js) parts.0 ∙ ap (λ xs. k ∷ xs) (same_journals (q + 1) js ks parts.1)

pub room : (js : List EventList) → IsNumber (length js) → 1 + length js ≤ 2 ^ 64
room js h = omega (arith, h)

pub says_one_thing : SaysOneThing
says_one_thing text js ks f g =
    same_journals 1 js ks
    (once (items_from 1 js) (items_from 1 ks) (items_told 1 js (room js f.count) f.told) (items_told 1 ks (room ks g.count) g.told)
    (sym (file-items 1 js) ∙ (sym f.text_is ∙ g.text_is) ∙ file-items 1 ks))

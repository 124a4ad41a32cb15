-- With other data and other safe values a page stays lawful.
use Rattle.std.proofs.Common.{Bool, true, false, List, [], ◌∷◌, map, sym, ap, subst, ◌∙◌}
use Rattle.std.specs.Prelude.{◌==◌, ◌&&◌, not}
use Rattle.resin_scan.specs.Bytes.{lower}
use Rattle.resin_scan.specs.Lists.{Every}
use Rattle.resin_guard.specs.Pages.{is_blank, is_raw, is_harmful}
use Rattle.resin_guard.specs.Answers.{IsPage}
use Rattle.resin_guard.specs.Items.{Value, none, quoted, Part, blank, attribute, Tag, Markup, closing, opening, Items, end, item, IsName, is_quote, IsValue, AreParts, IsTag, IsMarkup, AreItems, IsLawful, OtherValue, OtherParts, OtherTag, OtherMarkup, OtherItems, KeepsItems}
use Rattle.resin_guard.proofs.Found.{page_found}
use Rattle.resin_guard.proofs.Written.{page_written}

other_value : (safe : Bool) (v w : Value) → IsValue v → OtherValue safe v w → IsValue w
other_value true (quoted q w) (quoted p v) h o = (ap is_quote o.0 ∙ h.0, subst (λ q. Every (λ b. not (b == q)) v) (sym o.0) o.1)
other_value true (quoted q w) none h o = subst IsValue (sym o) h
other_value true none w h o = subst IsValue (sym o) h
other_value false v w h o = subst IsValue (sym o) h

other_parts : (safe gap : Bool) (ps qs : List Part) → AreParts gap ps → OtherParts safe ps qs → AreParts gap qs
other_parts safe gap [] [] h o = tt
other_parts safe gap [] (q ∷ qs) h o = absurd o
other_parts safe gap (blank b ∷ ps) [] h o = absurd o
other_parts safe gap (attribute n v ∷ ps) [] h o = absurd o
other_parts safe gap (blank b ∷ ps) (attribute n v ∷ qs) h o = absurd o
other_parts safe gap (attribute n v ∷ ps) (blank b ∷ qs) h o = absurd o
other_parts safe gap (attribute n v ∷ ps) (attribute m w ∷ qs) h o =
    (h.0, subst (IsName true) (sym o.0) h.1, other_value (safe && not (is_harmful (map lower n))) v w h.2 o.1, other_parts safe false ps qs h.3 o.2)
other_parts safe gap (blank b ∷ ps) (blank c ∷ qs) h o = (ap is_blank o.0 ∙ h.0, other_parts safe true ps qs h.1 o.1)

other_tag : (of_raw : Bool) (t u : Tag) → IsTag of_raw t → OtherTag t u → IsTag of_raw u
other_tag of_raw t u h o = (subst (IsName false) (sym o.0) h.0, ap (λ n. is_raw (map lower n)) o.0 ∙ h.1, other_parts true false t.parts u.parts h.2 o.1)

other_markup : (m k : Markup) → IsMarkup m → OtherMarkup m k → IsMarkup k
other_markup (closing t) (closing u) h o = other_tag false t u h o
other_markup (opening t) (opening u) h o = other_tag false t u h o
other_markup m k h o = subst IsMarkup (sym o) h

other_items : (is js : Items) → AreItems is → OtherItems is js → AreItems js
other_items end end h o = tt
other_items end (item k e others) h o = absurd o
other_items (item m d more) end h o = absurd o
other_items (item m d more) (item k e others) h o = (other_markup m k h.0 o.0, o.1, other_items more others h.2 o.2)

pub keeps_items : KeepsItems IsPage
keeps_items bytes places s =
    let k = page_found bytes places s in
    (k.0, k.1, k.2, k.3, λ q o. let l : IsLawful q = (o.0, other_items k.0.items q.items k.1.1 o.1) in (l, page_written q l))

-- What a policy text says, with the fields as an array.
use Rattle.std.proofs.Common.{◌≡◌, ℕ, List, [], Some, Err, refl, sym, ap, ◌∙◌}
use Rattle.std.specs.Prelude.{codes, Option, None}
use Rattle.std.specs.Option.{option_map}
use Rattle.resin_frozen.specs.declared.stop.Stop.{Stop}
use Rattle.resin_frozen.specs.declared.stop.Stop.TheVariants.{Form, Memory}
use Rattle.resin_value.specs.Arrays.{EntryList, Array}
use Rattle.resin_frozen.specs.Texts.{policy_text}
use Rattle.resin_frozen.specs.Policies.{IsPolicy, IsPolicyText, ROOM, kept_pairs}
use Rattle.resin_frozen.specs.Reads.{ReadsPolicy, Thaws, Tells}
use Rattle.resin_frozen.specs.Reading.{Policy, Said, and_then, literal, class, braced, value, policy, class_and_fields, said}
use Rattle.resin_frozen.specs.declared.keys.Keys.TheVariants.{Names}
use Rattle.resin_frozen.specs.Laws.{SaysItsFields}
use Rattle.resin_frozen.proofs.Numbers.{from_some, none_some}
use Rattle.resin_frozen.proofs.Parts.{bound, on}
use Rattle.resin_frozen.proofs.One_text.{text_whole, thaw_fails}

-- a text that is read as a policy is read with its fields as an array of the same entries
abbrev flat : Option (Said × List ℕ) → Option (Policy × List ℕ)
flat o = and_then o (λ p. Some ((p.0.0, p.0.1.entries), p.1))

flat_behind : {A : Type 0} (o : Option A) (f : A → Option (Said × List ℕ)) → flat (and_then o f) ≡ and_then o (λ a. flat (f a))
flat_behind None f = refl
flat_behind (Some a) f = refl

under : {A B : Type 0} (o : Option A) (f g : A → Option B) → ((a : A) → f a ≡ g a) → and_then o f ≡ and_then o g
under None f g h = refl
under (Some a) f g h = h a

pub as_policy : (xs : List ℕ) → flat (class_and_fields xs) ≡ policy xs
unfolding policy class_and_fields
as_policy xs =
    flat_behind (literal (codes "O:") xs) (λ o. and_then (class o.1) (λ c. and_then (literal (codes ":") c.1) (λ d. and_then (braced (value ROOM) Names d.1) (λ a. Some ((c.0, a.0), a.1)))))
    ∙ under (literal (codes "O:") xs) _ _ (λ o.
    flat_behind (class o.1) (λ c. and_then (literal (codes ":") c.1) (λ d. and_then (braced (value ROOM) Names d.1) (λ a. Some ((c.0, a.0), a.1))))
    ∙ under (class o.1) _ _ (λ c.
    flat_behind (literal (codes ":") c.1) (λ d. and_then (braced (value ROOM) Names d.1) (λ a. Some ((c.0, a.0), a.1)))
    ∙ under (literal (codes ":") c.1) _ _ (λ d.
    flat_behind (braced (value ROOM) Names d.1) (λ a. Some ((c.0, a.0), a.1)))))

said_read : (o : Option (Said × List ℕ)) (c : List ℕ) (es : EntryList) (rest : List ℕ) → flat o ≡ Some ((c, es), rest) → (a : Array) × (option_map (λ r. r.0) o ≡ Some (c, a)) × (a.entries ≡ es)
said_read None c es rest e = absurd (none_some ((c, es), rest) e)
said_read (Some p) c es rest e =
    let q = from_some ((p.0.0, p.0.1.entries), p.1) ((c, es), rest) e in
    (p.0.1, ap (λ n. Some (n, p.0.1)) (ap (λ r. r.0.0) q), ap (λ r. r.0.1) q)

pub says_its_fields : SaysItsFields
says_its_fields c es h =
    let text : IsPolicyText (policy_text c es) = record { class = c; fields = es; is_policy = h; text_is = refl } in
    said_read (class_and_fields (policy_text c es)) c (kept_pairs es) [] (as_policy (policy_text c es) ∙ text_whole (policy_text c es) text)

pub tells : (text xs new class name : List ℕ) (a : Array) → xs ≡ text → class_and_fields xs ≡ Some ((class, a), new) → name ≡ class → said text ≡ Some (name, a)
tells text xs new class name a same e n = ap said (sym same) ∙ ap (λ o. option_map (λ r. r.0) o) e ∙ ap (λ c. Some (c, a)) (sym n)

pub tell_fails : (text xs new : List ℕ) (stop : Stop) → xs ≡ text → IsPolicyText text → ReadsPolicy (policy xs) (Err stop) new → Tells text (Err stop)
tell_fails text xs new Form same h e = none_some ((h.class, kept_pairs h.fields), []) (sym e ∙ ap policy same ∙ text_whole text h)
tell_fails text xs new Memory same h e = tt

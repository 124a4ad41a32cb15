-- Laws of policy texts.
use Rattle.std.specs.Prelude.{◌≡◌, ◌↔◌, ℕ, List, ◌++◌, Some}
use Rattle.resin_value.specs.Arrays.{EntryList}
use Rattle.resin_frozen.specs.Texts.{policy_text}
use Rattle.resin_frozen.specs.Policies.{IsPolicy, IsPolicyText, kept_pairs}
use Rattle.resin_value.specs.Arrays.{Array}
use Rattle.resin_frozen.specs.Reading.{policy, front, said}

-- a text is that of one class with its fields, as far as a text keeps them
abbrev pub SaysOnePolicy : Type 0
SaysOnePolicy =
    (c d : List ℕ) (es fs : EntryList) → IsPolicy c es → IsPolicy d fs → policy_text c es ≡ policy_text d fs
    → (c ≡ d) × (kept_pairs es ≡ kept_pairs fs)

-- what is read at the front of bytes is the policy whose text stands there
abbrev pub ReadsPolicies : Type 0
ReadsPolicies =
    (xs rest c : List ℕ) (es : EntryList)
    → (policy xs ≡ Some ((c, es), rest)) ↔ ((xs ≡ policy_text c es ++ rest) × IsPolicy c es × (kept_pairs es ≡ es))

-- the policy text that is found at the front of bytes is one, and no other stands there
abbrev pub FindsTexts : Type 0
FindsTexts = (xs w rest : List ℕ) → (front xs ≡ Some (w, rest)) ↔ ((xs ≡ w ++ rest) × IsPolicyText w)

-- a policy text says its class, and its fields as they are kept
abbrev pub SaysItsFields : Type 0
SaysItsFields = (c : List ℕ) (es : EntryList) → IsPolicy c es → (a : Array) × (said (policy_text c es) ≡ Some (c, a)) × (a.entries ≡ kept_pairs es)

use Rattle.std.proofs.Common.{◌≡◌, [], ◌∷◌, ◌++◌, sym, ap, ◌∙◌}
use Rattle.std.specs.Str.{str_to_ascii_lowercase}
use Rattle.resin_value.specs.Under.bytes.declared.header.Header.{Header}
use Rattle.resin_scope.specs.Pages.{headers_with}
use Rattle.resin_scope.specs.declared.headers.Slot.{Slot}
use Rattle.resin_scope.proofs.StandingLemmas.{standing_more, counted_more}
use Rattle.resin_scope.proofs.headers.Headers.add.Goals as goal

pub invariant_of-self-2 : goal.invariant_of-self-2
invariant_of-self-2 c =
    let s : Slot = c.in_ok-slot.slot in
    let key : s.key.items ≡ str_to_ascii_lowercase s.header.name =
    c.in_ok-slot.ensures.key ∙ ap (λ (h : Header). str_to_ascii_lowercase h.name) (sym c.in_ok-slot.ensures.header) in
    let last : c.push_reserved.new.self.items ≡ c.self.inside.slots.items ++ s ∷ [] =
    c.push_reserved.ensures.items ∙ ap (λ ss. ss ++ s ∷ []) c.in_ok-reserve.ensures.items in
    counted_more _ _ _ s c.args.replace _ _ c.in_ok-begin.ensures.ok last c.self.invariant key c.in_ok-slot.ensures.number

pub returns-clause-ok : goal.returns-clause-ok
returns-clause-ok c =
    let s : Slot = c.in_ok-slot.slot in
    let key : s.key.items ≡ str_to_ascii_lowercase s.header.name =
    c.in_ok-slot.ensures.key ∙ ap (λ (h : Header). str_to_ascii_lowercase h.name) (sym c.in_ok-slot.ensures.header) in
    let last : c.push_reserved.new.self.items ≡ c.self.inside.slots.items ++ s ∷ [] =
    c.push_reserved.ensures.items ∙ ap (λ ss. ss ++ s ∷ []) c.in_ok-reserve.ensures.items in
    standing_more _ _ _ s c.args.replace _ _ c.in_ok-begin.ensures.ok last c.self.invariant key c.in_ok-slot.ensures.number
    ∙ (λ i. headers_with (c.in_ok-slot.ensures.header i).name (c.in_ok-slot.ensures.header i).value c.args.replace (c.self.view_is i))

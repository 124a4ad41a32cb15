-- Each step of a write keeps the answer tied to the journal.
use Rattle.std.proofs.Common.{◌≡◌, ℕ, List, [], ◌∷◌, ◌++◌, Bool, true, false, cond, Option, Some, None, ◌⊎◌, inl, inr, refl, sym, ap, subst, ◌∙◌}
use Rattle.std.specs.Prelude.{decimal, ⊤}
use Rattle.std.specs.List.{filter, filter_map, flat_map}
use Rattle.std.proofs.lemmas.List.{append-nil}
use Rattle.std.proofs.lemmas.List.Elements.{filter_map-append}
use Rattle.std.proofs.lemmas.Grind.{flat_map-append}
use Rattle.resin_scope.specs.Under.bytes.declared.header.Header.{Header}
use Rattle.resin_scope.specs.Under.lstr.Texts.{Text, bytes_of}
use Rattle.resin_scope.specs.Under.journal.declared.event.Event.{Event}
use Rattle.resin_scope.specs.Under.journal.declared.event.Event.TheVariants.{Sent}
use Rattle.resin_scope.specs.Under.journal.declared.channel.Channel.TheVariants.{Http, Header as HeaderChannel, Email}
use Rattle.resin_scope.specs.Under.journal.Events.{EventList}
use Rattle.resin_scope.specs.Pages.{other_headers, headers_with, status_with}
use Rattle.resin_stage.specs.Lines.{mail_record, header_line}
use Rattle.resin_stage.specs.Stages.{Stage, new_stage, noted, sent_page, sent_header, sent_status, sent_mail}
use Rattle.resin_stage.specs.Ties.{Sending, nothing, page, line, letter, sending_of, page_bytes, letter_bytes, line_bytes, sent_body, sent_mails, sent_lines, sent_headers, IsPartOf, IsOneOf, IsTied}

part_more : {X : Type 0} (xs ys zs : List X) → IsPartOf xs ys → IsPartOf xs (ys ++ zs)
part_more [] ys zs h = tt
part_more (x ∷ xs) [] zs h = absurd h
part_more (x ∷ xs) (y ∷ ys) zs (inl p) = inl (p.0, part_more xs ys zs p.1)
part_more (x ∷ xs) (y ∷ ys) zs (inr h) = inr (part_more (x ∷ xs) ys zs h)

part_self : {X : Type 0} (x : X) (ys : List X) → IsPartOf (x ∷ []) (ys ++ x ∷ [])
part_self x [] = inl (refl, tt)
part_self x (y ∷ ys) = inr (part_self x ys)

part_next : {X : Type 0} (xs ys : List X) (x : X) → IsPartOf xs ys → IsPartOf (xs ++ x ∷ []) (ys ++ x ∷ [])
part_next [] ys x h = part_self x ys
part_next (z ∷ xs) [] x h = absurd h
part_next (z ∷ xs) (y ∷ ys) x (inl p) = inl (p.0, part_next xs ys x p.1)
part_next (z ∷ xs) (y ∷ ys) x (inr h) = inr (part_next (z ∷ xs) ys x h)

part_tail : {X : Type 0} (x : X) (xs ys : List X) → IsPartOf (x ∷ xs) ys → IsPartOf xs ys
part_tail x [] ys h = tt
part_tail x (z ∷ xs) [] h = absurd h
part_tail x (z ∷ xs) (y ∷ ys) (inl p) = inr p.1
part_tail x (z ∷ xs) (y ∷ ys) (inr h) = inr (part_tail x (z ∷ xs) ys h)

part_cons : {X : Type 0} (x : X) (xs zs ys : List X) → ((vs : List X) → IsPartOf xs vs → IsPartOf zs vs) → IsPartOf (x ∷ xs) ys → IsPartOf (x ∷ zs) ys
part_cons x xs zs [] k h = absurd h
part_cons x xs zs (y ∷ ys) k (inl p) = inl (p.0, k ys p.1)
part_cons x xs zs (y ∷ ys) k (inr h) = inr (part_cons x xs zs ys k h)

-- a part without some items is a part
part_filter : {X : Type 0} (p : X → Bool) (xs ys : List X) → IsPartOf xs ys → IsPartOf (filter p xs) ys
part_filter p [] ys h = tt
part_filter {X = X} p (x ∷ xs) ys h = by (λ vs k. part_filter p xs vs k) (p x)
  where
    by : ((vs : List X) → IsPartOf xs vs → IsPartOf (filter p xs) vs) → (b : Bool) → IsPartOf (cond b (x ∷ filter p xs) (filter p xs)) ys
    by rest true = part_cons x xs (filter p xs) ys rest h
    by rest false = rest ys (part_tail x xs ys h)

one_more : (x : List ℕ) (ys zs : List (List ℕ)) → IsOneOf x ys → IsOneOf x (ys ++ zs)
one_more x [] zs h = absurd h
one_more x (y ∷ ys) zs (inl e) = inl e
one_more x (y ∷ ys) zs (inr h) = inr (one_more x ys zs h)

one_last : (x : List ℕ) (ys : List (List ℕ)) → IsOneOf x (ys ++ x ∷ [])
one_last x [] = inl refl
one_last x (y ∷ ys) = inr (one_last x ys)

body-next : (j : EventList) (e : Event) → sent_body (j ++ e ∷ []) ≡ sent_body j ++ page_bytes (sending_of e)
body-next j e = flat_map-append (λ e. page_bytes (sending_of e)) j (e ∷ []) ∙ ap (λ bs. sent_body j ++ bs) (append-nil (page_bytes (sending_of e)))

mails-next : (request : ℕ) (j : EventList) (e : Event) → sent_mails request (j ++ e ∷ []) ≡ sent_mails request j ++ letter_bytes request (sending_of e)
mails-next request j e = flat_map-append (λ e. letter_bytes request (sending_of e)) j (e ∷ []) ∙ ap (λ bs. sent_mails request j ++ bs) (append-nil (letter_bytes request (sending_of e)))

lines-next : (j : EventList) (e : Event) → sent_lines (j ++ e ∷ []) ≡ sent_lines j ++ filter_map (λ e. line_bytes (sending_of e)) (e ∷ [])
lines-next j e = filter_map-append (λ e. line_bytes (sending_of e)) j (e ∷ [])

headers-next : (j : EventList) (e : Event) → sent_headers (j ++ e ∷ []) ≡ sent_headers j ++ filter_map header_line (filter_map (λ e. line_bytes (sending_of e)) (e ∷ []))
headers-next j e = ap (filter_map header_line) (lines-next j e) ∙ filter_map-append header_line (sent_lines j) (filter_map (λ e. line_bytes (sending_of e)) (e ∷ []))

pub tied_new : (request : ℕ) → IsTied request new_stage
tied_new request = record { body = refl; mail = refl; headers = tt; status = inl refl }

status_more : (status : ℕ) (ys zs : List (List ℕ)) → (status ≡ 200) ⊎ ((status ≡ 302) ⊎ IsOneOf (decimal status) ys) → (status ≡ 200) ⊎ ((status ≡ 302) ⊎ IsOneOf (decimal status) (ys ++ zs))
status_more status ys zs (inl e) = inl e
status_more status ys zs (inr (inl e)) = inr (inl e)
status_more status ys zs (inr (inr h)) = inr (inr (one_more (decimal status) ys zs h))

-- an event that sends nothing
pub tied_noted : (request : ℕ) (e : Event) (s : Stage) → sending_of e ≡ nothing → IsTied request s → IsTied request (noted e s)
tied_noted request e s quiet t = record {
  body = t.body ∙ sym (body-next s.journal e ∙ (ap (λ x. sent_body s.journal ++ page_bytes x) quiet ∙ append-nil (sent_body s.journal)));
  mail = t.mail ∙ sym (mails-next request s.journal e ∙ (ap (λ x. sent_mails request s.journal ++ letter_bytes request x) quiet ∙ append-nil (sent_mails request s.journal)));
  headers = subst (IsPartOf s.headers) (sym (headers-next s.journal e)) (part_more s.headers (sent_headers s.journal) _ t.headers);
  status = subst (λ ls. (s.status ≡ 200) ⊎ ((s.status ≡ 302) ⊎ IsOneOf (decimal s.status) ls)) (sym (lines-next s.journal e)) (status_more s.status (sent_lines s.journal) _ t.status);
}

-- a text with the body
pub tied_page : (request w : ℕ) (text : Text) (s : Stage) → IsTied request s → IsTied request (sent_page w text s)
tied_page request w text s t = record {
  body = ap (λ bs. bs ++ bytes_of text) t.body ∙ sym (body-next s.journal (Sent w Http text));
  mail = t.mail ∙ sym (mails-next request s.journal (Sent w Http text) ∙ append-nil (sent_mails request s.journal));
  headers = subst (IsPartOf s.headers) (sym (headers-next s.journal (Sent w Http text))) (part_more s.headers (sent_headers s.journal) _ t.headers);
  status = subst (λ ls. (s.status ≡ 200) ⊎ ((s.status ≡ 302) ⊎ IsOneOf (decimal s.status) ls)) (sym (lines-next s.journal (Sent w Http text))) (status_more s.status (sent_lines s.journal) _ t.status);
}

-- a mail
pub tied_mail : (request w : ℕ) (text : Text) (s : Stage) → IsTied request s → IsTied request (sent_mail request w text s)
tied_mail request w text s t = record {
  body = t.body ∙ sym (body-next s.journal (Sent w Email text) ∙ append-nil (sent_body s.journal));
  mail = ap (λ bs. bs ++ mail_record request text) t.mail ∙ sym (mails-next request s.journal (Sent w Email text));
  headers = subst (IsPartOf s.headers) (sym (headers-next s.journal (Sent w Email text))) (part_more s.headers (sent_headers s.journal) _ t.headers);
  status = subst (λ ls. (s.status ≡ 200) ⊎ ((s.status ≡ 302) ⊎ IsOneOf (decimal s.status) ls)) (sym (lines-next s.journal (Sent w Email text))) (status_more s.status (sent_lines s.journal) _ t.status);
}

-- a status
pub tied_status : (request w : ℕ) (text : Text) (status : ℕ) (s : Stage) → bytes_of text ≡ decimal status → IsTied request s → IsTied request (sent_status w text status s)
tied_status request w text status s e t = record {
  body = t.body ∙ sym (body-next s.journal (Sent w HeaderChannel text) ∙ append-nil (sent_body s.journal));
  mail = t.mail ∙ sym (mails-next request s.journal (Sent w HeaderChannel text) ∙ append-nil (sent_mails request s.journal));
  headers = subst (IsPartOf s.headers) (sym (headers-next s.journal (Sent w HeaderChannel text))) (part_more s.headers (sent_headers s.journal) _ t.headers);
  status = inr (inr (subst (λ ls. IsOneOf (decimal status) ls) (sym (lines-next s.journal (Sent w HeaderChannel text) ∙ ap (λ b. sent_lines s.journal ++ b ∷ []) e)) (one_last (decimal status) (sent_lines s.journal))));
}

status_header : (name : List ℕ) (status : ℕ) (b : Bool) (ys : List (List ℕ)) → (status ≡ 200) ⊎ ((status ≡ 302) ⊎ IsOneOf (decimal status) ys) → (cond b 302 status ≡ 200) ⊎ ((cond b 302 status ≡ 302) ⊎ IsOneOf (decimal (cond b 302 status)) ys)
status_header name status true ys h = inr (inl refl)
status_header name status false ys h = h

replaced : (replace : Bool) (name : List ℕ) (hs ys : List Header) → IsPartOf hs ys → IsPartOf (cond replace (other_headers name hs) hs) ys
replaced true name hs ys h = part_filter _ hs ys h
replaced false name hs ys h = h

-- a header
pub tied_header : (request w : ℕ) (text : Text) (h : Header) (replace : Bool) (s : Stage) → header_line (bytes_of text) ≡ Some h → IsTied request s → IsTied request (sent_header w text h.name h.value replace s)
tied_header request w text h replace s e t = record {
  body = t.body ∙ sym (body-next s.journal (Sent w HeaderChannel text) ∙ append-nil (sent_body s.journal));
  mail = t.mail ∙ sym (mails-next request s.journal (Sent w HeaderChannel text) ∙ append-nil (sent_mails request s.journal));
  headers = subst (IsPartOf (headers_with h.name h.value replace s.headers)) (sym (headers-next s.journal (Sent w HeaderChannel text) ∙ ap (λ hs. sent_headers s.journal ++ hs) (one_header (header_line (bytes_of text)) e)))
      (part_next _ (sent_headers s.journal) h (replaced replace h.name s.headers (sent_headers s.journal) t.headers));
  status = subst (λ ls. (status_with h.name s.status ≡ 200) ⊎ ((status_with h.name s.status ≡ 302) ⊎ IsOneOf (decimal (status_with h.name s.status)) ls)) (sym (lines-next s.journal (Sent w HeaderChannel text)))
      (status_header h.name s.status _ _ (status_more s.status (sent_lines s.journal) _ t.status));
}
  where
    one_header : (o : Option Header) → o ≡ Some h → filter_map (λ (x : Option Header). x) (o ∷ []) ≡ h ∷ []
    one_header o e = ap (λ (x : Option Header). filter_map (λ (y : Option Header). y) (x ∷ [])) e

-- Places behind a text, and what a text is read as.
use Rattle.std.proofs.Common.{◌≡◌, ℕ, zero, suc, ◌+◌, ◌≤◌, List, [], ◌∷◌, length, Result, Ok, Err, refl, sym, ap, ◌∙◌, arith, subst, inl}
use Rattle.std.specs.Prelude.{if◌then◌else◌}
use Rattle.resin_lex.specs.Lines.{ends_line, line_ends, line_of}
use Rattle.resin_lex.specs.declared.token.ParseFault.{ParseFault}
use Rattle.resin_lex.specs.declared.token.ParseFault.TheVariants as fault
use Rattle.resin_tree.specs.declared.declaration.Program.{Program}
use Rattle.resin_eval_calls.specs.Under.scalar.declared.faults.ScriptFault.TheVariants.{Syntax, TooDeep}
use Rattle.resin_eval_calls.specs.Under.machine.declared.stop.Stop.TheVariants.{Fault, Memory}
use Rattle.resin_program_grammar.specs.Parsed.{IsAsParsed, parsed}
use Rattle.resin_eval_calls.specs.Under.meaning.Programs.{Prog, ended, moment}
use Rattle.resin_eval_calls.specs.Under.meaning.Runs.{World, Does, Reached}
use Rattle.resin_eval_calls.proofs.meaning_lemmas.Composition.{does_nothing, does_ended, none_here}
use Rattle.resin_eval_calls.specs.Under.meaning_forms.Sources.{read_as}

-- no line ends behind a text
ends_past : (n : ℕ) (xs : List ℕ) → length xs ≤ n → line_ends n xs ≡ line_ends (length xs) xs
ends_past zero [] le = refl
ends_past (suc n) [] le = refl
ends_past zero (x ∷ xs) le = absurd (omega arith)
ends_past (suc n) (x ∷ xs) le = ap (λ k. (if ends_line (x ∷ xs) then 1 else 0) + k) (ends_past n xs (omega arith))

pub line_past : (src : List ℕ) (place end : ℕ) → end ≡ length src → length src ≤ place → line_of src end ≡ line_of src place
line_past src place end e le = ap (λ n. line_of src n) e ∙ ap (λ k. 1 + k) (sym (ends_past place src le))

-- reading a text takes no step
starts : (src : List ℕ) (r : Result Program ParseFault) (failing : List ℕ) (at : Rattle.resin_eval_calls.specs.Under.meaning.Programs.Whole) → Reached (moment [] at) (read_as src r failing at).moments
starts src (Ok p) failing at = inl refl
starts src (Err (fault.Syntax place)) failing at = inl refl
starts src (Err (fault.TooDeep place)) failing at = inl refl
starts src (Err fault.Memory) failing at = inl refl

pub read_none : (src : List ℕ) (r : Result Program ParseFault) (w : World) → Does (read_as src r) w (Err Memory) w
read_none src r w = does_nothing (read_as src r) (starts src r)

-- a text that is none
pub read_syntax : (src : List ℕ) (e : ParseFault) (place line : ℕ) (w : World) → IsAsParsed (Err e) src → e ≡ fault.Syntax place → line ≡ line_of src place
    → Does (read_as src (parsed src)) w (Err (Fault Syntax line)) w
read_syntax src e place line w exact is k = let h = subst (λ (x : ParseFault). IsAsParsed (Err x) src) is exact in rw (h, k) (does_ended (Err (Fault Syntax (line_of src place))) w (none_here w))

pub read_deep : (src : List ℕ) (e : ParseFault) (place line : ℕ) (w : World) → IsAsParsed (Err e) src → e ≡ fault.TooDeep place → line ≡ line_of src place
    → Does (read_as src (parsed src)) w (Err (Fault TooDeep line)) w
read_deep src e place line w exact is k = let h = subst (λ (x : ParseFault). IsAsParsed (Err x) src) is exact in rw (h, k) (does_ended (Err (Fault TooDeep (line_of src place))) w (none_here w))

-- The words that are keywords, as this project lists them.
use Rattle.std.specs.Prelude.{ℕ, List, [], ◌∷◌, ◌++◌, Option, Some, None, if◌then◌else◌, codes}
use Rattle.resin_scan.specs.Words.{spells}
use Rattle.resin_scan.specs.declared.keywords.Keyword.{Keyword}
use Rattle.resin_scan.specs.declared.keywords.Keyword.TheVariants as k

unfoldable pub array_to_die : List (List ℕ × Keyword)
array_to_die =
    (codes "array", k.Array) ∷
    (codes "as", k.As) ∷
    (codes "break", k.Break) ∷
    (codes "case", k.Case) ∷
    (codes "catch", k.Catch) ∷
    (codes "class", k.Class) ∷
    (codes "continue", k.Continue) ∷
    (codes "default", k.Default) ∷
    (codes "die", k.Die) ∷
    []

unfoldable pub do_to_endwhile : List (List ℕ × Keyword)
do_to_endwhile =
    (codes "do", k.Do) ∷
    (codes "echo", k.Echo) ∷
    (codes "else", k.Else) ∷
    (codes "elseif", k.ElseIf) ∷
    (codes "empty", k.Empty) ∷
    (codes "endfor", k.EndFor) ∷
    (codes "endforeach", k.EndForeach) ∷
    (codes "endif", k.EndIf) ∷
    (codes "endwhile", k.EndWhile) ∷
    []

unfoldable pub exit_to_if : List (List ℕ × Keyword)
exit_to_if =
    (codes "exit", k.Exit) ∷
    (codes "extends", k.Extends) ∷
    (codes "final", k.Final) ∷
    (codes "finally", k.Finally) ∷
    (codes "for", k.For) ∷
    (codes "foreach", k.Foreach) ∷
    (codes "function", k.Function) ∷
    (codes "global", k.Global) ∷
    (codes "if", k.If) ∷
    []

unfoldable pub include_to_public : List (List ℕ × Keyword)
include_to_public =
    (codes "include", k.Include) ∷
    (codes "include_once", k.IncludeOnce) ∷
    (codes "instanceof", k.InstanceOf) ∷
    (codes "isset", k.Isset) ∷
    (codes "new", k.New) ∷
    (codes "parent", k.Parent) ∷
    (codes "private", k.Private) ∷
    (codes "protected", k.Protected) ∷
    (codes "public", k.Public) ∷
    []

unfoldable pub require_to_while : List (List ℕ × Keyword)
require_to_while =
    (codes "require", k.Require) ∷
    (codes "require_once", k.RequireOnce) ∷
    (codes "return", k.Return) ∷
    (codes "switch", k.Switch) ∷
    (codes "throw", k.Throw) ∷
    (codes "try", k.Try) ∷
    (codes "unset", k.Unset) ∷
    (codes "var", k.Var) ∷
    (codes "while", k.While) ∷
    []

-- the keyword of a table that a text is, in any case
abbrev pub named : List (List ℕ × Keyword) → List ℕ → Option Keyword
named [] xs = None
named (entry ∷ more) xs = if spells entry.0 xs then Some entry.1 else named more xs

-- every keyword
unfoldable pub keywords : List (List ℕ × Keyword)
keywords = array_to_die ++ (do_to_endwhile ++ (exit_to_if ++ (include_to_public ++ (require_to_while))))

-- the keyword that a text is, in any case
unfoldable pub keyword_of : List ℕ → Option Keyword
keyword_of xs = named keywords xs

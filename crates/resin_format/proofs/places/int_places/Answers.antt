use Rattle.std.proofs.Common.{◌≡◌, ℕ, ◌-◌, ◌∷◌, suc, length, drop, get_or, ap, ◌∙◌, sym, arith}
use Rattle.resin_label.specs.Sets.{empty}
use Rattle.resin_lstr.specs.Texts.{sets_of}
use Rattle.resin_escape_fn.proofs.Walk.{length-bytes_of}
use Rattle.std.specs.Prelude.{List, Bool, slice_get}
use Rattle.resin_format.specs.declared.form.Kind.{Kind}
use Rattle.resin_format.specs.declared.form.Form.{Form}
use Rattle.resin_format.specs.declared.form.Form.TheVariants.{Convert}
use Rattle.resin_format.specs.Directives.{formed, directives_from, kinds, is_integer_there}
use Rattle.resin_format.proofs.Steps.{kinds_next, kinds_last}
use Rattle.resin_format.proofs.places.int_places.Goals as goal

-- whether the kind at a place is an integer's
abbrev at : List Kind → ℕ → Bool
at ks n = is_integer_there (slice_get ks n)

pub returns-then-left-eq0 : goal.returns-then-left-eq0
returns-then-left-eq0 c =
    let rest = directives_from 0 (drop c.in-Some.found.end c.args.format.now) in
    let s = get_or (sets_of c.args.format.now) c.in-Some.found.percent empty in
    c.is_integer.ensures
    ∙ sym (
    ap (λ ks. at ks c.loop-found.left) (kinds_next c.args.format.now c.bytes-bytes.result.now c.loop-found.at c.in-Some.found c.bytes-bytes.ensures c.in-Some.ensures)
    ∙ ap (λ (k : Form). at (kinds (formed k s ∷ rest)) c.loop-found.left) c.in-Convert.is
    ∙ ap (λ n. at (kinds (formed (Convert c.in-Convert.conversion) s ∷ rest)) n) c.if-left-eq0.true
    )
    ∙ c.loop-found.invariant.is

pub loop-found-preserved-in-Percent : goal.loop-found-preserved-in-Percent
loop-found-preserved-in-Percent c =
    let rest = directives_from 0 (drop c.in-Some.found.end c.args.format.now) in
    let s = get_or (sets_of c.args.format.now) c.in-Some.found.percent empty in
    record {
      is = sym (
          ap (λ ks. at ks c.loop-found.left) (kinds_next c.args.format.now c.bytes-bytes.result.now c.loop-found.at c.in-Some.found c.bytes-bytes.ensures c.in-Some.ensures)
          ∙ ap (λ (k : Form). at (kinds (formed k s ∷ rest)) c.loop-found.left) c.in-Percent.is
          ) ∙ c.loop-found.invariant.is;
      within = omega (arith, c.in-Some.ensures.within, ap length c.bytes-bytes.ensures, length-bytes_of c.args.format.now);
    }

pub loop-found-preserved : goal.loop-found-preserved
loop-found-preserved c =
    let rest = directives_from 0 (drop c.in-Some.found.end c.args.format.now) in
    let s = get_or (sets_of c.args.format.now) c.in-Some.found.percent empty in
    record {
      is = sym (
          ap (λ ks. at ks c.loop-found.left) (kinds_next c.args.format.now c.bytes-bytes.result.now c.loop-found.at c.in-Some.found c.bytes-bytes.ensures c.in-Some.ensures)
          ∙ ap (λ (k : Form). at (kinds (formed k s ∷ rest)) c.loop-found.left) c.in-Wrong.is
          ) ∙ c.loop-found.invariant.is;
      within = omega (arith, c.in-Some.ensures.within, ap length c.bytes-bytes.ensures, length-bytes_of c.args.format.now);
    }

pub loop-found-preserved-else-left-eq0 : goal.loop-found-preserved-else-left-eq0
loop-found-preserved-else-left-eq0 c =
    let rest = directives_from 0 (drop c.in-Some.found.end c.args.format.now) in
    let s = get_or (sets_of c.args.format.now) c.in-Some.found.percent empty in
    let more : c.loop-found.left ≡ suc (c.loop-found.left - 1) = omega arith in
    record {
      is = sym (
          ap (λ ks. at ks c.loop-found.left) (kinds_next c.args.format.now c.bytes-bytes.result.now c.loop-found.at c.in-Some.found c.bytes-bytes.ensures c.in-Some.ensures)
          ∙ ap (λ (k : Form). at (kinds (formed k s ∷ rest)) c.loop-found.left) c.in-Convert.is
          ∙ ap (λ n. at (kinds (formed (Convert c.in-Convert.conversion) s ∷ rest)) n) more
          ) ∙ c.loop-found.invariant.is;
      within = omega (arith, c.in-Some.ensures.within, ap length c.bytes-bytes.ensures, length-bytes_of c.args.format.now);
    }

pub returns : goal.returns
returns c =
    sym (ap (λ ks. at ks c.loop-found.left) (kinds_last c.args.format.now c.bytes-bytes.result.now c.loop-found.at c.bytes-bytes.ensures c.in_default.ensures)) ∙ c.loop-found.invariant.is

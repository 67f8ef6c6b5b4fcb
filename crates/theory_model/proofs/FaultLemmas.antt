-- Kinds of faults that are judged line by line, and the first line of each.
use Rattle.std.proofs.Common.{◌≡◌, ℕ, zero, suc, ◌+◌, ◌<◌, ◌≤◌, Bool, true, false, cond, List, [], ◌∷◌, ◌++◌, length, get_or, Option, Some, None, refl, sym, ap, ◌∙◌, arith}
use Rattle.std.proofs.lemmas.List.{length-append}
use Rattle.std.specs.Bool.{◌==◌}
use Rattle.theory_meaning.specs.Declarations.{or_else}
use Rattle.theory_meaning.specs.ModelFault.{has_fault, first_that, most_lines}
use Rattle.theory_meaning.specs.declared.words.ModelKind.TheVariants.{UnknownName, BadArgument, NoShift, NotParam, TooManySymbols, TooManyLines}
use Rattle.theory_meaning.specs.Text.{Numbered}
use Rattle.theory_meaning.specs.Tree.{Line, model, var, param, function, equation, assume, claim}
use Rattle.theory_model.specs.Checked.{faults_of, found_first}
use Rattle.theory_model.specs.declared.judging.FirstLines.{FirstLines}

-- the test doesn't look at the lines above
abbrev pub IsByLine : (List Numbered → Line → Bool) → Type 0
IsByLine test = (above : List Numbered) (line : Line) → test above line ≡ test [] line

unknown_by_line : (lines : List Numbered) → IsByLine (has_fault UnknownName lines)
unknown_by_line lines above line = refl

argument_by_line : (lines : List Numbered) → IsByLine (has_fault BadArgument lines)
argument_by_line lines above (model n) = refl
argument_by_line lines above (var x) = refl
argument_by_line lines above (param t) = refl
argument_by_line lines above (function f us) = refl
argument_by_line lines above (equation label u v) = refl
argument_by_line lines above (assume label c) = refl
argument_by_line lines above (claim label shift c) = refl

shift_by_line : (lines : List Numbered) → IsByLine (has_fault NoShift lines)
shift_by_line lines above (model n) = refl
shift_by_line lines above (var x) = refl
shift_by_line lines above (param t) = refl
shift_by_line lines above (function f us) = refl
shift_by_line lines above (equation label u v) = refl
shift_by_line lines above (assume label c) = refl
shift_by_line lines above (claim label None c) = refl
shift_by_line lines above (claim label (Some t) c) = refl

param_by_line : (lines : List Numbered) → IsByLine (has_fault NotParam lines)
param_by_line lines above (model n) = refl
param_by_line lines above (var x) = refl
param_by_line lines above (param t) = refl
param_by_line lines above (function f us) = refl
param_by_line lines above (equation label u v) = refl
param_by_line lines above (assume label c) = refl
param_by_line lines above (claim label None c) = refl
param_by_line lines above (claim label (Some t) c) = refl

symbols_by_line : (lines : List Numbered) → IsByLine (has_fault TooManySymbols lines)
symbols_by_line lines above (model n) = refl
symbols_by_line lines above (var x) = refl
symbols_by_line lines above (param t) = refl
symbols_by_line lines above (function f us) = refl
symbols_by_line lines above (equation label u v) = refl
symbols_by_line lines above (assume label c) = refl
symbols_by_line lines above (claim label shift c) = refl

-- then the first line doesn't depend on the lines above either
first_anywhere : (test : List Numbered → Line → Bool) → IsByLine test → (above ns : List Numbered) → first_that test above ns ≡ first_that test [] ns
first_anywhere test by_line above [] = refl
first_anywhere test by_line above (n ∷ ns) =
    ap (λ t. cond t (Some n.at) (first_that test (above ++ n ∷ []) ns)) (by_line above n.line)
    ∙ ap (cond (test [] n.line) (Some n.at)) (first_anywhere test by_line (above ++ n ∷ []) ns ∙ sym (first_anywhere test by_line ([] ++ n ∷ []) ns))

-- what was found so far, or this line, or the first of the rest
found_next : (test : List Numbered → Line → Bool) → IsByLine test → (first : Option ℕ) (n : Numbered) (ns : List Numbered)
    → or_else (or_else first (cond (test [] n.line) (Some n.at) None)) (first_that test [] ns) ≡ or_else first (first_that test [] (n ∷ ns))
found_next test by_line None n ns =
    by_test (test [] n.line) ∙ ap (cond (test [] n.line) (Some n.at)) (sym (first_anywhere test by_line ([] ++ n ∷ []) ns))
  where
    by_test : (b : Bool) → or_else (cond b (Some n.at) None) (first_that test [] ns) ≡ cond b (Some n.at) (first_that test [] ns)
    by_test true = refl
    by_test false = refl
found_next test by_line (Some x) n ns = refl

-- the first lines so far, or those of the rest
abbrev pub firsts_with : List Numbered → FirstLines → List Numbered → FirstLines
firsts_with lines firsts ns =
    record {
      unknown_name = or_else firsts.unknown_name (first_that (has_fault UnknownName lines) [] ns);
      bad_argument = or_else firsts.bad_argument (first_that (has_fault BadArgument lines) [] ns);
      no_shift = or_else firsts.no_shift (first_that (has_fault NoShift lines) [] ns);
      not_param = or_else firsts.not_param (first_that (has_fault NotParam lines) [] ns);
      too_many_symbols = or_else firsts.too_many_symbols (first_that (has_fault TooManySymbols lines) [] ns);
    }

abbrev firsts_of : Option ℕ → Option ℕ → Option ℕ → Option ℕ → Option ℕ → FirstLines
firsts_of a b c d e = record { unknown_name = a; bad_argument = b; no_shift = c; not_param = d; too_many_symbols = e }

same_firsts : {a a' b b' c c' d d' e e' : Option ℕ} → a ≡ a' → b ≡ b' → c ≡ c' → d ≡ d' → e ≡ e' → firsts_of a b c d e ≡ firsts_of a' b' c' d' e'
same_firsts {a} {a'} {b} {b'} {c} {c'} {d} {d'} {e} {e'} p q r s t =
    ap (λ x. firsts_of x b c d e) p ∙ ap (λ x. firsts_of a' x c d e) q ∙ ap (λ x. firsts_of a' b' x d e) r
    ∙ ap (λ x. firsts_of a' b' c' x e) s ∙ ap (λ x. firsts_of a' b' c' d' x) t

-- one line more
pub firsts_step : (lines : List Numbered) (firsts : FirstLines) (n : Numbered) (ns : List Numbered)
    → firsts_with lines (found_first firsts (faults_of lines n.line) n.at) ns ≡ firsts_with lines firsts (n ∷ ns)
firsts_step lines firsts n ns =
    same_firsts (found_next (has_fault UnknownName lines) (unknown_by_line lines) firsts.unknown_name n ns)
    (found_next (has_fault BadArgument lines) (argument_by_line lines) firsts.bad_argument n ns)
    (found_next (has_fault NoShift lines) (shift_by_line lines) firsts.no_shift n ns)
    (found_next (has_fault NotParam lines) (param_by_line lines) firsts.not_param n ns)
    (found_next (has_fault TooManySymbols lines) (symbols_by_line lines) firsts.too_many_symbols n ns)

-- the test of a number of lines where there are fewer, and where there are as many
fewer : (n : ℕ) → n < most_lines → (n == most_lines) ≡ false
fewer n h = false_from_ne n most_lines (λ (same : n ≡ most_lines). omega (arith, h, same))
  where
    false_from_ne : (a b : ℕ) → ¬ (a ≡ b) → (a == b) ≡ false
    false_from_ne a b ne = grind (arith, ne)

one_more : (above : List Numbered) (n : Numbered) → length (above ++ n ∷ []) ≡ length above + 1
one_more above n = length-append above (n ∷ [])

-- the line past the greatest number of lines
pub none_beyond : (lines above ns : List Numbered) → length above + length ns ≤ most_lines → first_that (has_fault TooManyLines lines) above ns ≡ None
none_beyond lines above [] h = refl
none_beyond lines above (n ∷ ns) h =
    ap (λ t. cond t (Some n.at) (first_that (has_fault TooManyLines lines) (above ++ n ∷ []) ns)) (fewer (length above) (omega (arith, h)))
    ∙ none_beyond lines (above ++ n ∷ []) ns (omega (arith, h, one_more above n))

pub first_beyond : (lines above ns : List Numbered) (i : ℕ) (d : Numbered) → length above + i ≡ most_lines → i < length ns
    → first_that (has_fault TooManyLines lines) above ns ≡ Some (get_or ns i d).at
first_beyond lines above [] i d h k = absurd (omega (arith, k))
first_beyond lines above (n ∷ ns) zero d h k =
    ap (λ t. cond t (Some n.at) (first_that (has_fault TooManyLines lines) (above ++ n ∷ []) ns)) here
  where
    here : (length above == most_lines) ≡ true
    here = grind (arith, h)
first_beyond lines above (n ∷ ns) (suc i) d h k =
    ap (λ t. cond t (Some n.at) (first_that (has_fault TooManyLines lines) (above ++ n ∷ []) ns)) (fewer (length above) (omega (arith, h)))
    ∙ first_beyond lines (above ++ n ∷ []) ns i d (omega (arith, h, one_more above n)) (omega (arith, k))

-- The written sentences of a claim: what a point is to meet as an example, or as a counterexample, in a model with equations.
-- Source: TheoryGuru (Mulligan, Davenport, England, ICMS 2018); the order of the conjuncts is this project's own.
use Rattle.std.specs.Prelude.{List, [], ◌∷◌, ◌++◌, map, Option, Some, None, if◌then◌else◌}
use Rattle.std.specs.Str.{bytes_eq}
use Rattle.theory_meaning.specs.declared.words.Rel.TheVariants.{Eq}
use Rattle.theory_meaning.specs.Declarations.{or_else}
use Rattle.theory_meaning.specs.Edit.{lines_alone}
use Rattle.theory_meaning.specs.Point.{Name}
use Rattle.theory_meaning.specs.Question.{assumptions_of, example_sentence, counter_sentence}
use Rattle.theory_meaning.specs.Text.{Numbered}
use Rattle.theory_meaning.specs.Tree.{Claim, atom, Line, equation, claim}
use Rattle.theory_derivative.specs.Differentiated.{Differentiated, differentiated_by}

-- the equations of lines as claims, in their order
abbrev pub equations_of : List Line → List Claim
equations_of [] = []
equations_of (equation label u v ∷ lines) = atom u Eq v ∷ equations_of lines
equations_of (_ ∷ lines) = equations_of lines

-- the claim that the derivatives of the two sides are equal
abbrev pub equal_derivatives : Differentiated → Claim
equal_derivatives d = atom d.left Eq d.right

-- the equations of a model differentiated along the shift, in the same order; without a shift there are none
abbrev pub shifted_equations : List Numbered → Option Name → List Claim
shifted_equations lines None = []
shifted_equations lines (Some t) = map equal_derivatives (differentiated_by lines t (lines_alone lines))

-- what is asked of a point before the claim: the equations, their derivatives, and the assumptions
abbrev pub asked_before : List Numbered → Option Name → List Claim
asked_before lines shift =
    equations_of (lines_alone lines) ++ (shifted_equations lines shift ++ assumptions_of (lines_alone lines))

-- what an example meets: last the claim
abbrev pub example_of : List Numbered → Option Name → Claim → List Claim
example_of lines shift c = example_sentence (asked_before lines shift) c

-- what a counterexample meets: last the negation of the claim
abbrev pub counter_of : List Numbered → Option Name → Claim → List Claim
counter_of lines shift c = counter_sentence (asked_before lines shift) c

-- the claim under this label and its shift, if the line is that
abbrev pub claim_at : Name → Line → Option (Option Name × Claim)
claim_at label (claim own shift c) = if bytes_eq own label then Some (shift, c) else None
claim_at label _ = None

-- the claim under this label and its shift: the first, where there are several
abbrev pub claim_in : List Numbered → Name → Option (Option Name × Claim)
claim_in [] label = None
claim_in (n ∷ ns) label = or_else (claim_at label n.line) (claim_in ns label)

-- When two formulas are the same tree.
use Rattle.std.specs.Prelude.{Bool, true, false, ◌&&◌, List, [], ◌∷◌}
use Rattle.std.specs.Bool.{beq}
use Rattle.std.specs.Ordering.{int_eq}
use Rattle.std.specs.Str.{bytes_eq}
use Rattle.theory_meaning.specs.declared.words.Sign.TheVariants.{Minus, Zero, Plus}
use Rattle.theory_formula.specs.declared.signs.Signs.{Signs}
use Rattle.theory_formula.specs.Signs.{has}
use Rattle.theory_polynomial.specs.Terms.{Monomial}
use Rattle.theory_formula.specs.Formula.{Formula, Formulas, always, never, atom, conjunction, disjunction, none, more}

-- the same terms in the same order
abbrev pub is_same_poly : List Monomial → List Monomial → Bool
is_same_poly [] [] = true
is_same_poly (t ∷ ts) (u ∷ us) = int_eq t.coefficient u.coefficient && bytes_eq t.powers u.powers && is_same_poly ts us
is_same_poly _ _ = false

-- the same signs
abbrev pub is_same_set : Signs → Signs → Bool
is_same_set S T = beq (has S Minus) (has T Minus) && beq (has S Zero) (has T Zero) && beq (has S Plus) (has T Plus)

-- the same tree, order included
abbrev mutual
  pub is_same : Formula → Formula → Bool
  is_same always always = true
  is_same never never = true
  is_same (atom P S) (atom Q T) = is_same_poly P Q && is_same_set S T
  is_same (conjunction Fs) (conjunction Gs) = are_same Fs Gs
  is_same (disjunction Fs) (disjunction Gs) = are_same Fs Gs
  is_same _ _ = false

  pub are_same : Formulas → Formulas → Bool
  are_same none none = true
  are_same (more F Fs) (more G Gs) = is_same F G && are_same Fs Gs
  are_same _ _ = false

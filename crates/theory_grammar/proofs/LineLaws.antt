-- The machine reads exactly the lines that are spelled.
use Rattle.std.proofs.Common.{◌≡◌, List, [], ◌∷◌, ◌++◌, map, None, Some, refl, sym, ap, ◌∙◌, append_assoc}
use Rattle.std.proofs.lemmas.List.{append-nil}
use Rattle.theory_meaning.specs.declared.words.Rel.TheVariants as rel
use Rattle.theory_meaning.specs.Point.{Name}
use Rattle.theory_meaning.specs.Tree.{Expr, Claim, Line}
use Rattle.theory_meaning.specs.Tree as plain
use Rattle.theory_grammar.specs.Token.{Token, name, relation}
use Rattle.theory_grammar.specs.Spelled.{Limits, IsExpr, IsClaim, IsLine}
use Rattle.theory_grammar.specs.Spelled as rule
use Rattle.theory_grammar.specs.Machine.{State, start, Heading, assumption, assertion, left_of_equation, right_of_equation, step, ended}
use Rattle.theory_grammar.specs.Machine as m
use Rattle.theory_grammar.proofs.Following.{Laws}
use Rattle.theory_grammar.proofs.Agreeing.{agrees}
use Rattle.theory_grammar.proofs.Closing.{closes}
use Rattle.theory_grammar.proofs.Reached.{Reached}
use Rattle.theory_grammar.proofs.SoundLines.{goes, ends_well}
use Rattle.theory_grammar.proofs.Taken.{run, taken}
use Rattle.theory_grammar.proofs.TakenClaims.{taken_claim}

module _ (limits : Limits) where
  take_arguments : (f : Name) (xs ys : List Name) → run limits (m.arguments f ys) (map name xs) ≡ Some (plain.function f (ys ++ xs))
  take_arguments f [] ys = ap (λ (zs : List Name). Some (plain.function f zs)) (sym (append-nil ys))
  take_arguments f (x ∷ xs) ys = take_arguments f xs (ys ++ x ∷ []) ∙ ap (λ (zs : List Name). Some (plain.function f zs)) (append_assoc ys (x ∷ []) xs)

  take_claim : (h : Heading) (ts : List Token) (c : Claim) → IsClaim limits rule.claim 0 ts c → run limits (m.claim_of_line h) ts ≡ Some (m.line_with h c)
  take_claim h ts c u = ap (run limits (m.claim_of_line h)) (sym (append-nil ts)) ∙ taken_claim limits u h [] [] (tt, tt, tt, tt, tt)

  take_right : (label : Name) (x y : Expr) (us : List Token) → IsExpr limits rule.sum 0 us y
      → run limits (m.operand (m.fresh 0) [] (right_of_equation label x)) us ≡ Some (plain.equation label x y)
  take_right label x y us v = ap (run limits (m.operand (m.fresh 0) [] (right_of_equation label x))) (sym (append-nil us))
      ∙ taken limits v [] (right_of_equation label x) [] (tt, tt, tt)

  -- what is spelled as a line is read
  takes : (ts : List Token) (line : Line) → IsLine limits ts line → run limits start ts ≡ Some line
  takes ts line rule.model_line = refl
  takes ts line rule.var_line = refl
  takes ts line rule.param_line = refl
  takes ts line (rule.function_line {f = f} {x = x} {xs = xs}) = take_arguments f xs (x ∷ [])
  takes ts line (rule.equation_line {label = label} {ts = us} {us = vs} {x = x} {y = y} u v) =
      taken limits u [] (left_of_equation label) (relation rel.Eq ∷ vs) (tt, tt, tt) ∙ take_right label x y vs v
  takes ts line (rule.assume_line {label = label} {ts = us} {c = c} u) = take_claim (assumption label) us c u
  takes ts line (rule.claim_line {label = label} {ts = us} {c = c} u) = take_claim (assertion label None) us c u
  takes ts line (rule.shift_line {label = label} {shift = shift} {ts = us} {c = c} u) = take_claim (assertion label (Some shift)) us c u

pub line_laws : Laws IsLine start step ended Reached
line_laws = record {
  begins = λ limits. refl;
  goes = λ limits st t before b. goes limits st t before b;
  ends = λ limits st before line b e. ends_well limits st before line b e;
  takes = λ limits ts line h. takes limits ts line h;
  closes = λ limits st. closes limits st;
  agrees = agrees;
}

use Rattle.theory_subst.proofs.MemberLemmas.{IsLeft}
use Rattle.theory_subst.proofs.top_equation.first.Given as goal

abbrev pub invariant-loop-place : goal.invariant-loop-place
invariant-loop-place l = IsLeft l.x l.plain l.members l.place

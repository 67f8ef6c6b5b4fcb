-- What is told of a part from one state is told from each that reads the same.
use Rattle.std.proofs.Common.{◌≡◌, suc, ◌≤◌, List, [], ◌∷◌, length, All, Result, Ok, Err, sym, ap, subst, ◌∙◌, arith}
use Rattle.std.specs.Borrow.{Bor}
use Rattle.std.specs.Result.{IsErrAnd}
use Rattle.std.proofs.lemmas.List.{length-map}
use Rattle.theory_grammar.specs.Token as plain
use Rattle.theory_meaning.specs.Tree.{Expr}
use Rattle.theory_grammar.specs.Scan.{IsFit}
use Rattle.theory_line.specs.Exprs.{Answer, PutTogether}
use Rattle.theory_line.specs.Reading.{Reading, Parses, LeavesFit}
use Rattle.theory_syntax.specs.Plain.{expr_of}
use Rattle.theory_line.specs.declared.fault.ParseFault.{ParseFault}
use Rattle.theory_line.specs.declared.fault.ParseFault.TheVariants.{At, Memory}
use Rattle.theory_tokens.specs.declared.token.Token.{Token}
use Rattle.theory_tokens.specs.Plain.{plain_token, plain_tokens}

-- tokens behind one are one fewer
pub one_fewer : (t : plain.Token) (ts us : List Token) → plain_tokens us ≡ t ∷ plain_tokens ts → length us ≡ suc (length ts)
one_fewer t ts us is = sym (length-map us plain_token) ∙ ap length is ∙ ap suc (length-map ts plain_token)

-- from a state that reads the same, with no fewer tokens
pub told_from : {V T : Type 0} (tree : V → T) (from there : Reading) (behind : T → List plain.Token → Reading) (tokens fewer : List Token)
    (result : Result (V × Bor (List Token)) ParseFault) → from ≡ there → length fewer ≤ length tokens → Parses tree there behind fewer result
    → Parses tree from behind tokens result
told_from tree from there behind tokens fewer (Ok (v, rest)) same less told = (same ∙ told.0, omega (arith, less, told.1))
told_from tree from there behind tokens fewer (Err (At kind left)) same less told = same ∙ told
told_from tree from there behind tokens fewer (Err Memory) same less told = tt

-- what is told by a fault, which says nothing of what stands behind
abbrev Stops : {V T : Type 0} → (V → T) → Reading → ParseFault → Type 0
Stops tree from fault = Parses tree from (λ x rest. from) [] (Err fault)

-- a fault of a part is one of the whole
fault_from : {V T : Type 0} (tree : V → T) (from there : Reading) (behind : T → List plain.Token → Reading) (tokens : List Token) (fault : ParseFault)
    → from ≡ there → Stops tree there fault → Parses tree from behind tokens (Err fault)
fault_from tree from there behind tokens (At kind left) same told = same ∙ told
fault_from tree from there behind tokens Memory same told = tt

-- also where it is passed on
pub fault_passed : {V T : Type 0} (tree : V → T) (from there : Reading) (behind : T → List plain.Token → Reading) (tokens : List Token) (fault : ParseFault)
    (result : Result (V × Bor (List Token)) ParseFault) → IsErrAnd result (λ e. e ≡ fault) → from ≡ there → Stops tree there fault
    → Parses tree from behind tokens result
fault_passed tree from there behind tokens fault (Ok p) is same told = absurd is
fault_passed tree from there behind tokens fault (Err e) is same told =
    fault_from tree from there behind tokens e same (subst (Stops tree there) (sym is) told)

-- what a part and the one put to it tell of the whole
pub put_together : (f : Expr → Expr) (from there : Reading) (behind : Expr → List plain.Token → Reading) (tokens fewer : List Token) (next result : Answer)
    → from ≡ there → length fewer ≤ length tokens → Parses expr_of there (λ y rest. behind (f y) rest) fewer next → PutTogether f next result
    → Parses expr_of from behind tokens result
put_together f from there behind tokens fewer (Ok (y, left)) (Ok (z, rest)) same less told put =
    let as_long : length rest.now ≡ length left.now = ap (λ (ts : Bor (List Token)). length ts.now) put.1 in (
      same ∙ told.0 ∙ ap (λ (x : Expr). behind x (plain_tokens left.now)) (sym put.0)
          ∙ ap (λ (ts : Bor (List Token)). behind (expr_of z) (plain_tokens ts.now)) (sym put.1),
      omega (arith, less, told.1, as_long),
    )
put_together f from there behind tokens fewer (Ok (y, left)) (Err (At kind n)) same less told put = absurd cc
put_together f from there behind tokens fewer (Ok (y, left)) (Err Memory) same less told put = tt
put_together f from there behind tokens fewer (Err fault) (Ok (z, rest)) same less told put = absurd put
put_together f from there behind tokens fewer (Err fault) (Err passed) same less told put =
    fault_from expr_of from there behind tokens passed same (subst (Stops expr_of there) (sym put) told)

pub put_fit : (f : Expr → Expr) (next result : Answer) → PutTogether f next result → LeavesFit next → LeavesFit result
put_fit f (Ok (y, left)) (Ok (z, rest)) put fit = subst (λ (ts : Bor (List Token)). All IsFit (plain_tokens ts.now)) (sym put.1) fit
put_fit f next (Err fault) put fit = tt
put_fit f (Err fault) (Ok (z, rest)) put fit = absurd put

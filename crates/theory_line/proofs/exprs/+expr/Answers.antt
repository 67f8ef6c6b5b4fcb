use Rattle.std.proofs.Common.{◌≡◌, ℕ, suc, ◌+◌, [], ◌∷◌, length, Ok, Err, refl, sym, ap, subst, ◌∙◌, arith}
use Rattle.theory_grammar.specs.Token as plain
use Rattle.theory_grammar.specs.declared.words.Mark.TheVariants as sign
use Rattle.theory_grammar.specs.Machine.{alone, joined, fresh, opposed, times, over, left_of_equation, Context, operand, divisor, closed, term, factored}
use Rattle.theory_meaning.specs.Tree as tree
use Rattle.theory_line.specs.declared.front.Multiplication.{Multiplication}
use Rattle.theory_line.specs.Reading.{reading, Parses}
use Rattle.theory_line.specs.Behind.{in_sum, behind_term, behind_expr}
use Rattle.theory_line.specs.Exprs.{over_mark, summed, multiplied, wanted}
use Rattle.theory_syntax.specs.Plain.{expr_of}
use Rattle.theory_tokens.specs.declared.token.Token.{Token}
use Rattle.theory_tokens.specs.declared.token.Token.TheVariants.{Mark}
use Rattle.theory_tokens.specs.Plain.{plain_tokens}
use Rattle.theory_line.proofs.ExprLemmas.{sum_step, product_step, as_divisor, primary_ends, minus_opens, bracket_opens, literal_fit, bracket_closes, closes_fit}
use Rattle.theory_line.proofs.FitLemmas.{fit_behind, fit_rest, fit_first, fit_literal}
use Rattle.theory_line.proofs.ParsesLemmas.{one_fewer, told_from, fault_passed, put_together, put_fit}
use Rattle.theory_line.proofs.exprs.+expr.Goals as goal

-- any context
some_context : Context
some_context = left_of_equation []

pub expr-returns-in_err-all-clause-parses : goal.expr-returns-in_err-all-clause-parses
expr-returns-in_err-all-clause-parses t c = λ o ctx.
    fault_passed expr_of _ _ (λ x rest. behind_expr x o ctx rest) c.args.tokens.now c.in_err-all.field-0.0
    c.from_residual.result c.from_residual.ensures.1 refl (c.in_err-all.ensures.parses alone o ctx)

pub expr-loop-how-init : goal.expr-loop-how-init
expr-loop-how-init t c = record {
  read = λ o ctx. (c.in_ok-all.ensures.parses alone o ctx).0;
  shorter = (c.in_ok-all.ensures.parses alone [] some_context).1;
  fit = c.in_ok-all.ensures.fit;
}

pub expr-term-next-requires : goal.expr-term-next-requires
expr-term-next-requires t c =
    let fewer = one_fewer _ c.in-Some.behind.now c.loop-how.rest.now c.in-Some.ensures in
    let fit = fit_behind _ _ _ c.in-Some.ensures c.loop-how.invariant.fit in
    (omega (arith, c.decreases, fewer, c.loop-how.invariant.shorter), (c.requires.open, fit))

pub expr-returns-in_err-longer-clause-parses : goal.expr-returns-in_err-longer-clause-parses
expr-returns-in_err-longer-clause-parses t c = λ o ctx.
    let x = expr_of c.loop-how.all in
    fault_passed expr_of _ _ (λ y rest. behind_expr y o ctx rest) c.args.tokens.now c.in_err-longer.field-0.0
    c.from_residual-in_err-longer.result c.from_residual-in_err-longer.ensures.1 (c.loop-how.invariant.read o ctx)
    (sum_step c.in-Some.how x c.args.depth o ctx c.loop-how.rest.now c.in-Some.behind.now c.term-next.result
    (Err c.in_err-longer.field-0.0) c.in-Some.ensures c.term-next.ensures.parses c.in_err-longer.ensures)

pub expr-loop-how-smaller : goal.expr-loop-how-smaller
expr-loop-how-smaller t c =
    let x = expr_of c.loop-how.all in
    let step = sum_step c.in-Some.how x c.args.depth [] some_context c.loop-how.rest.now c.in-Some.behind.now c.term-next.result
    (Ok (c.in_ok-longer.longer, c.in_ok-longer.left_over)) c.in-Some.ensures c.term-next.ensures.parses c.in_ok-longer.ensures in
    omega (arith, step.1)

pub expr-loop-how-preserved : goal.expr-loop-how-preserved
expr-loop-how-preserved t c =
    let x = expr_of c.loop-how.all in
    let fewer = (sum_step c.in-Some.how x c.args.depth [] some_context c.loop-how.rest.now c.in-Some.behind.now c.term-next.result
    (Ok (c.in_ok-longer.longer, c.in_ok-longer.left_over)) c.in-Some.ensures c.term-next.ensures.parses c.in_ok-longer.ensures).1 in
    record {
      read = λ o ctx. c.loop-how.invariant.read o ctx
          ∙ (sum_step c.in-Some.how x c.args.depth o ctx c.loop-how.rest.now c.in-Some.behind.now c.term-next.result
          (Ok (c.in_ok-longer.longer, c.in_ok-longer.left_over)) c.in-Some.ensures c.term-next.ensures.parses c.in_ok-longer.ensures).0;
      shorter = omega (arith, c.loop-how.invariant.shorter, fewer);
      fit = put_fit (summed c.in-Some.how x) c.term-next.result (Ok (c.in_ok-longer.longer, c.in_ok-longer.left_over))
          c.in_ok-longer.ensures c.term-next.ensures.fit;
    }

pub term-returns-in_err-all-clause-parses : goal.term-returns-in_err-all-clause-parses
term-returns-in_err-all-clause-parses t c = λ s o ctx.
    let p = in_sum s c.args.depth in
    fault_passed expr_of _ _ (λ y rest. behind_term (joined s y) c.args.depth o ctx rest) c.args.tokens.now c.in_err-all.field-0.0
    c.from_residual.result c.from_residual.ensures.1 refl (c.in_err-all.ensures.parses p o ctx refl)

pub term-loop-how-init : goal.term-loop-how-init
term-loop-how-init t c = record {
  read = λ s o ctx. (c.in_ok-all.ensures.parses (in_sum s c.args.depth) o ctx refl).0;
  shorter = (c.in_ok-all.ensures.parses (fresh c.args.depth) [] some_context refl).1;
  fit = c.in_ok-all.ensures.fit;
}

pub term-next_factor-next-requires : goal.term-next_factor-next-requires
term-next_factor-next-requires t c =
    let fewer = one_fewer _ c.in-Some.behind.now c.loop-how.rest.now c.in-Some.ensures in
    let fit = fit_behind _ _ _ c.in-Some.ensures c.loop-how.invariant.fit in
    (omega (arith, c.decreases, fewer, c.loop-how.invariant.shorter), (c.requires.open, fit))

pub term-returns-in_err-longer-clause-parses : goal.term-returns-in_err-longer-clause-parses
term-returns-in_err-longer-clause-parses t c = λ s o ctx.
    let x = expr_of c.loop-how.all in
    fault_passed expr_of _ _ (λ y rest. behind_term (joined s y) c.args.depth o ctx rest) c.args.tokens.now c.in_err-longer.field-0.0
    c.from_residual-in_err-longer.result c.from_residual-in_err-longer.ensures.1 (c.loop-how.invariant.read s o ctx)
    (product_step c.in-Some.how x s c.args.depth o ctx c.loop-how.rest.now c.in-Some.behind.now c.next_factor-next.result
    (Err c.in_err-longer.field-0.0) c.in-Some.ensures c.next_factor-next.ensures.parses c.in_err-longer.ensures)

pub term-loop-how-smaller : goal.term-loop-how-smaller
term-loop-how-smaller t c =
    let x = expr_of c.loop-how.all in
    let step = product_step c.in-Some.how x alone c.args.depth [] some_context c.loop-how.rest.now c.in-Some.behind.now c.next_factor-next.result
    (Ok (c.in_ok-longer.longer, c.in_ok-longer.left_over)) c.in-Some.ensures c.next_factor-next.ensures.parses c.in_ok-longer.ensures in
    omega (arith, step.1)

pub term-loop-how-preserved : goal.term-loop-how-preserved
term-loop-how-preserved t c =
    let x = expr_of c.loop-how.all in
    let fewer = (product_step c.in-Some.how x alone c.args.depth [] some_context c.loop-how.rest.now c.in-Some.behind.now c.next_factor-next.result
    (Ok (c.in_ok-longer.longer, c.in_ok-longer.left_over)) c.in-Some.ensures c.next_factor-next.ensures.parses c.in_ok-longer.ensures).1 in
    record {
      read = λ s o ctx. c.loop-how.invariant.read s o ctx
          ∙ (product_step c.in-Some.how x s c.args.depth o ctx c.loop-how.rest.now c.in-Some.behind.now c.next_factor-next.result
          (Ok (c.in_ok-longer.longer, c.in_ok-longer.left_over)) c.in-Some.ensures c.next_factor-next.ensures.parses c.in_ok-longer.ensures).0;
      shorter = omega (arith, c.loop-how.invariant.shorter, fewer);
      fit = put_fit (multiplied c.in-Some.how x) c.next_factor-next.result (Ok (c.in_ok-longer.longer, c.in_ok-longer.left_over))
          c.in_ok-longer.ensures c.next_factor-next.ensures.fit;
    }

pub next_factor-returns-in-Times-clause-parses : goal.next_factor-returns-in-Times-clause-parses
next_factor-returns-in-Times-clause-parses t c = λ x s o ctx.
    let p = in_sum s c.args.depth in
    subst (λ (how : Multiplication). Parses expr_of (reading (wanted how x p o ctx) (plain_tokens c.args.tokens.now))
    (λ y rest. reading (term (multiplied how x y) p o ctx) rest) c.args.tokens.now c.factor.result)
    (sym c.in-Times.is) (c.factor.ensures.parses (times x p) o ctx refl)

pub next_factor-returns-in-Over-clause-parses : goal.next_factor-returns-in-Over-clause-parses
next_factor-returns-in-Over-clause-parses t c = λ x s o ctx.
    let p = in_sum s c.args.depth in
    subst (λ (how : Multiplication). Parses expr_of (reading (wanted how x p o ctx) (plain_tokens c.args.tokens.now))
    (λ y rest. reading (term (multiplied how x y) p o ctx) rest) c.args.tokens.now c.divisor.result)
    (sym c.in-Over.is) (c.divisor.ensures.parses (over x p) o ctx refl)

pub factor-negated-requires : goal.factor-negated-requires
factor-negated-requires t c =
    let fewer = one_fewer _ c.in-Some.behind.now c.args.tokens.now c.in-Some.ensures in
    let fit = fit_behind _ _ _ c.in-Some.ensures c.requires.fit in
    (omega (arith, c.decreases, fewer), (omega arith, fit))

pub factor-returns-then-depth-lt-MOST_OPEN-clause-parses :
    goal.factor-returns-then-depth-lt-MOST_OPEN-clause-parses
factor-returns-then-depth-lt-MOST_OPEN-clause-parses t c = λ p o ctx at.
    let behind = c.in-Some.behind.now in
    let fewer = one_fewer _ behind c.args.tokens.now c.in-Some.ensures in
    let one_more : suc p.depth ≡ c.args.depth + 1 = omega (arith, at) in
    told_from expr_of _ _ (λ x rest. reading (factored x p o ctx) rest) c.args.tokens.now behind c.negated.result
    (ap (reading (operand p o ctx)) c.in-Some.ensures ∙ minus_opens p o ctx (plain_tokens behind) (omega (arith, at))) (omega (arith, fewer))
    (c.negated.ensures.parses p o ctx one_more)

pub factor-fraction-requires-clause-below : goal.factor-fraction-requires-clause-below
factor-fraction-requires-clause-below t c =
    (fit_literal _ over_mark c.in-Some-literal.below (plain_tokens c.in-Some-literal.rest.now) _ c.in-Some-literal.ensures c.requires.fit).0

pub factor-returns-in-Some-literal-clause-fit : goal.factor-returns-in-Some-literal-clause-fit
factor-returns-in-Some-literal-clause-fit t c =
    literal_fit c.in-Some-literal.above c.in-Some-literal.below c.in-Some-literal.rest.now c.fraction.result c.fraction.ensures
    (fit_literal _ over_mark c.in-Some-literal.below (plain_tokens c.in-Some-literal.rest.now) _ c.in-Some-literal.ensures c.requires.fit).1

pub factor-returns-in-None-clause-parses : goal.factor-returns-in-None-clause-parses
factor-returns-in-None-clause-parses t c = λ p o ctx at.
    told_from expr_of _ _ (λ x rest. reading (factored x p o ctx) rest) c.args.tokens.now c.args.tokens.now c.divisor.result
    (as_divisor p o ctx (plain_tokens c.args.tokens.now) c.in_default.ensures c.in-None.ensures) (omega arith)
    (c.divisor.ensures.parses p o ctx at)

pub negated-returns-clause-parses : goal.negated-returns-clause-parses
negated-returns-clause-parses t c = λ p o ctx at.
    put_together tree.opposite _ _ (λ x rest. reading (factored x p o ctx) rest) c.args.tokens.now c.args.tokens.now c.factor.result
    c.opposite.result refl (omega arith) (c.factor.ensures.parses (opposed p) o ctx at) c.opposite.ensures

pub negated-returns-clause-fit : goal.negated-returns-clause-fit
negated-returns-clause-fit t c = put_fit tree.opposite c.factor.result c.opposite.result c.opposite.ensures c.factor.ensures.fit

pub divisor-returns-in_err-base-clause-parses : goal.divisor-returns-in_err-base-clause-parses
divisor-returns-in_err-base-clause-parses t c = λ p o ctx at.
    fault_passed expr_of _ _ (λ x rest. reading (factored x p o ctx) rest) c.args.tokens.now c.in_err-base.field-0.0
    c.from_residual.result c.from_residual.ensures.1 refl (c.in_err-base.ensures.parses p o ctx at)

pub divisor-returns-in-Some-clause-parses : goal.divisor-returns-in-Some-clause-parses
divisor-returns-in-Some-clause-parses t c = λ p o ctx at.
    let x = expr_of c.in_ok-base.base in
    let behind = c.in-Some.behind.now in
    let told = c.in_ok-base.ensures.parses p o ctx at in
    let fewer = one_fewer _ behind c.in_ok-base.rest.now c.in-Some.ensures in
    told_from expr_of _ _ (λ y rest. reading (factored y p o ctx) rest) c.args.tokens.now behind c.raised.result
    (told.0 ∙ ap (reading (closed x p o ctx)) c.in-Some.ensures) (omega (arith, fewer, told.1))
    (c.raised.ensures.parses p o ctx)

pub divisor-returns-in-None-clause-parses : goal.divisor-returns-in-None-clause-parses
divisor-returns-in-None-clause-parses t c = λ p o ctx at.
    let told = c.in_ok-base.ensures.parses p o ctx at in
    (told.0 ∙ primary_ends (expr_of c.in_ok-base.base) p o ctx (plain_tokens c.in_ok-base.rest.now) c.in-None.ensures, told.1)

pub divisor-raised-requires : goal.divisor-raised-requires
divisor-raised-requires t c = record { fit = fit_behind _ _ _ c.in-Some.ensures c.in_ok-base.ensures.fit }

pub primary-bracketed-requires : goal.primary-bracketed-requires
primary-bracketed-requires t c =
    let found = c.in-Some-Mark-Open-default in
    let fewer : length c.args.tokens.now ≡ suc (length found.behind.now) = ap length found.ensures in
    (omega (arith, c.decreases, fewer), (omega arith, fit_rest found.field-0-0 found.behind.now c.args.tokens.now found.ensures c.requires.fit))

pub primary-whole_number-requires : goal.primary-whole_number-requires
primary-whole_number-requires t c =
    let found = c.in-Some-Number-default in
    fit_first found.number found.field-0-0 found.rest.now c.args.tokens.now found.field-0-0-is found.ensures c.requires.fit

pub primary-returns-in-Some-Number-default-clause-fit :
    goal.primary-returns-in-Some-Number-default-clause-fit
primary-returns-in-Some-Number-default-clause-fit t c =
    let found = c.in-Some-Number-default in
    fit_rest found.field-0-0 found.rest.now c.args.tokens.now found.ensures c.requires.fit

pub primary-returns-in_ok-symbol-in-Some-Name-default-clause-fit :
    goal.primary-returns-in_ok-symbol-in-Some-Name-default-clause-fit
primary-returns-in_ok-symbol-in-Some-Name-default-clause-fit t c =
    let found = c.in-Some-Name-default in
    fit_rest found.field-0-0 found.rest.now c.args.tokens.now found.ensures c.requires.fit

pub primary-returns-in_ok-symbol-in-Some-Dotted-default-clause-fit :
    goal.primary-returns-in_ok-symbol-in-Some-Dotted-default-clause-fit
primary-returns-in_ok-symbol-in-Some-Dotted-default-clause-fit t c =
    let found = c.in-Some-Dotted-default in
    fit_rest found.field-0-0 found.rest.now c.args.tokens.now found.ensures c.requires.fit

pub primary-returns-then-depth-lt-MOST_OPEN-clause-parses :
    goal.primary-returns-then-depth-lt-MOST_OPEN-clause-parses
primary-returns-then-depth-lt-MOST_OPEN-clause-parses t c = λ p o ctx at.
    let found = c.in-Some-Mark-Open-default in
    let behind = found.behind.now in
    let fewer : length c.args.tokens.now ≡ suc (length behind) = ap length found.ensures in
    let is : plain_tokens c.args.tokens.now ≡ plain.mark sign.Open ∷ plain_tokens behind =
    ap plain_tokens (found.ensures ∙ ap (λ (x : Token). x ∷ behind) (found.field-0-0-is ∙ ap Mark found.field-0-0-0-is)) in
    let one_more : suc p.depth ≡ c.args.depth + 1 = omega (arith, at) in
    told_from expr_of _ _ (λ x rest. reading (closed x p o ctx) rest) c.args.tokens.now behind c.bracketed.result
    (ap (reading (divisor p o ctx)) is ∙ bracket_opens p o ctx (plain_tokens behind) (omega (arith, at))
    ∙ ap (λ (d : ℕ). reading (operand (fresh d) (p ∷ o) ctx) (plain_tokens behind)) one_more)
    (omega (arith, fewer)) (c.bracketed.ensures.parses p o ctx)

pub bracketed-returns-clause-parses : goal.bracketed-returns-clause-parses
bracketed-returns-clause-parses t c = λ p o ctx.
    bracket_closes _ p o ctx c.args.tokens.now c.expr.result c.closed.result (c.expr.ensures.parses (p ∷ o) ctx) c.closed.ensures

pub bracketed-returns-clause-fit : goal.bracketed-returns-clause-fit
bracketed-returns-clause-fit t c = closes_fit c.expr.result c.closed.result c.closed.ensures c.expr.ensures.fit

use Rattle.std.proofs.Common.{◌<◌, List, [], ◌∷◌, ◌++◌, reverse, ap, ◌∙◌, arith}
use Rattle.theory_grammar.specs.declared.words.Keyword.TheVariants as word
use Rattle.theory_grammar.specs.declared.words.Mark.TheVariants as sign
use Rattle.theory_grammar.specs.Token.{keyword, mark}
use Rattle.theory_syntax.specs.declared.claim.Claim.{Claim}
use Rattle.theory_syntax.specs.Plain.{claims_of}
use Rattle.theory_tokens.specs.Plain.{plain_tokens}
use Rattle.theory_line.proofs.ParsesLaws.{fit_behind}
use Rattle.theory_line.proofs.ChainLaws as chain
use Rattle.theory_line.proofs.SideLaws as law
use Rattle.theory_line.proofs.claims.+claims.Goals as goal

pub bracketed-returns-in_err-inner-clause-parses : goal.bracketed-returns-in_err-inner-clause-parses
bracketed-returns-in_err-inner-clause-parses t c =
    law.stop_inner c.args.depth c.args.tokens.now c.in_err-inner.field-0.0 c.from_residual.result c.from_residual.ensures c.in_err-inner.ensures.parses

pub bracketed-returns-in-Some-clause-parses : goal.bracketed-returns-in-Some-clause-parses
bracketed-returns-in-Some-clause-parses t c =
    law.closed c.args.depth c.args.tokens.now c.in_ok-inner.rest c.in-Some.behind c.in_ok-inner.inner c.in_ok-inner.ensures.parses c.in-Some.ensures

pub bracketed-returns-in-Some-clause-fit : goal.bracketed-returns-in-Some-clause-fit
bracketed-returns-in-Some-clause-fit t c =
    fit_behind (plain_tokens c.in_ok-inner.rest.now) (plain_tokens c.in-Some.behind.now) (mark sign.CloseSquare) c.in-Some.ensures c.in_ok-inner.ensures.fit

pub claim-returns-in_err-left-clause-parses : goal.claim-returns-in_err-left-clause-parses
claim-returns-in_err-left-clause-parses t c =
    law.stop_left c.args.depth c.args.tokens.now c.in_err-left.field-0.0 c.from_residual.result c.from_residual.ensures c.in_err-left.ensures.parses

pub claim-side-requires-in-Some : goal.claim-side-requires-in-Some
claim-side-requires-in-Some t c = (
  omega (arith, c.decreases),
  (
    c.requires.open,
    fit_behind (plain_tokens c.in_ok-left.rest.now) (plain_tokens c.in-Some.behind.now) (keyword word.Iff) c.in-Some.ensures c.in_ok-left.ensures.fit,
  ),
)

pub claim-returns-in_err-right-in-Some-clause-parses : goal.claim-returns-in_err-right-in-Some-clause-parses
claim-returns-in_err-right-in-Some-clause-parses t c =
    law.stop_right c.args.depth c.args.tokens.now c.in_ok-left.rest c.in-Some.behind.now c.in_ok-left.left c.in_err-right-in-Some.field-0.0
    c.from_residual-in_err-right-in-Some.result c.in_ok-left.ensures.parses c.in-Some.ensures c.from_residual-in_err-right-in-Some.ensures
    c.in_err-right-in-Some.ensures.parses

pub claim-returns-in_ok-equivalence-in-Some-clause-parses : goal.claim-returns-in_ok-equivalence-in-Some-clause-parses
claim-returns-in_ok-equivalence-in-Some-clause-parses t c =
    law.both_sides c.args.depth c.args.tokens.now c.in_ok-left.rest c.in-Some.behind.now c.in_ok-right-in-Some.rest c.in_ok-left.left
    c.in_ok-right-in-Some.right _ c.in_ok-left.ensures.parses c.in-Some.ensures c.in_ok-right-in-Some.ensures.parses c.in_ok-equivalence-in-Some.ensures

pub claim-returns-in-None-clause-parses : goal.claim-returns-in-None-clause-parses
claim-returns-in-None-clause-parses t c =
    law.one_side c.args.depth c.args.tokens.now c.in_ok-left.rest c.in_ok-left.left c.in_ok-left.ensures.parses c.in-None.ensures

pub conjunct-returns-in_err-inner-clause-parses : goal.conjunct-returns-in_err-inner-clause-parses
conjunct-returns-in_err-inner-clause-parses t c =
    let few : c.args.depth < 32 = omega arith in
    law.stop_negation c.args.depth c.args.tokens.now c.in-Some-behind_keyword-2.rest.now c.in_err-inner.field-0.0 c.from_residual.result
    c.in-Some-behind_keyword-2.ensures few c.from_residual.ensures c.in_err-inner.ensures.parses

pub conjunct-returns-in-Some-behind_keyword-2-clause-parses : goal.conjunct-returns-in-Some-behind_keyword-2-clause-parses
conjunct-returns-in-Some-behind_keyword-2-clause-parses t c =
    let few : c.args.depth < 32 = omega arith in
    law.negated c.args.depth c.args.tokens.now c.in-Some-behind_keyword-2.rest.now c.in_ok-inner.rest c.in_ok-inner.inner c.in_ok-negation.field-0
    c.in-Some-behind_keyword-2.ensures few c.in_ok-inner.ensures.parses c.in_ok-negation.ensures

pub conjunct-bracketed-requires : goal.conjunct-bracketed-requires
conjunct-bracketed-requires t c = (
  omega (arith, c.decreases),
  (
    omega arith,
    fit_behind (plain_tokens c.args.tokens.now) (plain_tokens c.in-Some-behind_mark.rest.now) (mark sign.OpenSquare) c.in-Some-behind_mark.ensures
        c.requires.fit,
  ),
)

pub conjunct-returns-in-Some-behind_mark-clause-parses : goal.conjunct-returns-in-Some-behind_mark-clause-parses
conjunct-returns-in-Some-behind_mark-clause-parses t c =
    let few : c.args.depth < 32 = omega arith in
    law.bracket_first c.args.depth c.args.tokens.now c.in-Some-behind_mark.rest.now c.bracketed.result c.in-Some-behind_mark.ensures few
    c.bracketed.ensures.parses

pub disjunct-returns-in_err-first-clause-parses : goal.disjunct-returns-in_err-first-clause-parses
disjunct-returns-in_err-first-clause-parses t c =
    chain.stop_first_conjunct c.args.depth c.args.tokens.now c.in_err-first.field-0.0 c.from_residual.result c.from_residual.ensures
    c.in_err-first.ensures.parses

pub disjunct-loop-behind-init : goal.disjunct-loop-behind-init
disjunct-loop-behind-init t c =
    chain.first_conjunct c.args.depth c.args.tokens.now c.in_ok-first.rest c.in_ok-first.first c.keep.new.claims.items c.in_ok-first.ensures.parses
    c.in_ok-first.ensures.fit (c.in_ok-keep.ensures ∙ ap (λ (cs : List Claim). cs ++ c.in_ok-first.first ∷ []) c.new-members.ensures.items)

pub disjunct-conjunct-requires-in-Some : goal.disjunct-conjunct-requires-in-Some
disjunct-conjunct-requires-in-Some t c = (
  omega (arith, c.decreases),
  (
    c.requires.open,
    fit_behind (plain_tokens c.loop-behind.rest.now) (plain_tokens c.in-Some.behind.now) (keyword word.And) c.in-Some.ensures c.loop-behind.invariant.fit,
  ),
)

pub disjunct-returns-in_err-member-clause-parses : goal.disjunct-returns-in_err-member-clause-parses
disjunct-returns-in_err-member-clause-parses t c =
    chain.stop_next_conjunct c.args.depth c.args.tokens.now c.loop-behind.rest.now c.in-Some.behind.now (claims_of c.loop-behind.members.items)
    c.in_err-member.field-0.0 c.from_residual-in_err-member.result c.loop-behind.invariant c.in-Some.ensures c.from_residual-in_err-member.ensures
    c.in_err-member.ensures.parses

pub disjunct-loop-behind-smaller : goal.disjunct-loop-behind-smaller
disjunct-loop-behind-smaller t c = chain.fewer_behind_conjunct c.args.depth c.loop-behind.rest.now c.in-Some.behind.now c.in_ok-member.left
    c.in_ok-member.member
    c.in-Some.ensures c.in_ok-member.ensures.parses

pub disjunct-loop-behind-preserved : goal.disjunct-loop-behind-preserved
disjunct-loop-behind-preserved t c =
    chain.next_of_conjuncts c.args.depth c.args.tokens.now c.loop-behind.rest.now c.in-Some.behind.now c.in_ok-member.left c.in_ok-member.member
    c.loop-behind.members.items c.keep-in-Some.new.claims.items c.loop-behind.invariant c.in-Some.ensures c.in_ok-member.ensures.parses
    c.in_ok-member.ensures.fit c.in_ok-keep-2.ensures

pub premise-returns-in_err-first-clause-parses : goal.premise-returns-in_err-first-clause-parses
premise-returns-in_err-first-clause-parses t c =
    chain.stop_first_disjunct c.args.depth c.args.tokens.now c.in_err-first.field-0.0 c.from_residual.result c.from_residual.ensures
    c.in_err-first.ensures.parses

pub premise-loop-behind-init : goal.premise-loop-behind-init
premise-loop-behind-init t c =
    chain.first_disjunct c.args.depth c.args.tokens.now c.in_ok-first.rest c.in_ok-first.first c.keep.new.claims.items c.in_ok-first.ensures.parses
    c.in_ok-first.ensures.fit (c.in_ok-keep.ensures ∙ ap (λ (cs : List Claim). cs ++ c.in_ok-first.first ∷ []) c.new-members.ensures.items)

pub premise-disjunct-requires-in-Some : goal.premise-disjunct-requires-in-Some
premise-disjunct-requires-in-Some t c = (
  omega (arith, c.decreases),
  (
    c.requires.open,
    fit_behind (plain_tokens c.loop-behind.rest.now) (plain_tokens c.in-Some.behind.now) (keyword word.Or) c.in-Some.ensures c.loop-behind.invariant.fit,
  ),
)

pub premise-returns-in_err-member-clause-parses : goal.premise-returns-in_err-member-clause-parses
premise-returns-in_err-member-clause-parses t c =
    chain.stop_next_disjunct c.args.depth c.args.tokens.now c.loop-behind.rest.now c.in-Some.behind.now (claims_of c.loop-behind.members.items)
    c.in_err-member.field-0.0 c.from_residual-in_err-member.result c.loop-behind.invariant c.in-Some.ensures c.from_residual-in_err-member.ensures
    c.in_err-member.ensures.parses

pub premise-loop-behind-smaller : goal.premise-loop-behind-smaller
premise-loop-behind-smaller t c = chain.fewer_behind_disjunct c.args.depth c.loop-behind.rest.now c.in-Some.behind.now c.in_ok-member.left c.in_ok-member.member
    c.in-Some.ensures c.in_ok-member.ensures.parses

pub premise-loop-behind-preserved : goal.premise-loop-behind-preserved
premise-loop-behind-preserved t c =
    chain.next_of_disjuncts c.args.depth c.args.tokens.now c.loop-behind.rest.now c.in-Some.behind.now c.in_ok-member.left c.in_ok-member.member
    c.loop-behind.members.items c.keep-in-Some.new.claims.items c.loop-behind.invariant c.in-Some.ensures c.in_ok-member.ensures.parses
    c.in_ok-member.ensures.fit c.in_ok-keep-2.ensures

pub side-returns-in_err-first-clause-parses : goal.side-returns-in_err-first-clause-parses
side-returns-in_err-first-clause-parses t c =
    chain.stop_first_premise c.args.depth c.args.tokens.now c.in_err-first.field-0.0 c.from_residual.result c.from_residual.ensures
    c.in_err-first.ensures.parses

pub side-loop-behind-init : goal.side-loop-behind-init
side-loop-behind-init t c =
    chain.first_premise c.args.depth c.args.tokens.now c.in_ok-first.rest c.in_ok-first.first c.keep.new.claims.items c.in_ok-first.ensures.parses
    c.in_ok-first.ensures.fit (c.in_ok-keep.ensures ∙ ap (λ (cs : List Claim). cs ++ c.in_ok-first.first ∷ []) c.new-parts.ensures.items)

pub side-premise-requires-in-Some : goal.side-premise-requires-in-Some
side-premise-requires-in-Some t c = (
  omega (arith, c.decreases),
  (
    c.requires.open,
    fit_behind (plain_tokens c.loop-behind.rest.now) (plain_tokens c.in-Some.behind.now) (keyword word.Implies) c.in-Some.ensures c.loop-behind.invariant.fit,
  ),
)

pub side-returns-in_err-part-clause-parses : goal.side-returns-in_err-part-clause-parses
side-returns-in_err-part-clause-parses t c =
    chain.stop_next_premise c.args.depth c.args.tokens.now c.loop-behind.rest.now c.in-Some.behind.now (reverse (claims_of c.loop-behind.parts.items))
    c.in_err-part.field-0.0 c.from_residual-in_err-part.result c.loop-behind.invariant c.in-Some.ensures c.from_residual-in_err-part.ensures
    c.in_err-part.ensures.parses

pub side-loop-behind-smaller : goal.side-loop-behind-smaller
side-loop-behind-smaller t c = chain.fewer_behind_premise c.args.depth c.loop-behind.rest.now c.in-Some.behind.now c.in_ok-part.left c.in_ok-part.part
    c.in-Some.ensures c.in_ok-part.ensures.parses

pub side-loop-behind-preserved : goal.side-loop-behind-preserved
side-loop-behind-preserved t c =
    chain.next_of_premises c.args.depth c.args.tokens.now c.loop-behind.rest.now c.in-Some.behind.now c.in_ok-part.left c.in_ok-part.part
    c.loop-behind.parts.items c.keep-in-Some.new.claims.items c.loop-behind.invariant c.in-Some.ensures c.in_ok-part.ensures.parses
    c.in_ok-part.ensures.fit c.in_ok-keep-2.ensures

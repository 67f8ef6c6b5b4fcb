use Rattle.std.proofs.Common.{◌∷◌, refl, ap, ◌∙◌}
use Rattle.theory_meaning.specs.Tree as plain
use Rattle.theory_grammar.specs.declared.words.Keyword.TheVariants as word
use Rattle.theory_grammar.specs.Token.{keyword}
use Rattle.theory_grammar.specs.Machine.{start, finished, name_of_model, name_of_var, name_of_param}
use Rattle.theory_line.specs.Reading.{reading}
use Rattle.theory_line.proofs.LineReading.{wants_name, passed_by_line}
use Rattle.theory_line.proofs.ParsesLaws.{fit_behind}
use Rattle.theory_syntax.specs.Plain.{line_of}
use Rattle.theory_tokens.specs.Plain.{plain_tokens}
use Rattle.theory_line.proofs.lines.read_line.Goals as goal

pub returns-in_err-lone_name-in-Some-Model-default : goal.returns-in_err-lone_name-in-Some-Model-default
returns-in_err-lone_name-in-Some-Model-default c =
    let us = plain_tokens c.in-Some-Model-default.rest.now in
    passed_by_line plain.model line_of (reading name_of_model us) (reading start (plain_tokens c.args.tokens.now))
    c.in_err-lone_name-in-Some-Model-default.field-0.0 c.from_residual.result c.from_residual.ensures
    (ap (reading start) (c.in-Some-Model-default.ensures
    ∙ ap (λ k. keyword k ∷ plain_tokens c.in-Some-Model-default.rest.now) c.in-Some-Model-default.field-0-0-is))
    (c.in_err-lone_name-in-Some-Model-default.ensures name_of_model plain.model
    (wants_name name_of_model (λ x. finished (plain.model x)) us (λ t. refl) refl))

pub returns-in_ok-lone_name-in-Some-Model-default : goal.returns-in_ok-lone_name-in-Some-Model-default
returns-in_ok-lone_name-in-Some-Model-default c =
    let us = plain_tokens c.in-Some-Model-default.rest.now in
    ap (reading start) (c.in-Some-Model-default.ensures
    ∙ ap (λ k. keyword k ∷ plain_tokens c.in-Some-Model-default.rest.now) c.in-Some-Model-default.field-0-0-is)
    ∙ c.in_ok-lone_name-in-Some-Model-default.ensures name_of_model plain.model
    (wants_name name_of_model (λ x. finished (plain.model x)) us (λ t. refl) refl)

pub lone_name-requires-in-Some-Var-default : goal.lone_name-requires-in-Some-Var-default
lone_name-requires-in-Some-Var-default c = record {
  fit = fit_behind (plain_tokens c.args.tokens.now) (plain_tokens c.in-Some-Var-default.rest.now) (keyword word.Var)
      (c.in-Some-Var-default.ensures ∙ ap (λ k. keyword k ∷ plain_tokens c.in-Some-Var-default.rest.now) c.in-Some-Var-default.field-0-0-is) c.requires.fit;
}

pub returns-in_err-lone_name-in-Some-Var-default : goal.returns-in_err-lone_name-in-Some-Var-default
returns-in_err-lone_name-in-Some-Var-default c =
    let us = plain_tokens c.in-Some-Var-default.rest.now in
    passed_by_line plain.var line_of (reading name_of_var us) (reading start (plain_tokens c.args.tokens.now))
    c.in_err-lone_name-in-Some-Var-default.field-0.0 c.from_residual-in_err-lone_name-in-Some-Var-default.result
    c.from_residual-in_err-lone_name-in-Some-Var-default.ensures
    (ap (reading start) (c.in-Some-Var-default.ensures ∙ ap (λ k. keyword k ∷ plain_tokens c.in-Some-Var-default.rest.now)
    c.in-Some-Var-default.field-0-0-is)) (c.in_err-lone_name-in-Some-Var-default.ensures name_of_var plain.var
    (wants_name name_of_var (λ x. finished (plain.var x)) us (λ t. refl) refl))

pub returns-in_ok-lone_name-in-Some-Var-default : goal.returns-in_ok-lone_name-in-Some-Var-default
returns-in_ok-lone_name-in-Some-Var-default c =
    let us = plain_tokens c.in-Some-Var-default.rest.now in
    ap (reading start) (c.in-Some-Var-default.ensures ∙ ap (λ k. keyword k ∷ plain_tokens c.in-Some-Var-default.rest.now) c.in-Some-Var-default.field-0-0-is)
    ∙ c.in_ok-lone_name-in-Some-Var-default.ensures name_of_var plain.var
    (wants_name name_of_var (λ x. finished (plain.var x)) us (λ t. refl) refl)

pub lone_name-requires-in-Some-Param-default : goal.lone_name-requires-in-Some-Param-default
lone_name-requires-in-Some-Param-default c = record {
  fit = fit_behind (plain_tokens c.args.tokens.now) (plain_tokens c.in-Some-Param-default.rest.now) (keyword word.Param)
      (c.in-Some-Param-default.ensures ∙ ap (λ k. keyword k ∷ plain_tokens c.in-Some-Param-default.rest.now)
      c.in-Some-Param-default.field-0-0-is) c.requires.fit;
}

pub returns-in_err-lone_name-in-Some-Param-default : goal.returns-in_err-lone_name-in-Some-Param-default
returns-in_err-lone_name-in-Some-Param-default c =
    let us = plain_tokens c.in-Some-Param-default.rest.now in
    passed_by_line plain.param line_of (reading name_of_param us) (reading start (plain_tokens c.args.tokens.now))
    c.in_err-lone_name-in-Some-Param-default.field-0.0 c.from_residual-in_err-lone_name-in-Some-Param-default.result
    c.from_residual-in_err-lone_name-in-Some-Param-default.ensures
    (ap (reading start) (c.in-Some-Param-default.ensures
    ∙ ap (λ k. keyword k ∷ plain_tokens c.in-Some-Param-default.rest.now) c.in-Some-Param-default.field-0-0-is))
    (c.in_err-lone_name-in-Some-Param-default.ensures name_of_param plain.param
    (wants_name name_of_param (λ x. finished (plain.param x)) us (λ t. refl) refl))

pub returns-in_ok-lone_name-in-Some-Param-default : goal.returns-in_ok-lone_name-in-Some-Param-default
returns-in_ok-lone_name-in-Some-Param-default c =
    let us = plain_tokens c.in-Some-Param-default.rest.now in
    ap (reading start) (c.in-Some-Param-default.ensures
    ∙ ap (λ k. keyword k ∷ plain_tokens c.in-Some-Param-default.rest.now) c.in-Some-Param-default.field-0-0-is)
    ∙ c.in_ok-lone_name-in-Some-Param-default.ensures name_of_param plain.param
    (wants_name name_of_param (λ x. finished (plain.param x)) us (λ t. refl) refl)

pub function-requires : goal.function-requires
function-requires c = record {
  fit = fit_behind (plain_tokens c.args.tokens.now) (plain_tokens c.in-Some-Fun-default.rest.now) (keyword word.Fun)
      (c.in-Some-Fun-default.ensures ∙ ap (λ k. keyword k ∷ plain_tokens c.in-Some-Fun-default.rest.now) c.in-Some-Fun-default.field-0-0-is) c.requires.fit;
}

pub equation-requires : goal.equation-requires
equation-requires c = record {
  fit = fit_behind (plain_tokens c.args.tokens.now) (plain_tokens c.in-Some-Eq-default.rest.now) (keyword word.Eq)
      (c.in-Some-Eq-default.ensures ∙ ap (λ k. keyword k ∷ plain_tokens c.in-Some-Eq-default.rest.now) c.in-Some-Eq-default.field-0-0-is) c.requires.fit;
}

pub assumption-requires : goal.assumption-requires
assumption-requires c = record {
  fit = fit_behind (plain_tokens c.args.tokens.now) (plain_tokens c.in-Some-Assume-default.rest.now) (keyword word.Assume)
      (c.in-Some-Assume-default.ensures ∙ ap (λ k. keyword k ∷ plain_tokens c.in-Some-Assume-default.rest.now)
      c.in-Some-Assume-default.field-0-0-is) c.requires.fit;
}

pub assertion-requires : goal.assertion-requires
assertion-requires c = record {
  fit = fit_behind (plain_tokens c.args.tokens.now) (plain_tokens c.in-Some-Claim-default.rest.now) (keyword word.Claim)
      (c.in-Some-Claim-default.ensures ∙ ap (λ k. keyword k ∷ plain_tokens c.in-Some-Claim-default.rest.now)
      c.in-Some-Claim-default.field-0-0-is) c.requires.fit;
}

-- Tokens behind fit ones are fit.
use Rattle.std.proofs.Common.{◌≡◌, ℕ, ◌≤◌, List, ◌∷◌, All, refl, ap, subst, ◌∙◌}
use Rattle.std.proofs.lemmas.List.Elements.{All-head, All-rest}
use Rattle.theory_meaning.specs.Limits.{bound}
use Rattle.theory_grammar.specs.Token as plain
use Rattle.theory_grammar.specs.Scan.{IsFit}
use Rattle.theory_tokens.specs.declared.token.Token.{Token}
use Rattle.theory_tokens.specs.declared.token.Token.TheVariants.{Number}
use Rattle.theory_tokens.specs.Plain.{plain_token, plain_tokens}

-- behind a token
pub fit_behind : (t : plain.Token) (ts us : List plain.Token) → us ≡ t ∷ ts → All IsFit us → All IsFit ts
fit_behind t ts us is fit = All-rest IsFit t ts us is fit

-- behind the first token of a list
pub fit_rest : (t : Token) (ts us : List Token) → us ≡ t ∷ ts → All IsFit (plain_tokens us) → All IsFit (plain_tokens ts)
fit_rest t ts us is fit = fit_behind (plain_token t) (plain_tokens ts) (plain_tokens us) (ap plain_tokens is) fit

-- a number that stands first is within the bound of literals
pub fit_number : (n : ℕ) (ts us : List plain.Token) → us ≡ plain.number n ∷ ts → All IsFit us → n ≤ bound
fit_number n ts us is fit = All-head IsFit (plain.number n) ts (subst (λ vs. All IsFit vs) is fit)

pub fit_first : (n : ℕ) (t : Token) (ts us : List Token) → t ≡ Number n → us ≡ t ∷ ts → All IsFit (plain_tokens us) → n ≤ bound
fit_first n t ts us number is fit =
    fit_number n (plain_tokens ts) (plain_tokens us) (ap plain_tokens (is ∙ ap (λ (x : Token). x ∷ ts) number)) fit

-- the second number of a literal is within that bound, and what stands behind it is fit
pub fit_literal : (t u : plain.Token) (n : ℕ) (ts us : List plain.Token) → us ≡ t ∷ u ∷ plain.number n ∷ ts → All IsFit us → (n ≤ bound) × All IsFit ts
fit_literal t u n ts us is fit =
    let below = fit_behind u (plain.number n ∷ ts) (u ∷ plain.number n ∷ ts) refl (fit_behind t (u ∷ plain.number n ∷ ts) us is fit) in
    (fit_number n ts (plain.number n ∷ ts) refl below, fit_behind (plain.number n) ts (plain.number n ∷ ts) refl below)

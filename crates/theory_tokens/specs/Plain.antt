-- Tokens as the plain tokens that they stand for.
use Rattle.std.specs.Prelude.{List, map}
use Rattle.theory_grammar.specs.Token as plain
use Rattle.theory_tokens.specs.declared.token.Token.{Token}
use Rattle.theory_tokens.specs.declared.token.Token.TheVariants.{Keyword, Name, Dotted, Number, Mark, Relation, Stray}

-- the token without its place in memory
abbrev pub plain_token : Token → plain.Token
plain_token (Keyword k) = plain.keyword k
plain_token (Name bytes) = plain.name bytes.now
plain_token (Dotted bytes) = plain.dotted bytes.now
plain_token (Number n) = plain.number n
plain_token (Mark m) = plain.mark m
plain_token (Relation rel) = plain.relation rel
plain_token Stray = plain.stray

-- the tokens in their order
abbrev pub plain_tokens : List Token → List plain.Token
plain_tokens = map plain_token

-- What stands first among tokens, for the clauses of private functions.
use Rattle.std.specs.Prelude.{◌≡◌, ◌≢◌, ℕ, List, [], ◌∷◌, Option, None, Some}
use Rattle.std.specs.Borrow.{Bor}
use Rattle.theory_meaning.specs.declared.words.Rel.{Rel}
use Rattle.theory_grammar.specs.declared.words.Keyword.{Keyword}
use Rattle.theory_grammar.specs.declared.words.Keyword.TheVariants as word
use Rattle.theory_grammar.specs.declared.words.Mark.TheVariants as sign
use Rattle.theory_grammar.specs.Token.{Token, keyword, mark, name, relation}
use Rattle.theory_tokens.specs.declared.token.Token as source
use Rattle.theory_tokens.specs.Plain.{plain_tokens}

-- another token stands first, or none
abbrev pub IsNotFirst : Token → List Token → Type 0
IsNotFirst t [] = Unit {0}
IsNotFirst t (u ∷ us) = u ≢ t

-- no name stands first
abbrev pub HasNoName : List Token → Type 0
HasNoName (name x ∷ ts) = ⊥
HasNoName _ = Unit {0}

-- no relation stands first
abbrev pub HasNoRelation : List Token → Type 0
HasNoRelation (relation r ∷ ts) = ⊥
HasNoRelation _ = Unit {0}

-- the token stands first with these behind it, or it doesn't
abbrev pub StandsFirst : Token → List Token → Option (Bor (List source.Token)) → Type 0
StandsFirst t ts None = IsNotFirst t ts
StandsFirst t ts (Some rest) = ts ≡ t ∷ plain_tokens rest.now

-- this name stands first with these tokens behind it, or none does
abbrev pub NameFirst : List Token → Option (Bor (List ℕ) × Bor (List source.Token)) → Type 0
NameFirst ts None = HasNoName ts
NameFirst ts (Some (x, rest)) = ts ≡ name x.now ∷ plain_tokens rest.now

-- this relation stands first with these tokens behind it, or none does
abbrev pub RelationFirst : List Token → Option (Rel × Bor (List source.Token)) → Type 0
RelationFirst ts None = HasNoRelation ts
RelationFirst ts (Some (r, rest)) = ts ≡ relation r ∷ plain_tokens rest.now

-- no token stands first that begins a claim and no comparison
abbrev pub BeginsNoClaim : List Token → Type 0
BeginsNoClaim (keyword word.True ∷ ts) = ⊥
BeginsNoClaim (keyword word.False ∷ ts) = ⊥
BeginsNoClaim (keyword word.Not ∷ ts) = ⊥
BeginsNoClaim (mark sign.OpenSquare ∷ ts) = ⊥
BeginsNoClaim _ = Unit {0}

-- no word stands first
abbrev pub HasNoKeyword : List Token → Type 0
HasNoKeyword (keyword k ∷ ts) = ⊥
HasNoKeyword _ = Unit {0}

-- this word stands first with these tokens behind it, or no word does
abbrev pub KeywordFirst : List Token → Option (Keyword × Bor (List source.Token)) → Type 0
KeywordFirst ts None = HasNoKeyword ts
KeywordFirst ts (Some (k, rest)) = ts ≡ keyword k ∷ plain_tokens rest.now

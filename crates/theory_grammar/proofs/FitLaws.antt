-- Tokens that are read: names are identifiers, and numbers are within the bound.
use Rattle.std.proofs.Common.{◌≡◌, ℕ, zero, suc, ◌+◌, Bool, true, false, cond, not, ◌&&◌, ◌||◌, nat_lt, List, [], ◌∷◌, length, Option, Some, None, refl, ap, subst, arith}
use Rattle.std.specs.Prelude.{All, nat_le, codes}
use Rattle.std.specs.Str.{bytes_eq}
use Rattle.std.proofs.lemmas.Bool.{and_from, le-leb, ltb-false}
use Rattle.theory_meaning.specs.Identifier.{is_word, is_reserved, is_identifier}
use Rattle.theory_meaning.specs.Limits.{bound}
use Rattle.theory_grammar.specs.declared.words.Keyword.{Keyword}
use Rattle.theory_grammar.specs.Token.{Token, name, number, dotted, stray}
use Rattle.theory_grammar.specs.Lexeme.{Lexeme, word, pair, digits, sign, comparison, IsLexeme, token, fault, meaning, keyword_among, all_keywords, reserved_token, number_of}
use Rattle.theory_grammar.specs.Scan.{Placed, End, Reads, over, blank, read, unread, bad, IsFit}
use Rattle.theory_grammar.specs.declared.unreadable.Unreadable.{Unreadable}
use Rattle.theory_grammar.specs.declared.unreadable.Unreadable.TheVariants.{BadToken, LiteralWide}

same_token : (t u : Token) → token t ≡ token u → t ≡ u
same_token t u e = cc

no_fault : (u : Unreadable) (t : Token) → fault u ≡ token t → ⊥
no_fault u t e = cc

fit_same : (t u : Token) → t ≡ u → IsFit t → IsFit u
fit_same t u e h = subst IsFit e h

reserved_fit : (o : Option Keyword) → IsFit (reserved_token o)
reserved_fit (Some k) = tt
reserved_fit None = tt

identifier : (w : List ℕ) → is_word w ≡ true → nat_lt 32 (length w) ≡ false → is_reserved w ≡ false → is_identifier w ≡ true
identifier w is_w short free =
    let within : nat_le (length w) 32 ≡ true = le-leb (length w) 32 (ltb-false 32 (length w) short) in
    and_from (is_word w && nat_le (length w) 32) (not (is_reserved w)) (and_from (is_word w) (nat_le (length w) 32) is_w within) (ap not free)

word_fit : (w : List ℕ) (t : Token) (long reserved : Bool) → is_word w ≡ true → nat_lt 32 (length w) ≡ long → is_reserved w ≡ reserved →
    cond long (fault BadToken) (token (cond reserved (reserved_token (keyword_among w all_keywords)) (name w))) ≡ token t → IsFit t
word_fit w t true reserved is_w long free e = absurd (no_fault BadToken t e)
word_fit w t false true is_w long free e =
    let found = reserved_token (keyword_among w all_keywords) in
    fit_same found t (same_token found t e) (reserved_fit (keyword_among w all_keywords))
word_fit w t false false is_w long free e = fit_same (name w) t (same_token (name w) t e) (identifier w is_w long free)

pair_fit : (bs : List ℕ) (t : Token) (long reserved : Bool) → cond long (fault BadToken) (token (cond reserved stray (dotted bs))) ≡ token t → IsFit t
pair_fit bs t true reserved e = absurd (no_fault BadToken t e)
pair_fit bs t false true e = fit_same stray t (same_token stray t e) tt
pair_fit bs t false false e = fit_same (dotted bs) t (same_token (dotted bs) t e) tt

digits_fit : (n : ℕ) (t : Token) (wide : Bool) → nat_lt bound n ≡ wide → cond wide (fault LiteralWide) (token (number n)) ≡ token t → IsFit t
digits_fit n t true is e = absurd (no_fault LiteralWide t e)
digits_fit n t false is e = fit_same (number n) t (same_token (number n) t e) (ltb-false bound n is)

-- what a lexeme is read as is fit
pub meaning_fit : (x : Lexeme) (t : Token) → IsLexeme x → meaning x ≡ token t → IsFit t
meaning_fit (word w) t is e = word_fit w t (nat_lt 32 (length w)) (is_reserved w) is refl refl e
meaning_fit (pair u v) t is e =
    pair_fit _ t (nat_lt 32 (length u) || nat_lt 32 (length v)) ((is_reserved u && not (bytes_eq u (codes "d"))) || is_reserved v) e
meaning_fit (digits ds) t is e = digits_fit (number_of ds) t (nat_lt bound (number_of ds)) refl e
meaning_fit (sign m) t is e = fit_same _ t (same_token _ t e) tt
meaning_fit (comparison r) t is e = fit_same _ t (same_token _ t e) tt

first_fit : {X : Type 0} (P : X → Type 0) (x : X) (xs : List X) → P x → All P xs → All P (x ∷ xs)
first_fit P x xs h hs zero d below = h
first_fit P x xs h hs (suc k) d below = hs k d (omega arith)

none_fit : {X : Type 0} (P : X → Type 0) → All P []
none_fit P k d below = absurd (omega arith)

-- tokens that are read are fit
pub reads_fit : (c : ℕ) (bytes : List ℕ) (ts : List Placed) (e : End) → Reads c bytes ts e → All (λ p. IsFit p.token) ts
reads_fit c bytes ts e (over _ _ h) = none_fit (λ (p : Placed). IsFit p.token)
reads_fit c bytes ts e (blank _ b rest _ _ h r) = reads_fit (c + 1) rest ts e r
reads_fit c bytes ts e (read _ _ rest x t us _ h m r) =
    first_fit (λ (p : Placed). IsFit p.token) (record { column = c; token = t }) us (meaning_fit x t h.lexeme m) (reads_fit _ rest us e r)
reads_fit c bytes ts e (unread _ _ rest x u h m) = none_fit (λ (p : Placed). IsFit p.token)
reads_fit c bytes ts e (bad _ b rest h) = none_fit (λ (p : Placed). IsFit p.token)

-- Tokens that lexemes mean: names stand for their own bytes, and numbers are within the bound.
use Rattle.std.proofs.Common.{◌≡◌, ◌⊎◌, inl, inr, ⊎_elim, ℕ, ◌+◌, ◌≤◌, Bool, true, false, ◌&&◌, cond, List, [], ◌∷◌, ◌++◌, length, Option, Some, None, refl, sym, subst}
use Rattle.std.specs.Prelude.{codes, nat_lt, not, ◌||◌}
use Rattle.std.specs.Str.{bytes_eq}
use Rattle.std.proofs.lemmas.Bool.{ltb-false}
use Rattle.theory_meaning.specs.Identifier.{is_reserved}
use Rattle.theory_meaning.specs.Limits.{bound}
use Rattle.theory_meaning.specs.Point.{Name}
use Rattle.theory_grammar.specs.declared.words.Keyword.{Keyword}
use Rattle.theory_grammar.specs.declared.unreadable.Unreadable.TheVariants.{BadToken, LiteralWide}
use Rattle.theory_grammar.specs.Token.{Token, name, dotted, number, stray}
use Rattle.theory_grammar.specs.Lexeme.{Lexeme, word, pair, digits, sign, comparison, spelling, IsLexeme, token, fault, meaning, reserved_token, keyword_among, all_keywords, number_of}
use Rattle.theory_grammar.specs.Scan.{Placed, End, Reads, over, blank, read, unread, bad}
use Rattle.theory_grammar.specs.TextFault.{tokens_of}
use Rattle.theory_grammar.proofs.LongestLaws.{pair_longest}
use Rattle.theory_grammar.proofs.LeadLaws.{Leads, word_leads, lexeme_leads}

-- a token that some lexeme means
pub record IsMeant (t : Token) : Type 0 where
  pub lexeme : Lexeme
  pub is : IsLexeme lexeme
  pub means : meaning lexeme ≡ token t

abbrev pub AreMeant : List Token → Type 0
AreMeant [] = Unit {0}
AreMeant (t ∷ ts) = IsMeant t × AreMeant ts

-- the tokens of a reading are meant by lexemes
pub tokens_are_meant : (c : ℕ) (bytes : List ℕ) (ts : List Placed) (e : End) → Reads c bytes ts e → AreMeant (tokens_of ts)
tokens_are_meant c bytes ts e (over _ _ h) = tt
tokens_are_meant c bytes ts e (blank _ b rest _ _ h r) = tokens_are_meant (c + 1) rest ts e r
tokens_are_meant c bytes ts e (read _ _ rest x t us _ h m r) =
    (record { lexeme = x; is = h.lexeme; means = m }, tokens_are_meant (c + length (spelling x)) rest us e r)
tokens_are_meant c bytes ts e (unread _ _ rest x u h m) = tt
tokens_are_meant c bytes ts e (bad _ b rest h) = tt

pub meant_front : (a b : List Token) → AreMeant (a ++ b) → AreMeant a
meant_front [] b h = tt
meant_front (t ∷ a) b h = (h.0, meant_front a b h.1)

pub meant_behind : (a b : List Token) → AreMeant (a ++ b) → AreMeant b
meant_behind [] b h = h
meant_behind (t ∷ a) b h = meant_behind a b h.1

-- what a word, a pair and digits can mean
word_shape : (a b : Bool) (o : Option Keyword) (w : Name) (t : Token) →
    cond a (fault BadToken) (token (cond b (reserved_token o) (name w))) ≡ token t → (t ≡ reserved_token o) ⊎ (t ≡ name w)
word_shape true b o w t e = cc
word_shape false true o w t e = inl cc
word_shape false false o w t e = inr cc

pair_shape : (a b : Bool) (x : Name) (t : Token) → cond a (fault BadToken) (token (cond b stray (dotted x))) ≡ token t → (t ≡ stray) ⊎ (t ≡ dotted x)
pair_shape true b x t e = cc
pair_shape false true x t e = inl cc
pair_shape false false x t e = inr cc

digits_shape : (a : Bool) (n : ℕ) (t : Token) → cond a (fault LiteralWide) (token (number n)) ≡ token t → (a ≡ false) × (t ≡ number n)
digits_shape true n t e = cc
digits_shape false n t e = (refl, cc)

reserved_no_name : (o : Option Keyword) (x : Name) → name x ≡ reserved_token o → ⊥
reserved_no_name (Some k) x e = cc
reserved_no_name None x e = cc

reserved_no_dotted : (o : Option Keyword) (x : Name) → dotted x ≡ reserved_token o → ⊥
reserved_no_dotted (Some k) x e = cc
reserved_no_dotted None x e = cc

reserved_no_number : (o : Option Keyword) (n : ℕ) → number n ≡ reserved_token o → ⊥
reserved_no_number (Some k) n e = cc
reserved_no_number None n e = cc

of_word : (w : Name) (t : Token) → meaning (word w) ≡ token t → (t ≡ reserved_token (keyword_among w all_keywords)) ⊎ (t ≡ name w)
of_word w t e = word_shape (nat_lt 32 (length w)) (is_reserved w) (keyword_among w all_keywords) w t e

of_pair : (u v : Name) (t : Token) → meaning (pair u v) ≡ token t → (t ≡ stray) ⊎ (t ≡ dotted (u ++ 46 ∷ v))
of_pair u v t e =
    pair_shape (nat_lt 32 (length u) || nat_lt 32 (length v)) ((is_reserved u && not (bytes_eq u (codes "d"))) || is_reserved v) (u ++ 46 ∷ v) t e

-- a name stands for its own bytes
name_of : (y : Lexeme) (x : Name) → IsLexeme y → meaning y ≡ token (name x) → Leads true (name x ∷ []) x
name_of (word w) x is e =
    let leads = word_leads w (name x) is e in
    ⊎_elim (λ k. absurd (reserved_no_name (keyword_among w all_keywords) x k))
    (λ k. let same : w ≡ x = cc in subst (Leads true (name x ∷ [])) same leads) (of_word w (name x) e)
name_of (pair u v) x is e = ⊎_elim (λ k. absurd (let f : ⊥ = cc in f)) (λ k. absurd (let f : ⊥ = cc in f)) (of_pair u v (name x) e)
name_of (digits ds) x is e = let k = (digits_shape (nat_lt bound (number_of ds)) (number_of ds) (name x) e).1 in cc
name_of (sign m) x is e = cc
name_of (comparison r) x is e = cc

pub name_leads : (x : Name) → IsMeant (name x) → Leads true (name x ∷ []) x
name_leads x h = name_of h.lexeme x h.is h.means

-- a dotted name stands for its own bytes
dotted_of : (y : Lexeme) (x : Name) → IsLexeme y → meaning y ≡ token (dotted x) → Leads true (dotted x ∷ []) x
dotted_of (word w) x is e =
    ⊎_elim (λ k. absurd (reserved_no_dotted (keyword_among w all_keywords) x k)) (λ k. absurd (let f : ⊥ = cc in f)) (of_word w (dotted x) e)
dotted_of (pair u v) x is e =
    let leads = lexeme_leads true (pair u v) (dotted x) e
    (λ rest ends. pair_longest u v rest ((u ++ 46 ∷ v) ++ rest) is.0 is.1 (ends refl).words refl) in
    ⊎_elim (λ k. absurd (let f : ⊥ = cc in f))
    (λ k. let same : u ++ 46 ∷ v ≡ x = cc in subst (Leads true (dotted x ∷ [])) same leads) (of_pair u v (dotted x) e)
dotted_of (digits ds) x is e = let k = (digits_shape (nat_lt bound (number_of ds)) (number_of ds) (dotted x) e).1 in cc
dotted_of (sign m) x is e = cc
dotted_of (comparison r) x is e = cc

pub dotted_leads : (x : Name) → IsMeant (dotted x) → Leads true (dotted x ∷ []) x
dotted_leads x h = dotted_of h.lexeme x h.is h.means

-- a number that is read is within the bound
within_of : (y : Lexeme) (n : ℕ) → meaning y ≡ token (number n) → n ≤ bound
within_of (word w) n e =
    ⊎_elim (λ k. absurd (reserved_no_number (keyword_among w all_keywords) n k)) (λ k. absurd (let f : ⊥ = cc in f)) (of_word w (number n) e)
within_of (pair u v) n e = ⊎_elim (λ k. absurd (let f : ⊥ = cc in f)) (λ k. absurd (let f : ⊥ = cc in f)) (of_pair u v (number n) e)
within_of (digits ds) n e =
    let k = digits_shape (nat_lt bound (number_of ds)) (number_of ds) (number n) e in
    let same : n ≡ number_of ds = let f = k.1 in cc in
    subst (λ (m : ℕ). m ≤ bound) (sym same) (ltb-false bound (number_of ds) k.0)
within_of (sign m) n e = absurd (let f : ⊥ = cc in f)
within_of (comparison r) n e = absurd (let f : ⊥ = cc in f)

pub number_within : (n : ℕ) → IsMeant (number n) → n ≤ bound
number_within n h = within_of h.lexeme n h.means

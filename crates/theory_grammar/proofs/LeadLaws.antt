-- Bytes that are read as given tokens, whatever is read behind them.
use Rattle.std.proofs.Common.{◌≡◌, ◌≢◌, ◌==◌, inl, ℕ, ◌+◌, ◌-◌, ◌*◌, ◌/◌, ◌%◌, ◌<◌, ◌≤◌, Bool, true, false, ◌&&◌, cond, List, [], ◌∷◌, ◌++◌, length, refl, sym, ap, ◌∙◌, subst, arith, rules, tests, append_assoc, length-append}
use Rattle.std.specs.Prelude.{codes, decimal, nat_lt, not}
use Rattle.std.specs.List.{list_all}
use Rattle.std.proofs.lemmas.Bool.{false≢true, and_parts, and_from, le-ltb}
use Rattle.std.proofs.lemmas.List.{append-nil}
use Rattle.std.proofs.lemmas.List.Sums.{fold-append}
use Rattle.std.proofs.lemmas.List.Folds.{list_all-append}
use Rattle.std.proofs.lemmas.Fmt.{decimal_by_steps}
use Rattle.theory_meaning.specs.declared.words.Rel.{Rel}
use Rattle.theory_meaning.specs.declared.words.Rel.TheVariants.{Eq, Ne, Lt, Le, Gt, Ge}
use Rattle.theory_meaning.specs.Identifier.{is_digit, is_letter, is_word_byte, is_word}
use Rattle.theory_meaning.specs.Limits.{bound}
use Rattle.theory_grammar.specs.declared.words.Keyword.{Keyword}
use Rattle.theory_grammar.specs.declared.words.Keyword.TheVariants as reserved
use Rattle.theory_grammar.specs.declared.words.Mark.{Mark}
use Rattle.theory_grammar.specs.declared.unreadable.Unreadable.TheVariants.{LiteralWide}
use Rattle.theory_grammar.specs.Token.{Token, keyword, number, mark, relation}
use Rattle.theory_grammar.specs.Signs.{keyword_bytes, mark_byte, relation_bytes}
use Rattle.theory_grammar.specs.Lexeme.{Lexeme, word, digits, sign, comparison, spelling, IsLongest, token, fault, meaning, number_of}
use Rattle.theory_grammar.specs.Scan.{Placed, End, complete, Reads, over, blank, read}
use Rattle.theory_grammar.specs.TextFault.{tokens_of}
use Rattle.theory_grammar.specs.Runs.{first_passes, begins_a_dotted_part}
use Rattle.theory_grammar.proofs.PlainLaws.{is_plain, plain_append, plain_lexeme}
use Rattle.theory_grammar.proofs.LongestLaws.{word_longest, digits_longest, mark_longest}
use Rattle.theory_grammar.proofs.ComparisonLaws.{begins_with_equals, EndsBefore, comparison_longest}

-- these bytes make no lexeme before them longer
pub record IsApart (rest : List ℕ) : Type 0 where
  pub words : first_passes is_word_byte rest ≡ false
  pub dot : begins_a_dotted_part rest ≡ false
  pub figures : first_passes is_digit rest ≡ false
  pub equals : begins_with_equals rest ≡ false

-- a byte that stands apart from every lexeme before it
abbrev pub is_apart : ℕ → Bool
is_apart b = not (is_word_byte b) && (not (b == 46) && (not (is_digit b) && not (b == 61)))

no_test : (t : Bool) → not t ≡ true → t ≡ false
no_test true h = absurd (false≢true h)
no_test false h = refl

pub apart : {b : ℕ} {bs : List ℕ} → is_apart b ≡ true → IsApart (b ∷ bs)
apart {b} {bs} h =
    let first = and_parts (not (is_word_byte b)) (not (b == 46) && (not (is_digit b) && not (b == 61))) h in
    let second = and_parts (not (b == 46)) (not (is_digit b) && not (b == 61)) first.1 in
    let third = and_parts (not (is_digit b)) (not (b == 61)) second.1 in
    record {
      words = no_test (is_word_byte b) first.0;
      dot = ap (λ (t : Bool). t && first_passes is_letter bs) (no_test (b == 46) second.0);
      figures = no_test (is_digit b) third.0;
      equals = no_test (b == 61) third.1;
    }

-- from column c on the bytes are read as these tokens and then as what is behind them
pub record ReadsOn (us : List Token) (c : ℕ) (bytes : List ℕ) (vs : List Placed) (e : End) : Type 0 where
  pub placed : List Placed
  pub tokens : tokens_of placed ≡ us
  pub reads : Reads c bytes (placed ++ vs) e

-- the bytes are read as these tokens, whatever stands behind; if they are ended, it must stand apart
pub record Leads (ended : Bool) (us : List Token) (bytes : List ℕ) : Type 0 where
  pub leads : (c : ℕ) (rest : List ℕ) (vs : List Placed) (e : End) → (ended ≡ true → IsApart rest) → Reads (c + length bytes) rest vs e →
      ReadsOn us c (bytes ++ rest) vs e
  pub plain : list_all is_plain bytes ≡ true

tokens_append : (ps qs : List Placed) → tokens_of (ps ++ qs) ≡ tokens_of ps ++ tokens_of qs
tokens_append [] qs = refl
tokens_append (p ∷ ps) qs = ap (λ (ts : List Token). p.token ∷ ts) (tokens_append ps qs)

-- one reading behind another
reads_both : (a b : List Token) (c : ℕ) (x y rest : List ℕ) (vs : List Placed) (e : End) (second : ReadsOn b (c + length x) (y ++ rest) vs e) →
    ReadsOn a c (x ++ (y ++ rest)) (second.placed ++ vs) e → ReadsOn (a ++ b) c ((x ++ y) ++ rest) vs e
reads_both a b c x y rest vs e second first = record {
  placed = first.placed ++ second.placed;
  tokens =
      tokens_append first.placed second.placed ∙ ap (λ (ts : List Token). ts ++ tokens_of second.placed) first.tokens
      ∙ ap (λ (ts : List Token). a ++ ts) second.tokens;
  reads = subst (λ (ps : List Placed). Reads c ((x ++ y) ++ rest) ps e) (sym (append_assoc first.placed second.placed vs))
      (subst (λ (bs : List ℕ). Reads c bs (first.placed ++ (second.placed ++ vs)) e) (sym (append_assoc x y rest)) first.reads);
}

pub composed : (k m : Bool) (a b : List Token) (x y : List ℕ) → Leads k a x → Leads m b y →
    ((rest : List ℕ) → (m ≡ true → IsApart rest) → k ≡ true → IsApart (y ++ rest)) → Leads m (a ++ b) (x ++ y)
composed k m a b x y first second apart = record {
  leads = λ c rest vs e ended r.
      let long : c + length (x ++ y) ≡ (c + length x) + length y = omega (arith, length-append x y) in
      let behind = second.leads (c + length x) rest vs e ended (subst (λ (n : ℕ). Reads n rest vs e) long r) in
      reads_both a b c x y rest vs e behind (first.leads c (y ++ rest) (behind.placed ++ vs) e (apart rest ended) behind.reads);
  plain = plain_append x y first.plain second.plain;
}

-- bytes that need nothing behind them, and any others
pub joined_by : {m : Bool} {a b : List Token} {x y : List ℕ} → Leads false a x → Leads m b y → Leads m (a ++ b) (x ++ y)
joined_by {m} {a} {b} {x} {y} first second = composed false m a b x y first second (λ rest ended h. absurd (false≢true h))

-- bytes behind which others stand apart
pub closed_by : {k m : Bool} {a b : List Token} {x y : List ℕ} → Leads k a x → Leads m b y → ((rest : List ℕ) → IsApart (y ++ rest)) → Leads m (a ++ b) (x ++ y)
closed_by {k} {m} {a} {b} {x} {y} first second apart = composed k m a b x y first second (λ rest ended h. apart rest)

-- a sign between two parts
pub between : {k m : Bool} {a t b : List Token} {x s y : List ℕ} → Leads k a x → Leads false t s → Leads m b y →
    ((rest : List ℕ) → IsApart ((s ++ y) ++ rest)) → Leads m (a ++ (t ++ b)) ((x ++ s) ++ y)
between {k} {m} {a} {t} {b} {x} {s} {y} first middle second apart =
    subst (Leads m (a ++ (t ++ b))) (sym (append_assoc x s y)) (closed_by first (joined_by middle second) apart)

pub nothing_more : {k : Bool} {a : List Token} {x : List ℕ} → Leads k a x → Leads k a (x ++ [])
nothing_more {k} {a} {x} h = subst (Leads k a) (sym (append-nil x)) h

pub any_open : {a : List Token} {x : List ℕ} → Leads false a x → Leads true a x
any_open h = record { leads = λ c rest vs e ended r. h.leads c rest vs e (λ no. absurd (false≢true no)) r; plain = h.plain }

nothing_is_apart : IsApart []
nothing_is_apart = record { words = refl; dot = refl; figures = refl; equals = refl }

-- a lexeme whose meaning is a token
pub lexeme_leads : (k : Bool) (x : Lexeme) (t : Token) → meaning x ≡ token t →
    ((rest : List ℕ) → (k ≡ true → IsApart rest) → IsLongest x rest (spelling x ++ rest)) →
    Leads k (t ∷ []) (spelling x)
lexeme_leads k x t is longest = record {
  leads = λ c rest vs e ended r. record {
    placed = record { column = c; token = t } ∷ [];
    tokens = refl;
    reads = read c (spelling x ++ rest) rest x t vs e (longest rest ended) is r;
  };
  plain = plain_lexeme x (longest [] (λ ended. nothing_is_apart)).lexeme;
}

pub blank_leads : Leads false [] (32 ∷ [])
blank_leads = record { leads = λ c rest vs e ended r. record { placed = []; tokens = refl; reads = blank c 32 rest vs e refl r }; plain = refl }

pub mark_leads : (m : Mark) → Leads false (mark m ∷ []) (mark_byte m ∷ [])
mark_leads m = lexeme_leads false (sign m) (mark m) refl (λ rest ended. mark_longest m (mark_byte m) rest refl)

ends_before : (r : Rel) (rest : List ℕ) → IsApart rest → EndsBefore r rest
ends_before Eq rest h = tt
ends_before Ne rest h = tt
ends_before Lt rest h = h.equals
ends_before Le rest h = tt
ends_before Gt rest h = h.equals
ends_before Ge rest h = tt

pub relation_leads : (r : Rel) → Leads true (relation r ∷ []) (relation_bytes r)
relation_leads r =
    lexeme_leads true (comparison r) (relation r) refl
    (λ rest ended. comparison_longest r rest (relation_bytes r ++ rest) (ends_before r rest (ended refl)) refl)

pub word_leads : (w : List ℕ) (t : Token) → is_word w ≡ true → meaning (word w) ≡ token t → Leads true (t ∷ []) w
word_leads w t is means =
    lexeme_leads true (word w) t means (λ rest ended. let h = ended refl in word_longest w rest (w ++ rest) is h.words h.dot refl)

pub keyword_leads : (k : Keyword) → Leads true (keyword k ∷ []) (keyword_bytes k)
keyword_leads reserved.Model = word_leads (codes "model") (keyword reserved.Model) refl refl
keyword_leads reserved.Var = word_leads (codes "var") (keyword reserved.Var) refl refl
keyword_leads reserved.Param = word_leads (codes "param") (keyword reserved.Param) refl refl
keyword_leads reserved.Fun = word_leads (codes "fun") (keyword reserved.Fun) refl refl
keyword_leads reserved.Of = word_leads (codes "of") (keyword reserved.Of) refl refl
keyword_leads reserved.Eq = word_leads (codes "eq") (keyword reserved.Eq) refl refl
keyword_leads reserved.Assume = word_leads (codes "assume") (keyword reserved.Assume) refl refl
keyword_leads reserved.Claim = word_leads (codes "claim") (keyword reserved.Claim) refl refl
keyword_leads reserved.By = word_leads (codes "by") (keyword reserved.By) refl refl
keyword_leads reserved.Not = word_leads (codes "not") (keyword reserved.Not) refl refl
keyword_leads reserved.And = word_leads (codes "and") (keyword reserved.And) refl refl
keyword_leads reserved.Or = word_leads (codes "or") (keyword reserved.Or) refl refl
keyword_leads reserved.Implies = word_leads (codes "implies") (keyword reserved.Implies) refl refl
keyword_leads reserved.Iff = word_leads (codes "iff") (keyword reserved.Iff) refl refl
keyword_leads reserved.True = word_leads (codes "true") (keyword reserved.True) refl refl
keyword_leads reserved.False = word_leads (codes "false") (keyword reserved.False) refl refl

-- digits of a number
pub record IsNumeral (n : ℕ) (ds : List ℕ) : Type 0 where
  pub some : ds ≢ []
  pub figures : list_all is_digit ds ≡ true
  pub value : number_of ds ≡ n

one_figure : (n : ℕ) → n < 10 → is_digit (48 + n) ≡ true
one_figure n h = search (rules, tests)

one_digit : (n : ℕ) → n < 10 → IsNumeral n ((48 + n) ∷ [])
one_digit n h = record {
  some = λ e. cc;
  figures = and_from (is_digit (48 + n)) true (one_figure n h) refl;
  value = omega arith;
}

not_empty : (ds : List ℕ) (d : ℕ) → ds ++ d ∷ [] ≢ []
not_empty [] d e = cc
not_empty (b ∷ ds) d e = cc

more_digits : (n : ℕ) (ds : List ℕ) → 10 ≤ n → IsNumeral (n / 10) ds → IsNumeral n (ds ++ ((48 + n % 10) ∷ []))
more_digits n ds h before =
    let low : n % 10 < 10 = omega arith in
    let last : list_all is_digit ((48 + n % 10) ∷ []) ≡ true = and_from (is_digit (48 + n % 10)) true (one_figure (n % 10) low) refl in
    record {
      some = not_empty ds (48 + n % 10);
      figures = list_all-append is_digit ds ((48 + n % 10) ∷ []) ∙ and_from (list_all is_digit ds) (list_all is_digit ((48 + n % 10) ∷ [])) before.figures last;
      value = fold-append (λ m d. m * 10 + (d - 48)) 0 ds ((48 + n % 10) ∷ []) ∙ ap (λ (m : ℕ). m * 10 + ((48 + n % 10) - 48)) before.value ∙ omega arith;
    }

pub decimal_numeral : (n : ℕ) → n ≤ bound → IsNumeral n (decimal n)
decimal_numeral n h = decimal_by_steps IsNumeral one_digit more_digits n (omega arith)

within_bound : (n : ℕ) → n ≤ bound → nat_lt bound n ≡ false
within_bound n h = le-ltb bound n h

pub number_leads : (n : ℕ) → n ≤ bound → Leads true (number n ∷ []) (decimal n)
number_leads n h =
    let d = decimal_numeral n h in
    let means : meaning (digits (decimal n)) ≡ token (number n) =
    ap (λ (m : ℕ). cond (nat_lt bound m) (fault LiteralWide) (token (number m))) d.value
    ∙ ap (λ (t : Bool). cond t (fault LiteralWide) (token (number n))) (within_bound n h) in
    lexeme_leads true (digits (decimal n)) (number n) means
    (λ rest ended. digits_longest (decimal n) rest (decimal n ++ rest) d.some d.figures (ended refl).figures refl)

no_further : (c : ℕ) → c + 0 ≡ c
no_further c = omega arith

-- no bytes are no tokens
pub nothing_leads : Leads true [] []
nothing_leads = record {
  leads = λ c rest vs e ended r. record { placed = []; tokens = refl; reads = subst (λ (n : ℕ). Reads n rest vs e) (no_further c) r };
  plain = refl;
}

-- all bytes of a line
pub record LineReads (us : List Token) (bytes : List ℕ) : Type 0 where
  pub placed : List Placed
  pub tokens : tokens_of placed ≡ us
  pub reads : Reads 1 bytes placed (complete (1 + length bytes))

pub line_reads : (us : List Token) (bytes : List ℕ) → Leads true us bytes → LineReads us bytes
line_reads us bytes h =
    let last : Reads (1 + length bytes) [] [] (complete (1 + length bytes)) = over (1 + length bytes) [] (inl refl) in
    let all = h.leads 1 [] [] (complete (1 + length bytes)) (λ ended. nothing_is_apart) last in
    record {
      placed = all.placed;
      tokens = all.tokens;
      reads = subst (λ (ps : List Placed). Reads 1 bytes ps (complete (1 + length bytes))) (append-nil all.placed)
          (subst (λ (bs : List ℕ). Reads 1 bs (all.placed ++ []) (complete (1 + length bytes))) (append-nil bytes) all.reads);
    }

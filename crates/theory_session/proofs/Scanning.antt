-- Bytes that are read by computing: what comes out is what they spell.
use Rattle.std.proofs.Common.{◌≡◌, ℕ, zero, suc, ◌+◌, ◌≤◌, ◌<◌, ◌&&◌, Bool, true, false, nat_le, nat_lt, List, [], ◌∷◌, length, Option, None, Some, inl, refl, ap, subst, arith}
use Rattle.std.specs.Char.{is_ascii}
use Rattle.std.specs.List.{list_all, slice_index}
use Rattle.std.specs.Str.{IsAscii}
use Rattle.std.proofs.lemmas.Bool.{and_parts}
use Rattle.std.proofs.lemmas.Bool.Decides.{nat_tests}
use Rattle.std.proofs.lemmas.Str.{IsUtf8-from_ascii}
use Rattle.std.proofs.lemmas.Str.Ascii.{IsAscii-nil}
use Rattle.theory_grammar.specs.Lexeme.{Lexeme, spelling, Meaning, token, fault, meaning}
use Rattle.theory_grammar.specs.LineFault.{Grammar}
use Rattle.theory_grammar.specs.Scan.{is_blank, Placed, complete, Reads, ReadsLine, over, blank, read}
use Rattle.theory_grammar.specs.Spelled.{Limits}
use Rattle.theory_grammar.specs.Token.{Token}
use Rattle.theory_grammar.specs.TextFault.{tokens_of, cut_lines, SpellFrom, ended, passed, spelled, SpellsText}
use Rattle.theory_grammar.proofs.Following.{Step, Laws, Outcome, reads}
use Rattle.theory_grammar.proofs.Following as following
use Rattle.theory_grammar.proofs.FaultLaws.{read_is_spelled}
use Rattle.theory_session.proofs.Guessing.{guess, fits, fits_longest}

-- the tokens of a line, and the column of its end
abbrev pub Scanned : Type 0
Scanned = Option (List Placed × ℕ)

abbrev pub Scanner : Type 0
Scanner = ℕ → List ℕ → Scanned

abbrev pub onto : Placed → Scanned → Scanned
onto t None = None
onto t (Some s) = Some (t ∷ s.0, s.1)

abbrev pub by_meaning : Scanner → ℕ → Lexeme → List ℕ → Meaning → Scanned
by_meaning more c x rest (token t) = onto (record { column = c; token = t }) (more (c + length (spelling x)) rest)
by_meaning more c x rest (fault u) = None

abbrev pub by_fit : Scanner → ℕ → Lexeme → List ℕ → Bool → Scanned
by_fit more c x rest false = None
by_fit more c x rest true = by_meaning more c x rest (meaning x)

abbrev pub by_guess : Scanner → ℕ → List ℕ → Lexeme × List ℕ → Scanned
by_guess more c bytes g = by_fit more c g.0 g.1 (fits g.0 g.1 bytes)

abbrev pub by_blank : Scanner → ℕ → ℕ → List ℕ → Bool → Scanned
by_blank more c b bs true = more (c + 1) bs
by_blank more c b bs false = by_guess more c (b ∷ bs) (guess b bs)

abbrev pub scan_with : Scanner → Scanner
scan_with more c [] = Some ([], c)
scan_with more c (b ∷ bs) = by_blank more c b bs (is_blank b)

-- a line without a comment in at most so many steps
abbrev pub scan : ℕ → Scanner
scan zero = λ c bytes. None
scan (suc n) = scan_with (scan n)

-- what is scanned is read so
abbrev pub IsSound : Scanner → Type 0
IsSound more = (c : ℕ) (bytes : List ℕ) (ts : List Placed) (e : ℕ) → more c bytes ≡ Some (ts, e) → Reads c bytes ts (complete e)

same_scan : (ts us : List Placed) (e f : ℕ) → ◌≡◌ {A = Scanned} (Some (ts, e)) (Some (us, f)) → (ts ≡ us) × (e ≡ f)
same_scan ts us e f h =
    let k : ◌≡◌ {A = List Placed × ℕ} (ts, e) (us, f) = cc in
    (ap (λ (p : List Placed × ℕ). p.0) k, ap (λ (p : List Placed × ℕ). p.1) k)

sound_onto : (more : Scanner) → IsSound more → (c d : ℕ) (bytes rest : List ℕ) (t : Placed) (ts : List Placed) (e : ℕ) (s : Scanned) → more d rest ≡ s
    → ((us : List Placed) → Reads d rest us (complete e) → Reads c bytes (t ∷ us) (complete e)) → onto t s ≡ Some (ts, e) → Reads c bytes ts (complete e)
sound_onto more is c d bytes rest t ts e None same reads h = absurd cc
sound_onto more is c d bytes rest t ts e (Some s) same reads h =
    let k = same_scan (t ∷ s.0) ts s.1 e h in
    subst (λ (us : List Placed). Reads c bytes us (complete e)) k.0
    (reads s.0 (subst (λ (f : ℕ). Reads d rest s.0 (complete f)) k.1 (is d rest s.0 s.1 same)))

sound_meaning : (more : Scanner) → IsSound more → (c : ℕ) (bytes rest : List ℕ) (x : Lexeme) (ts : List Placed) (e : ℕ) → fits x rest bytes ≡ true
    → (m : Meaning) → meaning x ≡ m → by_meaning more c x rest m ≡ Some (ts, e) → Reads c bytes ts (complete e)
sound_meaning more is c bytes rest x ts e fit (token t) means h =
    sound_onto more is c (c + length (spelling x)) bytes rest (record { column = c; token = t }) ts e _ refl
    (λ us k. read c bytes rest x t us (complete e) (fits_longest x rest bytes fit) means k) h
sound_meaning more is c bytes rest x ts e fit (fault u) means h = absurd cc

sound_fit : (more : Scanner) → IsSound more → (c : ℕ) (bytes rest : List ℕ) (x : Lexeme) (ts : List Placed) (e : ℕ) (b : Bool) → fits x rest bytes ≡ b
    → by_fit more c x rest b ≡ Some (ts, e) → Reads c bytes ts (complete e)
sound_fit more is c bytes rest x ts e false fit h = absurd cc
sound_fit more is c bytes rest x ts e true fit h = sound_meaning more is c bytes rest x ts e fit (meaning x) refl h

sound_blank : (more : Scanner) → IsSound more → (c b : ℕ) (bs : List ℕ) (ts : List Placed) (e : ℕ) (t : Bool) → is_blank b ≡ t
    → by_blank more c b bs t ≡ Some (ts, e) → Reads c (b ∷ bs) ts (complete e)
sound_blank more is c b bs ts e true blanks h = blank c b bs ts (complete e) blanks (is (c + 1) bs ts e h)
sound_blank more is c b bs ts e false blanks h = sound_fit more is c (b ∷ bs) (guess b bs).1 (guess b bs).0 ts e _ refl h

none_left : (c : ℕ) (ts : List Placed) (e : ℕ) → ◌≡◌ {A = Scanned} (Some ([], c)) (Some (ts, e)) → Reads c [] ts (complete e)
none_left c ts e h =
    let k = same_scan [] ts c e h in
    subst (λ (us : List Placed). Reads c [] us (complete e)) k.0 (subst (λ (f : ℕ). Reads c [] [] (complete f)) k.1 (over c [] (inl refl)))

sound_with : (more : Scanner) → IsSound more → IsSound (scan_with more)
sound_with more is c [] ts e h = none_left c ts e h
sound_with more is c (b ∷ bs) ts e h = sound_blank more is c b bs ts e (is_blank b) refl h

sound : (n : ℕ) → IsSound (scan n)
sound zero = λ c bytes ts e h. absurd cc
sound (suc n) = sound_with (scan n) (sound n)

-- few enough bytes, all of them ASCII
abbrev pub is_plain : List ℕ → Bool
is_plain bytes = nat_le (length bytes) 65536 && list_all is_ascii bytes

nat_le_is : (a b : ℕ) → nat_le a b ≡ true → a ≤ b
nat_le_is a b h = grind (arith, nat_tests, h)

nat_lt_is : (a b : ℕ) → nat_lt a b ≡ true → a < b
nat_lt_is a b h = grind (arith, nat_tests, h)

ascii_bytes : (bytes : List ℕ) → list_all is_ascii bytes ≡ true → IsAscii bytes
ascii_bytes [] h = IsAscii-nil
ascii_bytes (b ∷ bs) h =
    let k = and_parts (is_ascii b) (list_all is_ascii bs) h in
    λ i. elim i as (λ (n : ℕ). slice_index (b ∷ bs) n < 128) [ zero ↦ nat_lt_is b 128 k.0 | suc n ↦ ascii_bytes bs k.1 n ]

same_lines : {A : Type 0} (xs ys : List A) → Some xs ≡ Some ys → xs ≡ ys
same_lines xs ys h = cc

-- lines one after another, by a machine that reads tokens
module _ {S T A : Type 0} (start : S) (step : Step S) (ends : S → Option T) (keep : ℕ → T → A) where
  abbrev pub onto_lines : A → Option (List A) → Option (List A)
  onto_lines x None = None
  onto_lines x (Some xs) = Some (x ∷ xs)

  abbrev pub by_outcome : ℕ → Outcome T → Option (List A) → Option (List A)
  by_outcome n (following.read x) rest = onto_lines (keep n x) rest
  by_outcome n (following.fault k p) rest = None

  abbrev pub by_tokens : ℕ → List Placed → Option (List A) → Option (List A)
  by_tokens n [] rest = rest
  by_tokens n (t ∷ ts) rest = by_outcome n (reads step ends 0 start (tokens_of (t ∷ ts))) rest

  abbrev pub by_scan : ℕ → Scanned → Option (List A) → Option (List A)
  by_scan n None rest = None
  by_scan n (Some s) rest = by_tokens n s.0 rest

  abbrev pub by_length : ℕ → List ℕ → Bool → Option (List A) → Option (List A)
  by_length n line false rest = None
  by_length n line true rest = by_scan n (scan (suc (length line)) 1 line) rest

  -- what the lines spell, the first of which has this number
  abbrev pub lines_from : ℕ → List (List ℕ) → Option (List A)
  lines_from n [] = Some []
  lines_from n (line ∷ lines) = by_length n line (nat_le (length line) 1024) (lines_from (n + 1) lines)

module _ {S T A : Type 0} {Spells : Grammar T} (start : S) (step : Step S) (ends : S → Option T) (keep : ℕ → T → A)
    {Reached : Limits → S → List Token → Type 0} (laws : Laws Spells start step ends Reached) where
  -- a line that is spelled, or passed over
  spelled_line : (n : ℕ) (line : List ℕ) (ts : List Placed) (e : ℕ) → length line ≤ 1024 → ReadsLine line ts (complete e)
      → (ls : List (List ℕ)) (rest : Option (List A)) → ((ys : List A) → rest ≡ Some ys → SpellFrom Spells keep (n + 1) ls ys)
      → (xs : List A) → by_tokens start step ends keep n ts rest ≡ Some xs → SpellFrom Spells keep n (line ∷ ls) xs
  spelled_line n line [] e short is ls rest below xs h = passed n line ls xs (record { short = short; end = e; reads = is }) (below xs h)
  spelled_line n line (t ∷ ts) e short is ls rest below xs h = by_outcomes (reads step ends 0 start (tokens_of (t ∷ ts))) refl h
    where
      by_rest : (x : T) → reads step ends 0 start (tokens_of (t ∷ ts)) ≡ following.read x → (r : Option (List A)) → rest ≡ r
          → onto_lines start step ends keep (keep n x) r ≡ Some xs → SpellFrom Spells keep n (line ∷ ls) xs
      by_rest x same None r_is k = absurd cc
      by_rest x same (Some ys) r_is k =
          subst (SpellFrom Spells keep n (line ∷ ls)) (same_lines (keep n x ∷ ys) xs k)
          (spelled n line ls x ys (record {
            tokens = t ∷ ts;
            scanned = record { short = short; end = e; reads = is };
            spelled = read_is_spelled laws (tokens_of (t ∷ ts)) x same;
          }) (below ys r_is))

      by_outcomes : (o : Outcome T) → reads step ends 0 start (tokens_of (t ∷ ts)) ≡ o → by_outcome start step ends keep n o rest ≡ Some xs → SpellFrom Spells keep n (line ∷ ls) xs
      by_outcomes (following.read x) same k = by_rest x same rest refl k
      by_outcomes (following.fault kind place) same k = absurd cc

  scanned_line : (n : ℕ) (line : List ℕ) (s : Scanned) → scan (suc (length line)) 1 line ≡ s → length line ≤ 1024
      → (ls : List (List ℕ)) (rest : Option (List A)) → ((ys : List A) → rest ≡ Some ys → SpellFrom Spells keep (n + 1) ls ys)
      → (xs : List A) → by_scan start step ends keep n s rest ≡ Some xs → SpellFrom Spells keep n (line ∷ ls) xs
  scanned_line n line None same short ls rest below xs h = absurd cc
  scanned_line n line (Some s) same short ls rest below xs h =
      spelled_line n line s.0 s.1 short (sound (suc (length line)) 1 line s.0 s.1 same) ls rest below xs h

  short_line : (n : ℕ) (line : List ℕ) (b : Bool) → nat_le (length line) 1024 ≡ b
      → (ls : List (List ℕ)) (rest : Option (List A)) → ((ys : List A) → rest ≡ Some ys → SpellFrom Spells keep (n + 1) ls ys)
      → (xs : List A) → by_length start step ends keep n line b rest ≡ Some xs → SpellFrom Spells keep n (line ∷ ls) xs
  short_line n line false same ls rest below xs h = absurd cc
  short_line n line true same ls rest below xs h = scanned_line n line _ refl (nat_le_is (length line) 1024 same) ls rest below xs h

  -- what the lines come to they spell
  sound_lines : (n : ℕ) (ls : List (List ℕ)) (xs : List A) → lines_from start step ends keep n ls ≡ Some xs → SpellFrom Spells keep n ls xs
  sound_lines n [] xs h = subst (SpellFrom Spells keep n []) (same_lines [] xs h) (ended n)
  sound_lines n (line ∷ ls) xs h = short_line n line _ refl ls (lines_from start step ends keep (n + 1) ls) (sound_lines (n + 1) ls) xs h

  -- a text of ASCII bytes spells what its lines come to
  pub text_is_spelled : (bytes : List ℕ) (xs : List A) → is_plain bytes ≡ true → lines_from start step ends keep 1 (cut_lines bytes) ≡ Some xs → SpellsText Spells keep bytes xs
  text_is_spelled bytes xs plain h =
      let k = and_parts (nat_le (length bytes) 65536) (list_all is_ascii bytes) plain in
      record {
        text = record { size = nat_le_is (length bytes) 65536 k.0; utf8 = IsUtf8-from_ascii bytes (ascii_bytes bytes k.1) };
        lines = sound_lines 1 (cut_lines bytes) xs h;
      }

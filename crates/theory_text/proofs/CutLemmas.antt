-- The first of the lines into which bytes are cut.
use Rattle.std.proofs.Common.{◌≡◌, ℕ, ◌+◌, ◌-◌, ◌<◌, ◌≤◌, Bool, true, false, not, ◌==◌, cond, List, [], ◌∷◌, ◌++◌, length, take, drop, refl, sym, ap, ◌∙◌, subst, arith, length-append}
use Rattle.std.proofs.lemmas.Bool.{false≢true, and_parts, eqb-true}
use Rattle.std.proofs.lemmas.List.{append-nil, take_all}
use Rattle.theory_grammar.specs.declared.text_kind.TextKind.TheVariants.{BadToken}
use Rattle.theory_grammar.specs.OneLine.{has_no_feed, in_line_1}
use Rattle.theory_grammar.specs.TextFault.{onto_first, cut_lines}
use Rattle.theory_text.specs.declared.error.TextError.{TextError}
use Rattle.theory_text.specs.Answers.{fault_of}
use Rattle.theory_text.specs.Cut.{IsBeforeFeed, CutsFirst, TellsFeed}

-- a byte that is no line feed stands on the line of the next
onto_line : (b : ℕ) (t : Bool) (l : List ℕ) (ls : List (List ℕ)) (bs : List ℕ) → not t ≡ true → cut_lines bs ≡ l ∷ ls →
    cond t ([] ∷ cut_lines bs) (onto_first b (cut_lines bs)) ≡ (b ∷ l) ∷ ls
onto_line b true l ls bs h e = absurd (false≢true h)
onto_line b false l ls bs h e = ap (onto_first b) e

alone : (b : ℕ) (t : Bool) → not t ≡ true → cond t ([] ∷ []) (onto_first b []) ≡ (b ∷ []) ∷ []
alone b true h = absurd (false≢true h)
alone b false h = refl

-- bytes without a line feed and then one are the first line
cut_first : (l rest : List ℕ) → has_no_feed l ≡ true → cut_lines (l ++ 10 ∷ rest) ≡ l ∷ cut_lines rest
cut_first [] rest h = refl
cut_first (b ∷ l) rest h =
    let parts = and_parts (not (b == 10)) (has_no_feed l) h in
    onto_line b (b == 10) l (cut_lines rest) (l ++ 10 ∷ rest) parts.0 (cut_first l rest parts.1)

-- bytes without a line feed are one line
cut_last : (b : ℕ) (l : List ℕ) → has_no_feed (b ∷ l) ≡ true → cut_lines (b ∷ l) ≡ (b ∷ l) ∷ []
cut_last b [] h = alone b (b == 10) (and_parts (not (b == 10)) true h).0
cut_last b (d ∷ l) h =
    let parts = and_parts (not (b == 10)) (has_no_feed (d ∷ l)) h in
    onto_line b (b == 10) (d ∷ l) [] (d ∷ l) parts.0 (cut_last d l parts.1)

-- no line feed is left, and some byte is there
pub last_line : (l rest bytes : List ℕ) → IsBeforeFeed l rest bytes → length rest < 1 → 0 < length bytes → CutsFirst l rest bytes
last_line l (d ∷ rest) bytes cut none some = absurd (omega arith)
last_line [] [] bytes cut none some = absurd (omega (arith, ap length cut.whole))
last_line (b ∷ l) [] bytes cut none some =
    let whole : bytes ≡ b ∷ l = cut.whole ∙ append-nil (b ∷ l) in
    record { lines = ap cut_lines whole ∙ cut_last b l cut.pass; shorter = omega (arith, ap length whole) }

stops : (b : ℕ) (t : Bool) → (b == 10) ≡ t → not t ≡ false → b ≡ 10
stops b true e h = eqb-true b 10 e
stops b false e h = absurd (false≢true (sym h))

-- a line feed is left
pub next_line : (l rest bytes : List ℕ) → IsBeforeFeed l rest bytes → 1 ≤ length rest → CutsFirst l (take (length rest - 1) (drop 1 rest)) bytes
next_line l [] bytes cut some = absurd (omega arith)
next_line l (b ∷ rest) bytes cut some =
    let feed : b ≡ 10 = stops b (b == 10) refl cut.ends in
    let whole : bytes ≡ l ++ 10 ∷ rest = cut.whole ∙ ap (λ (d : ℕ). l ++ d ∷ rest) feed in
    let cut_short : CutsFirst l rest bytes = record {
      lines = ap cut_lines whole ∙ cut_first l rest cut.pass;
      shorter = omega (arith, ap length whole ∙ length-append l (10 ∷ rest));
    } in
    subst (λ (bs : List ℕ). CutsFirst l bs bytes) (sym (take_all (length (b ∷ rest) - 1) rest (omega arith))) cut_short

-- the first line feed of the bytes
pub feed_told : (before rest bytes : List ℕ) (e : TextError) → IsBeforeFeed before rest bytes → false ≡ (length rest == 0) →
    fault_of e ≡ in_line_1 BadToken (length before + 1) → TellsFeed bytes e
feed_told before [] bytes e cut some told = absurd (false≢true some)
feed_told before (b ∷ rest) bytes e cut some told =
    let feed : b ≡ 10 = stops b (b == 10) refl cut.ends in
    record { before = before; behind = rest; split = cut.whole ∙ ap (λ (d : ℕ). before ++ d ∷ rest) feed; none = cut.pass; told = told }

-- no line feed stands among the bytes
pub no_feed : (before rest bytes : List ℕ) → IsBeforeFeed before rest bytes → true ≡ (length rest == 0) → has_no_feed bytes ≡ true
no_feed before (b ∷ rest) bytes cut none = absurd (omega (arith, eqb-true (length (b ∷ rest)) 0 (sym none)))
no_feed before [] bytes cut none = ap has_no_feed (cut.whole ∙ append-nil before) ∙ cut.pass

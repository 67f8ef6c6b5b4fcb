-- The printed lines of a text that bytes spell: they spell the same lines.
use Rattle.std.proofs.Common.{◌≡◌, ℕ, ◌+◌, ◌≤◌, Bool, true, false, not, ◌==◌, cond, List, [], ◌∷◌, ◌++◌, length, Some, refl, sym, ap, subst, arith}
use Rattle.std.specs.Prelude.{IsUtf8}
use Rattle.std.proofs.lemmas.Bool.{false≢true, and_parts}
use Rattle.std.proofs.lemmas.Str.{IsUtf8-append, IsUtf8-nil, IsUtf8-from_ascii}
use Rattle.std.proofs.lemmas.Str.Ascii.{IsAscii-nil, IsAscii-cons}
use Rattle.std.specs.List.{AllByRecursion}
use Rattle.theory_meaning.specs.Edit.{lines_alone, numbered_from}
use Rattle.theory_meaning.specs.Tree.{Line}
use Rattle.theory_meaning.specs.Text.{Numbered}
use Rattle.theory_grammar.specs.Spelled.{IsLine}
use Rattle.theory_grammar.specs.OneLine.{has_no_feed, SpellsLine}
use Rattle.theory_grammar.specs.TextFault.{onto_first, cut_lines, SpellFrom, SpellsText, ended, passed, spelled}
use Rattle.theory_grammar.specs.Texts.{with_number, SpellsLines}
use Rattle.theory_grammar.specs.Printed.{line_text, text_of}
use Rattle.theory_grammar.specs.Opened.{open_in_line}
use Rattle.theory_grammar.specs.RoundTrip.{AreShort}
use Rattle.theory_grammar.proofs.Opening.{Fits}
use Rattle.theory_grammar.proofs.PrintedLines.{Limited, printed_line_spells}

-- bytes without a line feed and then one are the first line
cut_byte : (b : ℕ) (t : Bool) (l : List ℕ) (ls : List (List ℕ)) (bs : List ℕ) → not t ≡ true → cut_lines bs ≡ l ∷ ls →
    cond t ([] ∷ cut_lines bs) (onto_first b (cut_lines bs)) ≡ (b ∷ l) ∷ ls
cut_byte b true l ls bs h e = absurd (false≢true h)
cut_byte b false l ls bs h e = ap (onto_first b) e

cut_first : (l rest : List ℕ) → has_no_feed l ≡ true → cut_lines (l ++ 10 ∷ rest) ≡ l ∷ cut_lines rest
cut_first [] rest h = refl
cut_first (b ∷ l) rest h =
    let parts = and_parts (not (b == 10)) (has_no_feed l) h in
    cut_byte b (b == 10) l (cut_lines rest) (l ++ 10 ∷ rest) parts.0 (cut_first l rest parts.1)

module _ (deep : Bool) where
  -- each of these lines is spelled by its printed form
  abbrev pub AllPrinted : List Line → Type 0
  AllPrinted = AllByRecursion (λ line. SpellsLine (Limited deep IsLine) (line_text line) (Some line))

  -- and opens no more signs than there is room for
  abbrev pub AllFit : List Line → Type 0
  AllFit = AllByRecursion (λ line. Fits deep 0 (open_in_line line))

  all_printed : (n : ℕ) (ls : List (List ℕ)) (lines : List Numbered) → SpellFrom IsLine with_number n ls lines → AreShort (lines_alone lines) →
      AllFit (lines_alone lines) → AllPrinted (lines_alone lines)
  all_printed n ls lines (ended _) short fit = tt
  all_printed n ls lines (passed _ l rest xs scanned more) short fit = all_printed (n + 1) rest xs more short fit
  all_printed n ls lines (spelled _ l rest tree xs one more) short fit =
      (printed_line_spells deep l tree one short.0 fit.0, all_printed (n + 1) rest xs more short.1 fit.1)

  text_utf8 : (lines : List Line) → AllPrinted lines → IsUtf8 (text_of lines)
  text_utf8 [] h = IsUtf8-nil
  text_utf8 (line ∷ lines) h =
      let feed : IsUtf8 (10 ∷ []) = IsUtf8-from_ascii (10 ∷ []) (IsAscii-cons 10 [] (omega arith) IsAscii-nil) in
      IsUtf8-append (line_text line) (10 ∷ text_of lines) h.0.text.utf8 (IsUtf8-append (10 ∷ []) (text_of lines) feed (text_utf8 lines h.1))

  text_spells : (n : ℕ) (lines : List Line) → AllPrinted lines
      → SpellFrom (Limited deep IsLine) with_number n (cut_lines (text_of lines)) (numbered_from n lines)
  text_spells n [] h = ended n
  text_spells n (line ∷ lines) h =
      subst (λ (ls : List (List ℕ)). SpellFrom (Limited deep IsLine) with_number n ls (numbered_from n (line ∷ lines)))
      (sym (cut_first (line_text line) (text_of lines) h.0.one))
      (spelled n (line_text line) (cut_lines (text_of lines)) line (numbered_from (n + 1) lines) h.0.line (text_spells (n + 1) lines h.1))

  pub printed_text_spells : (bytes : List ℕ) (lines : List Numbered) → SpellsLines bytes lines → AreShort (lines_alone lines) →
      length (text_of (lines_alone lines)) ≤ 65536 → AllFit (lines_alone lines) →
      SpellsText (Limited deep IsLine) with_number (text_of (lines_alone lines)) (numbered_from 1 (lines_alone lines))
  printed_text_spells bytes lines h short size fit =
      let all = all_printed 1 (cut_lines bytes) lines h.lines short fit in
      record {
        text = record { size = size; utf8 = text_utf8 (lines_alone lines) all };
        lines = text_spells 1 (lines_alone lines) all;
      }

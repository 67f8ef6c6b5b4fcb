-- Names, labels, arguments and shifts of what bytes spell.
use Rattle.std.proofs.Common.{ℕ, suc, ◌+◌, List, [], ◌∷◌, map, arith}
use Rattle.std.specs.Prelude.{All, IfOk, IfSome, Option, Some, None, Result, Ok, Err, option_map}
use Rattle.std.specs.List.{AllByRecursion}
use Rattle.std.proofs.lemmas.List.Elements.{All-cons}
use Rattle.theory_meaning.specs.Edit.{HasIdentifiers, HaveIdentifiers, PutsIdentifiers}
use Rattle.theory_meaning.specs.Identifier.{IsIdentifier}
use Rattle.theory_meaning.specs.Point.{Name}
use Rattle.theory_meaning.specs.Text.{Numbered, Op, put_line, drop_key}
use Rattle.theory_meaning.specs.Tree.{Line}
use Rattle.theory_grammar.specs.Scan.{Placed, IsFit, complete}
use Rattle.theory_grammar.specs.Spelled.{every, IsLine, model_line, var_line, param_line, function_line, equation_line, assume_line, claim_line, shift_line, IsOp, put, drop}
use Rattle.theory_grammar.specs.TextFault.{tokens_of, SpellsOne, SpellFrom, ended, passed, spelled}
use Rattle.theory_grammar.specs.Texts.{with_number, without_number, SpellsLines, SpellsOps, SpellsOneLine, IsFirstLineFault}
use Rattle.theory_grammar.specs.Token.{Token, name}
use Rattle.theory_grammar.proofs.FitLaws.{reads_fit}
use Rattle.theory_syntax.specs.declared.line.Line as source
use Rattle.theory_syntax.specs.Plain.{line_of}
use Rattle.theory_text.specs.Answers.{IsReadAs}
use Rattle.theory_text.specs.declared.error.TextError.{TextError}

-- names that are read are identifiers
names_fit : (xs : List Name) → All IsFit (map name xs) → AllByRecursion IsIdentifier xs
names_fit [] h = tt
names_fit (x ∷ xs) h = (h 0 (name x) (omega arith), names_fit xs (λ k d below. h (suc k) d (omega arith)))

line_identifiers : (ts : List Token) (line : Line) → IsLine every ts line → All IsFit ts → HasIdentifiers line
line_identifiers ts line (model_line {x = x}) h = (h 1 (name x) (omega arith), tt)
line_identifiers ts line (var_line {x = x}) h = (h 1 (name x) (omega arith), tt)
line_identifiers ts line (param_line {x = x}) h = (h 1 (name x) (omega arith), tt)
line_identifiers ts line (function_line {f = f} {x = x} {xs = xs}) h =
    (h 1 (name f) (omega arith), names_fit (x ∷ xs) (λ k d below. h (suc (suc (suc k))) d (omega arith)))
line_identifiers ts line (equation_line {label = label} p q) h = (h 1 (name label) (omega arith), tt)
line_identifiers ts line (assume_line {label = label} p) h = (h 1 (name label) (omega arith), tt)
line_identifiers ts line (claim_line {label = label} p) h = (h 1 (name label) (omega arith), tt)
line_identifiers ts line (shift_line {label = label} {shift = shift} p) h = (h 1 (name label) (omega arith), (h 3 (name shift) (omega arith), tt))

tokens_fit : (ps : List Placed) → All (λ p. IsFit p.token) ps → All IsFit (tokens_of ps)
tokens_fit [] h = λ k d below. absurd (omega arith)
tokens_fit (p ∷ ps) h = All-cons IsFit p.token (tokens_of ps) (h 0 p (omega arith)) (tokens_fit ps (λ k d below. h (suc k) d (omega arith)))

spelled_identifiers : (bytes : List ℕ) (line : Line) → SpellsOne IsLine bytes line → HasIdentifiers line
spelled_identifiers bytes line h =
    line_identifiers (tokens_of h.tokens) line h.spelled (tokens_fit h.tokens (reads_fit 1 bytes h.tokens (complete h.scanned.end) h.scanned.reads))

lines_identifiers : (n : ℕ) (ls : List (List ℕ)) (lines : List Numbered) → SpellFrom IsLine with_number n ls lines → HaveIdentifiers lines
lines_identifiers n ls lines (ended _) = tt
lines_identifiers n ls lines (passed _ l rest xs h more) = lines_identifiers (n + 1) rest xs more
lines_identifiers n ls lines (spelled _ l rest line xs h more) = (spelled_identifiers l line h, lines_identifiers (n + 1) rest xs more)

-- lines that bytes spell have identifiers
pub text_identifiers : (bytes : List ℕ) (lines : List Numbered) → SpellsLines bytes lines → HaveIdentifiers lines
text_identifiers bytes lines h = lines_identifiers 1 _ lines h.lines

-- the same of an edit
op_identifiers : (ts : List Token) (op : Op) → IsOp every ts op → All IsFit ts → PutsIdentifiers (op ∷ [])
op_identifiers ts op (put {ts = us} {line = line} p) h = (line_identifiers us line p (λ k d below. h (suc k) d (omega arith)), tt)
op_identifiers ts op (drop {x = x}) h = tt

spelled_puts : (bytes : List ℕ) (op : Op) → SpellsOne IsOp bytes op → PutsIdentifiers (op ∷ [])
spelled_puts bytes op h =
    op_identifiers (tokens_of h.tokens) op h.spelled (tokens_fit h.tokens (reads_fit 1 bytes h.tokens (complete h.scanned.end) h.scanned.reads))

one_more_puts : (op : Op) (ops : List Op) → PutsIdentifiers (op ∷ []) → PutsIdentifiers ops → PutsIdentifiers (op ∷ ops)
one_more_puts (put_line line) ops first rest = (first.0, rest)
one_more_puts (drop_key key) ops first rest = rest

ops_identifiers : (n : ℕ) (ls : List (List ℕ)) (ops : List Op) → SpellFrom IsOp without_number n ls ops → PutsIdentifiers ops
ops_identifiers n ls ops (ended _) = tt
ops_identifiers n ls ops (passed _ l rest xs h more) = ops_identifiers (n + 1) rest xs more
ops_identifiers n ls ops (spelled _ l rest op xs h more) = one_more_puts op xs (spelled_puts l op h) (ops_identifiers (n + 1) rest xs more)

-- edits that bytes spell put identifiers
pub edit_identifiers : (bytes : List ℕ) (ops : List Op) → SpellsOps bytes ops → PutsIdentifiers ops
edit_identifiers bytes ops h = ops_identifiers 1 _ ops h.lines

-- a line that bytes spell has identifiers
pub read_identifiers : (bytes : List ℕ) (r : Result (Option source.Line) TextError) → IsReadAs SpellsOneLine IsFirstLineFault (option_map line_of) bytes r →
    IfOk r (λ read. IfSome read (λ line. HasIdentifiers (line_of line)))
read_identifiers bytes (Ok (Some line)) h = spelled_identifiers bytes (line_of line) h.line
read_identifiers bytes (Ok None) h = tt
read_identifiers bytes (Err e) h = tt

-- Lines whose numbers are carried have the same faults, with the number of the line as it is carried.
use Rattle.std.proofs.Common.{◌≡◌, ℕ, suc, ◌+◌, ◌≤◌, Bool, true, false, cond, ◌&&◌, ◌||◌, not, nat_lt, List, [], ◌∷◌, ◌++◌, length, map, Option, Some, None, option_map, is_some, refl, sym, ap, ◌∙◌, arith}
use Rattle.std.specs.List.{list_any}
use Rattle.std.specs.Bool.{◌==◌}
use Rattle.std.proofs.lemmas.List.{map-append, length-map, length-append}
use Rattle.theory_meaning.specs.Declarations.{Declared, Use, itself, derivative, slope, use_of, declaration_of, kind_in, key_of, or_else, declared_in, listed_by, listed_in, named_by, symbols_of_line}
use Rattle.theory_meaning.specs.Edit.{numbered_from}
use Rattle.theory_meaning.specs.ModelFault.{ModelFault, is_variable, is_parameter, is_function, has_argument, is_key, has_key, has_same_key, is_undeclared, is_unknown_use, is_unfit_use, is_unknown, is_unfit, is_slope, has_bad_argument, has_fault, first_that, line_with, fault_at, fault_among, model_kinds, model_fault, most_symbols, most_lines}
use Rattle.theory_meaning.specs.declared.words.ModelKind.{ModelKind}
use Rattle.theory_meaning.specs.declared.words.ModelKind.TheVariants.{ModelLine, KeyTwice, UnknownName, BadArgument, NoShift, NotParam, TooManySymbols, TooManyLines, Memory}
use Rattle.theory_meaning.specs.Point.{Name}
use Rattle.theory_meaning.specs.Text.{Numbered}
use Rattle.theory_meaning.specs.Tree.{Line, model, var, param, function, equation, assume, claim}
use Rattle.theory_model.specs.Changed.{carried, carried_fault, carried_from}

-- the line with its number as it is carried
abbrev renumber : Numbered → Numbered
renumber n = record { at = carried n.at; line = n.line }

abbrev renumbered : List Numbered → List Numbered
renumbered = map renumber

renumbered_from : (n : ℕ) (ls : List Line) → carried_from n ls ≡ renumbered (numbered_from n ls)
renumbered_from n [] = refl
renumbered_from n (l ∷ ls) = ap (λ (ns : List Numbered). renumber (record { at = n; line = l }) ∷ ns) (renumbered_from (n + 1) ls)

-- what looks at the lines alone is the same
or_same : (a b c d : Bool) → a ≡ c → b ≡ d → (a || b) ≡ (c || d)
or_same a b c d first second = ap (λ (x : Bool). x || b) first ∙ ap (λ (y : Bool). c || y) second

any_same : (p q : Name → Bool) → ((x : Name) → p x ≡ q x) → (xs : List Name) → list_any p xs ≡ list_any q xs
any_same p q h [] = refl
any_same p q h (x ∷ xs) = or_same (p x) (list_any p xs) (q x) (list_any q xs) (h x) (any_same p q h xs)

declared_same : (ns : List Numbered) (x : Name) → declared_in (renumbered ns) x ≡ declared_in ns x
declared_same [] x = refl
declared_same (n ∷ ns) x = ap (λ (d : Option Declared). or_else (kind_in x (declaration_of n.line)) d) (declared_same ns x)

listed_same : (shifted : Bool) (ns : List Numbered) → listed_in shifted (renumbered ns) ≡ listed_in shifted ns
listed_same shifted [] = refl
listed_same shifted (n ∷ ns) = ap (λ (xs : List Name). listed_by shifted n.line ++ xs) (listed_same shifted ns)

key_same : (key : Name) (ns : List Numbered) → has_key key (renumbered ns) ≡ has_key key ns
key_same key [] = refl
key_same key (n ∷ ns) = ap (λ (b : Bool). is_key key (key_of n.line) || b) (key_same key ns)

twice_same : (o : Option Name) (above : List Numbered) → has_same_key o (renumbered above) ≡ has_same_key o above
twice_same None above = refl
twice_same (Some key) above = key_same key above

undeclared_same : (ns : List Numbered) (x : Name) → is_undeclared (renumbered ns) x ≡ is_undeclared ns x
undeclared_same ns x = ap (λ (d : Option Declared). not (is_some d)) (declared_same ns x)

unknown_same : (ns : List Numbered) (u : Use) → is_unknown_use (renumbered ns) u ≡ is_unknown_use ns u
unknown_same ns (itself x) = undeclared_same ns x
unknown_same ns (derivative x) = undeclared_same ns x
unknown_same ns (slope f u) = or_same _ _ _ _ (undeclared_same ns f) (undeclared_same ns u)

unfit_same : (ns : List Numbered) (u : Use) → is_unfit_use (renumbered ns) u ≡ is_unfit_use ns u
unfit_same ns (itself x) = refl
unfit_same ns (derivative x) = ap (λ (d : Option Declared). not (is_variable d)) (declared_same ns x)
unfit_same ns (slope f u) = ap (λ (d : Option Declared). not (has_argument u d)) (declared_same ns f)

arguments_same : (ns : List Numbered) (us : List Name) → has_bad_argument (renumbered ns) us ≡ has_bad_argument ns us
arguments_same ns [] = refl
arguments_same ns (u ∷ us) =
    or_same _ _ _ _ (or_same _ _ _ _ (ap (λ (d : Option Declared). is_function d) (declared_same ns u)) refl) (arguments_same ns us)

any_unfit_same : (ns : List Numbered) (xs : List Name) → list_any (is_unfit (renumbered ns)) xs ≡ list_any (is_unfit ns) xs
any_unfit_same ns = any_same (is_unfit (renumbered ns)) (is_unfit ns) (λ x. unfit_same ns (use_of x))

-- a line has the same faults
abbrev SameFault : ModelKind → Type 0
SameFault kind = (lines above : List Numbered) (line : Line) → has_fault kind (renumbered lines) (renumbered above) line ≡ has_fault kind lines above line

model_line_same : SameFault ModelLine
model_line_same lines [] line = refl
model_line_same lines (n ∷ ns) line = refl

unknown_name_same : SameFault UnknownName
unknown_name_same lines above line =
    or_same _ _ _ _ (any_same (is_undeclared (renumbered lines)) (is_undeclared lines) (undeclared_same lines) (named_by line))
    (any_same (is_unknown (renumbered lines)) (is_unknown lines) (λ x. unknown_same lines (use_of x)) (symbols_of_line line))

bad_argument_same : SameFault BadArgument
bad_argument_same lines above (model n) = refl
bad_argument_same lines above (var x) = refl
bad_argument_same lines above (param t) = refl
bad_argument_same lines above (function f us) = arguments_same lines us
bad_argument_same lines above (equation label u v) =
    ap (λ (b : Bool). b || list_any is_slope (symbols_of_line (equation label u v))) (any_unfit_same lines (symbols_of_line (equation label u v)))
bad_argument_same lines above (assume label c) = any_unfit_same lines (symbols_of_line (assume label c))
bad_argument_same lines above (claim label shift c) = any_unfit_same lines (symbols_of_line (claim label shift c))

no_shift_same : SameFault NoShift
no_shift_same lines above (model n) = refl
no_shift_same lines above (var x) = refl
no_shift_same lines above (param t) = refl
no_shift_same lines above (function f us) = refl
no_shift_same lines above (equation label u v) = refl
no_shift_same lines above (assume label c) = refl
no_shift_same lines above (claim label None c) = refl
no_shift_same lines above (claim label (Some t) c) = refl

not_param_same : SameFault NotParam
not_param_same lines above (model n) = refl
not_param_same lines above (var x) = refl
not_param_same lines above (param t) = refl
not_param_same lines above (function f us) = refl
not_param_same lines above (equation label u v) = refl
not_param_same lines above (assume label c) = refl
not_param_same lines above (claim label None c) = refl
not_param_same lines above (claim label (Some t) c) = ap (λ (d : Option Declared). is_some d && not (is_parameter d)) (declared_same lines t)

many_symbols_same : SameFault TooManySymbols
many_symbols_same lines above (model n) = refl
many_symbols_same lines above (var x) = refl
many_symbols_same lines above (param t) = refl
many_symbols_same lines above (function f us) = refl
many_symbols_same lines above (equation label u v) = refl
many_symbols_same lines above (assume label c) = refl
many_symbols_same lines above (claim label shift c) =
    ap (λ (xs : List Name). nat_lt most_symbols (length xs)) (listed_same (is_some shift) lines)

same_fault : (kind : ModelKind) → SameFault kind
same_fault ModelLine = model_line_same
same_fault KeyTwice = λ lines above line. twice_same (key_of line) above
same_fault UnknownName = unknown_name_same
same_fault BadArgument = bad_argument_same
same_fault NoShift = no_shift_same
same_fault NotParam = not_param_same
same_fault TooManySymbols = many_symbols_same
same_fault TooManyLines = λ lines above line. ap (λ (k : ℕ). k == most_lines) (length-map above renumber)
same_fault Memory = λ lines above line. refl

-- the first line that passes a test, with its number as it is carried
first_carried : (test test' : List Numbered → Line → Bool) → ((above : List Numbered) (line : Line) → test' (renumbered above) line ≡ test above line)
    → (above ns : List Numbered) → first_that test' (renumbered above) (renumbered ns) ≡ option_map carried (first_that test above ns)
first_carried test test' same above [] = refl
first_carried test test' same above (n ∷ ns) =
    ap (λ (b : Bool). cond b (Some (carried n.at)) (first_that test' (renumbered above ++ renumber n ∷ []) (renumbered ns))) (same above n.line)
    ∙ ap (λ (xs : List Numbered). cond (test above n.line) (Some (carried n.at)) (first_that test' xs (renumbered ns)))
    (sym (map-append renumber above (n ∷ [])))
    ∙ ap (λ (o : Option ℕ). cond (test above n.line) (Some (carried n.at)) o) (first_carried test test' same (above ++ n ∷ []) ns)
    ∙ by_test (test above n.line) (first_that test (above ++ n ∷ []) ns)
  where
    by_test : (b : Bool) (o : Option ℕ) → cond b (Some (carried n.at)) (option_map carried o) ≡ option_map carried (cond b (Some n.at) o)
    by_test true o = refl
    by_test false o = refl

-- the first line with a fault of a kind
kind_carried : (kind : ModelKind) (ns : List Numbered) →
    first_that (has_fault kind (renumbered ns)) [] (renumbered ns) ≡ option_map carried (first_that (has_fault kind ns) [] ns)
kind_carried kind ns = first_carried (has_fault kind ns) (has_fault kind (renumbered ns)) (same_fault kind ns) [] ns

line_carried : (kind : ModelKind) (ns : List Numbered) → line_with kind (renumbered ns) ≡ option_map carried (line_with kind ns)
line_carried ModelLine [] = refl
line_carried ModelLine (n ∷ ns) = kind_carried ModelLine (n ∷ ns)
line_carried KeyTwice ns = kind_carried KeyTwice ns
line_carried UnknownName ns = kind_carried UnknownName ns
line_carried BadArgument ns = kind_carried BadArgument ns
line_carried NoShift ns = kind_carried NoShift ns
line_carried NotParam ns = kind_carried NotParam ns
line_carried TooManySymbols ns = kind_carried TooManySymbols ns
line_carried TooManyLines ns = kind_carried TooManyLines ns
line_carried Memory ns = kind_carried Memory ns

-- the first fault
fault_carried : (kind : ModelKind) (o : Option ℕ) → fault_at kind (option_map carried o) ≡ option_map carried_fault (fault_at kind o)
fault_carried kind None = refl
fault_carried kind (Some n) = refl

either_carried : (a b : Option ModelFault) → or_else (option_map carried_fault a) (option_map carried_fault b) ≡ option_map carried_fault (or_else a b)
either_carried None b = refl
either_carried (Some f) b = refl

among_carried : (kinds : List ModelKind) (ns : List Numbered) → fault_among kinds (renumbered ns) ≡ option_map carried_fault (fault_among kinds ns)
among_carried [] ns = refl
among_carried (kind ∷ kinds) ns =
    ap (λ (o : Option ℕ). or_else (fault_at kind o) (fault_among kinds (renumbered ns))) (line_carried kind ns)
    ∙ ap (λ (o : Option ModelFault). or_else o (fault_among kinds (renumbered ns))) (fault_carried kind (line_with kind ns))
    ∙ ap (λ (o : Option ModelFault). or_else (option_map carried_fault (fault_at kind (line_with kind ns))) o) (among_carried kinds ns)
    ∙ either_carried (fault_at kind (line_with kind ns)) (fault_among kinds ns)

-- the fault of lines numbered as the places are carried is that of lines numbered by their places
pub model_fault_carried : (ls : List Line) → model_fault (carried_from 1 ls) ≡ option_map carried_fault (model_fault (numbered_from 1 ls))
model_fault_carried ls = ap model_fault (renumbered_from 1 ls) ∙ among_carried model_kinds (numbered_from 1 ls)

-- lines without a fault are few
few_lines : (lines above ns : List Numbered) → length above ≤ most_lines → first_that (has_fault TooManyLines lines) above ns ≡ None →
    length above + length ns ≤ most_lines
few_lines lines above [] h none = omega (arith, h)
few_lines lines above (n ∷ ns) h none = by_test (length above == most_lines) refl none (few_lines lines (above ++ n ∷ []) ns)
  where
    by_test : (b : Bool) → (length above == most_lines) ≡ b
        → cond b (Some n.at) (first_that (has_fault TooManyLines lines) (above ++ n ∷ []) ns) ≡ None
        → (length (above ++ n ∷ []) ≤ most_lines → first_that (has_fault TooManyLines lines) (above ++ n ∷ []) ns ≡ None
        → length (above ++ n ∷ []) + length ns ≤ most_lines) → length above + length (n ∷ ns) ≤ most_lines
    by_test true is e rest = absurd (grind (arith, e))
    by_test false is e rest =
        let fewer : length above + 1 ≤ most_lines = grind (arith, is, h) in
        let one : length (above ++ n ∷ []) ≡ length above + 1 = length-append above (n ∷ []) in
        let more = rest (omega (arith, fewer, one)) e in
        omega (arith, more, one)

rest_none : (a b : Option ModelFault) → or_else a b ≡ None → b ≡ None
rest_none None b h = h
rest_none (Some f) b h = absurd (grind (arith, h))

first_none : (a b : Option ModelFault) → or_else a b ≡ None → a ≡ None
first_none None b h = refl
first_none (Some f) b h = absurd (grind (arith, h))

no_line : (kind : ModelKind) (o : Option ℕ) → fault_at kind o ≡ None → o ≡ None
no_line kind None h = refl
no_line kind (Some n) h = absurd (grind (arith, h))

pub faultless_lines_are_few : (ns : List Numbered) → model_fault ns ≡ None → length ns ≤ most_lines
faultless_lines_are_few ns h =
    let a = rest_none (fault_at ModelLine (line_with ModelLine ns)) _ h in
    let b = rest_none (fault_at KeyTwice (line_with KeyTwice ns)) _ a in
    let c = rest_none (fault_at UnknownName (line_with UnknownName ns)) _ b in
    let d = rest_none (fault_at BadArgument (line_with BadArgument ns)) _ c in
    let e = rest_none (fault_at NoShift (line_with NoShift ns)) _ d in
    let f = rest_none (fault_at NotParam (line_with NotParam ns)) _ e in
    let g = rest_none (fault_at TooManySymbols (line_with TooManySymbols ns)) _ f in
    let few = few_lines ns [] ns (omega arith) (no_line TooManyLines _ (first_none (fault_at TooManyLines (line_with TooManyLines ns)) None g)) in
    omega (arith, few)

-- the numbers of few lines are carried as they are
pub few_carried : (n : ℕ) (ls : List Line) → n + length ls ≤ 1000 → carried_from n ls ≡ numbered_from n ls
few_carried n [] h = refl
few_carried n (l ∷ ls) h =
    let same : carried n ≡ n = omega (arith, h) in
    let first : Numbered = record { at = n; line = l } in
    ap (λ (k : ℕ). let m : Numbered = record { at = k; line = l } in m ∷ carried_from (n + 1) ls) same
    ∙ ap (λ (ns : List Numbered). first ∷ ns) (few_carried (n + 1) ls (omega (arith, h)))

pub length_numbered : (n : ℕ) (ls : List Line) → length (numbered_from n ls) ≡ length ls
length_numbered n [] = refl
length_numbered n (l ∷ ls) = ap suc (length_numbered (n + 1) ls)

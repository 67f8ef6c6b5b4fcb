-- What is found of the lines of a text, kind by kind, and what a check answers.
use Rattle.std.specs.Prelude.{◌≡◌, ◌⊎◌, ◌&&◌, ◌||◌, not, true, false, nat_lt, is_some, if◌then◌else◌, ℕ, length, List, [], Option, Some, None, Result, Ok, Err}
use Rattle.theory_meaning.specs.Declarations.{or_else, declared_in, listed_in}
use Rattle.theory_meaning.specs.Point.{Name}
use Rattle.theory_meaning.specs.Text as text
use Rattle.theory_meaning.specs.Tree.{Line}
use Rattle.theory_meaning.specs.ModelFault as plain
use Rattle.theory_meaning.specs.ModelFault.{most_symbols, is_undeclared, is_parameter, has_fault, line_with, fault_at, model_fault}
use Rattle.theory_meaning.specs.declared.words.ModelKind.TheVariants.{UnknownName, BadArgument, NoShift, NotParam, TooManySymbols, TooManyLines, Memory}
use Rattle.theory_syntax.specs.declared.text.Numbered as source
use Rattle.theory_syntax.specs.Plain.{lines_of}
use Rattle.theory_model.specs.Counted.{counted}
use Rattle.theory_model.specs.declared.faults.ModelFault.{ModelFault}
use Rattle.theory_model.specs.declared.judging.LineFaults.{LineFaults}
use Rattle.theory_model.specs.declared.judging.FirstLines.{FirstLines}
use Rattle.theory_model.specs.declared.judging.Counts.{Counts}
use Rattle.theory_model.specs.declared.uses.Findings.{Findings}

-- how many symbols a claim lists
abbrev pub counts_in : List text.Numbered → Counts
counts_in lines = record { plain = counted (length (listed_in false lines)); shifted = counted (length (listed_in true lines)) }

-- which faults a line has
abbrev pub faults_of : List text.Numbered → Line → LineFaults
faults_of lines line =
    record {
      unknown_name = has_fault UnknownName lines [] line;
      bad_argument = has_fault BadArgument lines [] line;
      no_shift = has_fault NoShift lines [] line;
      not_param = has_fault NotParam lines [] line;
      too_many_symbols = has_fault TooManySymbols lines [] line;
    }

-- the first line of each kind
abbrev pub first_lines_of : List text.Numbered → FirstLines
first_lines_of lines =
    record {
      unknown_name = line_with UnknownName lines;
      bad_argument = line_with BadArgument lines;
      no_shift = line_with NoShift lines;
      not_param = line_with NotParam lines;
      too_many_symbols = line_with TooManySymbols lines;
    }

-- the first lines so far, or this line for each kind of which it is the first
abbrev pub found_first : FirstLines → LineFaults → ℕ → FirstLines
found_first firsts faults at =
    record {
      unknown_name = or_else firsts.unknown_name (if faults.unknown_name then Some at else None);
      bad_argument = or_else firsts.bad_argument (if faults.bad_argument then Some at else None);
      no_shift = or_else firsts.no_shift (if faults.no_shift then Some at else None);
      not_param = or_else firsts.not_param (if faults.not_param then Some at else None);
      too_many_symbols = or_else firsts.too_many_symbols (if faults.too_many_symbols then Some at else None);
    }

-- which faults a claim has that names this shift, by what is found in its formula
abbrev pub shifted_faults_of : List text.Numbered → Name → Findings → LineFaults
shifted_faults_of lines shift found =
    record {
      unknown_name = is_undeclared lines shift || found.unknown;
      bad_argument = found.unfit;
      no_shift = false;
      not_param = is_some (declared_in lines shift) && not (is_parameter (declared_in lines shift));
      too_many_symbols = nat_lt most_symbols (length (listed_in true lines));
    }

-- a fault as it is defined
abbrev pub fault_of : ModelFault → plain.ModelFault
fault_of f = record { kind = f.kind; at = f.at }

-- the first kind, of those below the keys, that some line has
abbrev pub least_kind_of : FirstLines → Option ℕ → Option plain.ModelFault
least_kind_of firsts beyond =
    or_else (fault_at UnknownName firsts.unknown_name)
    (or_else (fault_at BadArgument firsts.bad_argument)
    (or_else (fault_at NoShift firsts.no_shift)
    (or_else (fault_at NotParam firsts.not_param)
    (or_else (fault_at TooManySymbols firsts.too_many_symbols) (fault_at TooManyLines beyond)))))

-- the same lines where no fault applies, else the first fault; but memory may run out
abbrev pub IsChecked : List source.Numbered → Result (List source.Numbered) ModelFault → Type 0
IsChecked lines (Ok model) = (model_fault (lines_of lines) ≡ None) × (model ≡ lines)
IsChecked lines (Err f) = (f.kind ≡ Memory) ⊎ (model_fault (lines_of lines) ≡ Some (fault_of f))

-- The printed form of replies. docs/PROTOCOL.md has it in words.
use Rattle.std.specs.Prelude.{ℕ, List, [], ◌∷◌, ◌++◌, length, Option, Some, None, codes, decimal}
use Rattle.theory_meaning.specs.declared.words.Rel.TheVariants.{Eq}
use Rattle.theory_meaning.specs.declared.words.Verdict.{Verdict}
use Rattle.theory_meaning.specs.Point.{Name, Point, value_at}
use Rattle.theory_meaning.specs.Printed.{fraction_text, verdict_text}
use Rattle.theory_meaning.specs.Half.{Cause, stuck, wide, large, budget, many_leaves, Half, found, found_wide, absent, left}
use Rattle.theory_meaning.specs.Region.{Region, known, unknown}
use Rattle.theory_meaning.specs.Tree.{Claim}
use Rattle.theory_grammar.specs.Printed.{claim_text, sides_text}
use Rattle.theory_derivative.specs.Differentiated.{Differentiated}
use Rattle.theory_session.specs.Ask.{Answer}
pub use Rattle.theory_session.specs.FaultText.{fault_text, refusal_text}
use Rattle.theory_session.specs.Run.{Refusal, Reply, created, edited, answered, shown, listed, refused, derived}

-- a name with its value
abbrev pub entry_text : Point → Name → List ℕ
entry_text p name = name ++ codes "=" ++ fraction_text (value_at p name)

-- the further names of a point, each behind a comma
abbrev pub further_text : Point → List Name → List ℕ
further_text p [] = []
further_text p (name ∷ names) = codes ", " ++ entry_text p name ++ further_text p names

-- the values of the listed names
abbrev pub point_text : Point → List Name → List ℕ
point_text p [] = codes "any point"
point_text p (name ∷ names) = entry_text p name ++ further_text p names

-- a symbol with the claim in which it is stuck
abbrev pub stuck_text : Name × Claim → List ℕ
stuck_text on = on.0 ++ codes " in " ++ claim_text on.1

-- the further ones, each behind a comma
abbrev pub further_stuck : List (Name × Claim) → List ℕ
further_stuck [] = []
further_stuck (on ∷ ons) = codes ", " ++ stuck_text on ++ further_stuck ons

-- all of them, behind a space
abbrev pub stuck_texts : List (Name × Claim) → List ℕ
stuck_texts [] = []
stuck_texts (on ∷ ons) = codes " " ++ stuck_text on ++ further_stuck ons

-- why a half or a condition is left open
abbrev pub cause_text : Cause → List ℕ
cause_text (stuck ons) = codes "stuck on" ++ stuck_texts ons
cause_text wide = codes "a polynomial passes the limit"
cause_text large = codes "a formula passes the limit"
cause_text budget = codes "the search passes the limit"
cause_text many_leaves = codes "the condition passes the limit"

-- a half
abbrev pub half_text : List Name → Half → List ℕ
half_text names (found p) = point_text p names
half_text names found_wide = codes "some point, not printable"
half_text names absent = codes "none"
half_text names (left cause) = codes "undecided, " ++ cause_text cause

-- the end of a line
abbrev pub line_end : List ℕ
line_end = 10 ∷ []

-- what an answer is about
abbrev pub subject_text : Name → ℕ → Name → List ℕ
subject_text model version claim = codes "claim " ++ claim ++ codes " of " ++ model ++ codes " " ++ decimal version

-- the first line of an answer
abbrev pub question_text : Name → ℕ → Name → Verdict → List ℕ
question_text model version claim verdict = subject_text model version claim ++ codes ": " ++ verdict_text verdict ++ line_end

-- the line of a half behind its word
abbrev pub half_line : List ℕ → List Name → Half → List ℕ
half_line word names half = word ++ half_text names half ++ line_end

-- the two lines of the halves
abbrev pub halves_text : List Name → Half → Half → List ℕ
halves_text names example counter = half_line (codes "  example: ") names example ++ half_line (codes "  counterexample: ") names counter

-- the condition under which a claim holds, or why it isn't known
abbrev pub region_text : Region → List ℕ
region_text (known condition) = claim_text condition
region_text (unknown cause) = codes "unknown, " ++ cause_text cause

-- its line, where there is one
abbrev pub region_line : Option Region → List ℕ
region_line None = []
region_line (Some region) = codes "  holds where: " ++ region_text region ++ line_end

-- the line of a created model
abbrev pub created_text : Name → ℕ → List ℕ
created_text model version = codes "created " ++ model ++ codes " " ++ decimal version ++ line_end

-- the lines of an answer
abbrev pub answer_text : Answer → List ℕ
answer_text a =
    question_text a.model a.version a.claim a.verdict ++ halves_text a.symbols a.example a.counter ++ region_line a.region

-- the line of an edited model
abbrev pub edited_text : Name → ℕ → List ℕ
edited_text model version = codes "edited " ++ model ++ codes " " ++ decimal version ++ line_end

-- the lines of a version that is shown: its printed text between two lines
abbrev pub shown_text : Name → ℕ → List ℕ → List ℕ
shown_text model version text =
    codes "text of " ++ model ++ codes " " ++ decimal version ++ line_end ++ text ++ codes "end" ++ line_end

-- the line of a model with its last version
abbrev pub model_text : Name × ℕ → List ℕ
model_text m = codes "  " ++ m.0 ++ codes " " ++ decimal m.1 ++ line_end

-- those of models
abbrev pub models_text : List (Name × ℕ) → List ℕ
models_text [] = []
models_text (m ∷ ms) = model_text m ++ models_text ms

-- the lines of the models that are listed, their number first
abbrev pub listed_text : List (Name × ℕ) → List ℕ
listed_text ms = codes "models " ++ decimal (length ms) ++ line_end ++ models_text ms

-- the line of a refusal
abbrev pub refused_text : Refusal → List ℕ
refused_text refusal = codes "refused " ++ refusal_text refusal ++ line_end

-- the line of a differentiated equation
abbrev pub differentiated_text : Differentiated → List ℕ
differentiated_text d = d.label ++ codes " by " ++ d.by ++ codes ": " ++ sides_text d.left Eq d.right ++ line_end

-- the lines of differentiated equations
abbrev pub derived_text : List Differentiated → List ℕ
derived_text [] = []
derived_text (d ∷ ds) = differentiated_text d ++ derived_text ds

-- the printed form of a reply
abbrev pub reply_text : Reply → List ℕ
reply_text (created model version) = created_text model version
reply_text (edited model version) = edited_text model version
reply_text (answered a) = answer_text a
reply_text (shown model version text) = shown_text model version text
reply_text (listed ms) = listed_text ms
reply_text (refused refusal) = refused_text refusal
reply_text (derived equations) = derived_text equations

-- the printed forms of replies, one after another
abbrev pub replies_text : List Reply → List ℕ
replies_text [] = []
replies_text (r ∷ rs) = reply_text r ++ replies_text rs

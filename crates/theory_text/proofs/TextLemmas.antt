-- Lines of a text that are read one after another.
use Rattle.std.proofs.Common.{◌≡◌, ◌⊎◌, inl, inr, ℕ, ◌+◌, ◌≤◌, true, ◌==◌, List, [], ◌∷◌, ◌++◌, length, Option, Some, None, Ok, Err, sym, ap, ◌∙◌, subst, arith, append_assoc}
use Rattle.std.specs.Prelude.{Result, take}
use Rattle.std.specs.Result.{IsErrAnd}
use Rattle.std.proofs.lemmas.Bool.{eqb-true}
use Rattle.std.proofs.lemmas.List.{append-nil}
use Rattle.theory_grammar.specs.declared.text_kind.TextKind.TheVariants as kind
use Rattle.theory_grammar.specs.LineFault.{Grammar}
use Rattle.theory_grammar.specs.OneLine.{IsLineAs}
use Rattle.theory_grammar.specs.TextFault.{Fault, fault_behind, cut_lines, IsText, IsFine, SpellFrom, ended, passed, spelled, FailFrom, here, later, SpellsText, TextFails, too_large, not_utf8, in_line}
use Rattle.theory_text.specs.declared.error.TextError.{TextError}
use Rattle.theory_text.specs.Added.{kept, AddsLine}
use Rattle.theory_text.specs.Answers.{fault_of, IsReadAs}
use Rattle.theory_text.specs.Checked.{IsTextOr}
use Rattle.theory_text.specs.Cut.{CutsFirst}
use Rattle.theory_text.specs.LineRead.{TellsLineFault}

-- the lines before the rest are read, and the line of this number comes next
pub record IsReadTo {T A : Type 0} (Spells : Grammar T) (keep : ℕ → T → A) (n : ℕ) (xs : List A) (rest bytes : List ℕ) : Type 0 where
  pub bound : n + length rest ≤ length bytes + 1
  pub spells : (ys : List A) → SpellFrom Spells keep n (cut_lines rest) ys → SpellFrom Spells keep 1 (cut_lines bytes) (xs ++ ys)
  pub fails : (f : Fault) → FailFrom Spells n (cut_lines rest) f → FailFrom Spells 1 (cut_lines bytes) f

pub none_read : {T A : Type 0} (Spells : Grammar T) (keep : ℕ → T → A) (bytes : List ℕ) → IsReadTo Spells keep 1 [] bytes bytes
none_read Spells keep bytes = record { bound = omega arith; spells = λ ys r. r; fails = λ f r. r }

-- the first line and those behind it
line_then : {T A : Type 0} (Spells : Grammar T) (keep : ℕ → T → A) (n : ℕ) (l : List ℕ) (ls : List (List ℕ)) (tree : Option T) (ys : List A) →
    IsLineAs Spells l tree → SpellFrom Spells keep (n + 1) ls ys → SpellFrom Spells keep n (l ∷ ls) (kept keep n tree ++ ys)
line_then Spells keep n l ls None ys h r = passed n l ls ys h r
line_then Spells keep n l ls (Some tree) ys h r = spelled n l ls tree ys h r

pub fine_line : {T : Type 0} (Spells : Grammar T) (l : List ℕ) (tree : Option T) → IsLineAs Spells l tree → IsFine Spells l
fine_line Spells l None h = inl h
fine_line Spells l (Some tree) h = inr (tree, h)

-- one more line is read
pub one_more_read : {T A : Type 0} (Spells : Grammar T) (keep : ℕ → T → A) (n : ℕ) (xs zs : List A) (line behind rest bytes : List ℕ) →
    IsReadTo Spells keep n xs rest bytes → CutsFirst line behind rest → AddsLine Spells keep n line xs zs →
    IsReadTo Spells keep (n + 1) zs behind bytes
one_more_read Spells keep n xs zs line behind rest bytes h cut adds =
    let shorter = cut.shorter in
    let bound = h.bound in
    let others = cut_lines behind in
    record {
      bound = omega arith;
      spells = λ ys r.
          let from_line = line_then Spells keep n line others adds.tree ys adds.line r in
          let from_rest = subst (λ (ls : List (List ℕ)). SpellFrom Spells keep n ls (kept keep n adds.tree ++ ys)) (sym cut.lines) from_line in
          let same : xs ++ (kept keep n adds.tree ++ ys) ≡ zs ++ ys =
          sym (append_assoc xs (kept keep n adds.tree) ys) ∙ ap (λ ws. ws ++ ys) (sym adds.added) in
          subst (SpellFrom Spells keep 1 (cut_lines bytes)) same (h.spells (kept keep n adds.tree ++ ys) from_rest);
      fails = λ f r.
          let from_line = later n line others f (fine_line Spells line adds.tree adds.line) r in
          h.fails f (subst (λ (ls : List (List ℕ)). FailFrom Spells n ls f) (sym cut.lines) from_line);
    }

-- no line is left
pub all_read : {T A : Type 0} (Spells : Grammar T) (keep : ℕ → T → A) (n : ℕ) (xs : List A) (rest bytes : List ℕ) → IsText bytes → true ≡ (length rest == 0) →
    IsReadTo Spells keep n xs rest bytes → SpellsText Spells keep bytes xs
all_read Spells keep n xs (b ∷ rest) bytes text none h = absurd (omega (arith, eqb-true (length (b ∷ rest)) 0 (sym none)))
all_read Spells keep n xs [] bytes text none h =
    record { text = text; lines = subst (SpellFrom Spells keep 1 (cut_lines bytes)) (append-nil xs) (h.spells [] (ended n)) }

-- what an error tells of a text
abbrev pub TellsTextFault : {T : Type 0} → Grammar T → List ℕ → TextError → Type 0
TellsTextFault Spells bytes e = (e.kind ≡ kind.Memory) ⊎ TextFails Spells bytes (fault_of e)

-- the next line has a fault
pub line_fails : {T A : Type 0} (Spells : Grammar T) (keep : ℕ → T → A) (n : ℕ) (xs : List A) (line behind rest bytes : List ℕ) (e : TextError) →
    IsText bytes → IsReadTo Spells keep n xs rest bytes → CutsFirst line behind rest → TellsLineFault Spells n line e → TellsTextFault Spells bytes e
line_fails Spells keep n xs line behind rest bytes e text h cut (inl memory) = inl memory
line_fails Spells keep n xs line behind rest bytes e text h cut (inr fails) =
    let at_number = subst (λ (m : ℕ). FailFrom Spells m (line ∷ cut_lines behind) (fault_of e)) fails.0
    (here e.line line (cut_lines behind) e.kind e.column fails.1) in
    inr (in_line (fault_of e) text (h.fails (fault_of e) (subst (λ (ls : List (List ℕ)). FailFrom Spells n ls (fault_of e)) (sym cut.lines) at_number)))

-- the bytes are no text
pub no_text : {T : Type 0} (Spells : Grammar T) (bytes : List ℕ) (e : TextError) →
    IsTextOr (λ k n. fault_behind k (take n bytes)) bytes (Err e) → TellsTextFault Spells bytes e
no_text Spells bytes e (inl large) = inr (subst (TextFails Spells bytes) (sym large.1) (too_large large.0))
no_text Spells bytes e (inr h) = inr (subst (TextFails Spells bytes) (sym h.same) (not_utf8 h.end h.size h.valid))

-- an error that is passed on
pub passed_error : {V X T : Type 0} (Spells : Grammar T) (Stands : List ℕ → X → Type 0) (plain : V → X) (bytes : List ℕ) (e : TextError)
    (r : Result V TextError) → TellsTextFault Spells bytes e → IsErrAnd r (λ f. f ≡ e) → IsReadAs Stands (TextFails Spells) plain bytes r
passed_error Spells Stands plain bytes e (Ok v) h is = absurd is
passed_error Spells Stands plain bytes e (Err f) h is = subst (TellsTextFault Spells bytes) (sym is) h

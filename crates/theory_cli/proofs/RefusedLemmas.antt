-- The one fault of a question, by its place.
use Rattle.std.proofs.Common.{◌≡◌, ◌++◌, ℕ, List, Result, Ok, Err, ap, ◌∙◌, append_assoc}
use Rattle.std.specs.Prelude.{OnOk, codes, decimal}
use borrow.Enum.Total.{values_d}
use Rattle.theory_session.specs.Printed.{fault_text}
use Rattle.theory_cli.specs.Plain.{fault_of}
use Rattle.theory_cli.specs.contracts.reply.AskFault.{enum}
use Rattle.theory_cli.specs.declared.reply.AskFault.{AskFault}
use Rattle.theory_cli.specs.declared.reply.AskFault.TheVariants.{UnknownName}

-- the text that was there, a word, and the place, make the printed fault
pub fault_told : (f : AskFault) (before word now : List ℕ) → word ≡ before ++ codes "UnknownName " → now ≡ word ++ decimal (values_d enum 0 (0, tt) f).0
    → now ≡ before ++ fault_text (fault_of f)
fault_told (UnknownName place) before word now h k =
    k ∙ ap (λ (t : List ℕ). t ++ decimal place) h ∙ append_assoc before (codes "UnknownName ") (decimal place)

-- what follows on success
pub on_success : {T E : Type 0} {P Q : Type 0} (r : Result T E) → (P → Q) → OnOk r P → OnOk r Q
on_success (Ok x) f h = f h
on_success (Err e) f h = h

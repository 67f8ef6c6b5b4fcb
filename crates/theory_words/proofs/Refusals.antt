-- Words that are no command.
use Rattle.std.proofs.Common.{rules, ap, refl, sym, codes, false, List, [], ◌∷◌, Bool, None, ◌≡◌, ◌≢◌, ◌∙◌, if◌then◌else◌}
use Rattle.std.specs.Option.{option_and_then}
use Rattle.std.specs.Str.{bytes_eq}
use Rattle.std.proofs.lemmas.Slice.Eq.{bytes_eq-Decides}
use Rattle.clap.specs.Words.{App, Kinds, Text, fault_of, matches_of}
use Rattle.theory_words.specs.Arguments.{check_arguments, derive_arguments}
use Rattle.theory_words.specs.Commands.{Command, check_of, derive_of, found_in, without_fault, command_in, IsCommand, IsNoCommand}

pub one : (words : List Text) (a b : Command) → IsCommand words a → IsCommand words b → a ≡ b
one words a b h k = search (rules, sym h ∙ k)

-- what gives none gives no command
pub none : (words : List Text) → command_in words ≡ None → IsNoCommand words
none words e command h = search (rules, sym e ∙ h)

differ : (a b : Text) → a ≢ b → bytes_eq a b ≡ false
differ a b h = search (rules, bytes_eq-Decides a b, h)

pub other_name : (word : Text) (behind : List Text) → word ≢ codes "check" → word ≢ codes "derive" → IsNoCommand (word ∷ behind)
other_name word behind h k = none (word ∷ behind)
    (ap (λ (b : Bool). if b then option_and_then check_of (found_in check_arguments behind)
    else (if bytes_eq word (codes "derive") then option_and_then derive_of (found_in derive_arguments behind) else None)) (differ word (codes "check") h)
    ∙ ap (λ (b : Bool). if b then option_and_then derive_of (found_in derive_arguments behind) else None) (differ word (codes "derive") k))

nothing_found : (app : App) (words : List Text) → fault_of app words ≢ [] → found_in app words ≡ None
nothing_found app words h = go (fault_of app words) h
  where
    go : (kinds : Kinds) → kinds ≢ [] → without_fault kinds (matches_of app words) ≡ None
    go [] h = absurd (h refl)
    go (k ∷ ks) h = refl

pub refused_check : (behind : List Text) → fault_of check_arguments behind ≢ [] → IsNoCommand (codes "check" ∷ behind)
refused_check behind h = none (codes "check" ∷ behind) (ap (option_and_then check_of) (nothing_found check_arguments behind h))

pub refused_derivation : (behind : List Text) → fault_of derive_arguments behind ≢ [] → IsNoCommand (codes "derive" ∷ behind)
refused_derivation behind h = none (codes "derive" ∷ behind) (ap (option_and_then derive_of) (nothing_found derive_arguments behind h))

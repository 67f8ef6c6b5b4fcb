-- The parts between commas.
use Rattle.std.proofs.Common.{subst, sym, List, [], ◌∷◌, ℕ, true, false, ◌≡◌, ◌≢◌, ◌⊎◌, inl, inr}
use Rattle.std.specs.Prelude.{nat_eq}
use Rattle.std.specs.List.{All, onto_first}
use Rattle.std.proofs.lemmas.Bool.Decides.{eqb_tells}
use Rattle.std.proofs.lemmas.List.Elements.{All-nil, All-cons, All-head, All-tail}
use Rattle.std.proofs.lemmas.List.Splits.{slice_split-cons_yes, slice_split-cons_no}
use Rattle.clap.specs.Words.{Text}
use Rattle.theory_words.specs.Commands.{comma, parts_at_commas}

-- the byte is no comma
abbrev IsOther : ℕ → Type 0
IsOther byte = byte ≢ comma

-- no byte of the text is a comma
abbrev HasNone : Text → Type 0
HasNone text = All IsOther text

onto : (x : ℕ) (parts : List Text) → x ≢ comma → All HasNone parts → All HasNone (onto_first x parts)
onto x [] other h = All-cons HasNone (x ∷ []) [] (All-cons IsOther x [] other (All-nil IsOther)) (All-nil HasNone)
onto x (part ∷ parts) other h =
    All-cons HasNone (x ∷ part) parts (All-cons IsOther x part other (All-head HasNone part parts h)) (All-tail HasNone part parts h)

-- no part has a comma
pub parts_apart : (text : Text) → All HasNone (parts_at_commas text)
parts_apart [] = All-cons HasNone [] [] (All-nil IsOther) (All-nil HasNone)
parts_apart (x ∷ xs) = go (eqb_tells x comma) (parts_apart xs)
  where
    go : ((nat_eq x comma ≡ true) × (x ≡ comma)) ⊎ ((nat_eq x comma ≡ false) × (x ≢ comma)) → All HasNone (parts_at_commas xs)
        → All HasNone (parts_at_commas (x ∷ xs))
    go (inl e) below = subst (All HasNone) (sym (slice_split-cons_yes _ x xs e.0)) (All-cons HasNone [] _ (All-nil IsOther) below)
    go (inr e) below = subst (All HasNone) (sym (slice_split-cons_no _ x xs e.0)) (onto x (parts_at_commas xs) e.1 below)

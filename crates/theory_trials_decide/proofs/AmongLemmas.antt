-- One name more among others.
use Rattle.std.proofs.Common.{◌≡◌, ℕ, ◌+◌, ◌<◌, length, List, [], ◌∷◌, get_or, drop, subst, sym, ap, ◌∙◌, arith, inl, inr}
use Rattle.std.specs.Prelude.{Contains}
use Rattle.std.proofs.lemmas.List.{drop_more}
use Rattle.std.proofs.lemmas.List.Elements.{Contains-append_cases, Contains-push_cases}
use Rattle.theory_meaning.specs.Point.{Name}
use Rattle.theory_meaning.specs.Region.{AreAmong}

one_more : (n : Name) (ns names : List Name) → Contains names n → AreAmong ns names → AreAmong (n ∷ ns) names
one_more n ns names h k x i =
    elim (Contains-append_cases (n ∷ []) ns x i) [
      | inl first ↦ elim (Contains-push_cases [] n x first) [ inl none ↦ absurd (let l = none.1 in omega arith) | inr same ↦ subst (Contains names) same h ]
      | inr later ↦ k x later
    ]

-- what is among them from a place on, with the name at that place
pub among_from : (some names : List Name) (i : ℕ) (n : Name) → i < length some → n ≡ get_or some i n → Contains names n
    → AreAmong (drop (i + 1) some) names → AreAmong (drop i some) names
among_from some names i n l is h k =
    let at : drop i some ≡ n ∷ drop (i + 1) some = drop_more some i n l ∙ ap (λ (m : Name). m ∷ drop (i + 1) some) (sym is) in
    subst (λ ns. AreAmong ns names) (sym at) (one_more n (drop (i + 1) some) names h k)

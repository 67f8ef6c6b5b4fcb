-- Numbers that more digits make no smaller.
use Rattle.std.proofs.Common.{◌≡◌, ℕ, ◌+◌, ◌-◌, ◌*◌, ◌≤◌, List, [], ◌∷◌, ◌++◌, take, drop, fold, refl, sym, ap, ◌∙◌, arith, take-append-drop}
use Rattle.theory_grammar.specs.Lexeme.{number_of}

-- one more digit
abbrev pub next_digit : ℕ → ℕ → ℕ
next_digit n d = n * 10 + (d - 48)

grows : (n : ℕ) (ds : List ℕ) → n ≤ fold next_digit n ds
grows n [] = omega arith
grows n (d ∷ ds) = let more = grows (next_digit n d) ds in omega arith

fold_parts : (n : ℕ) (ds es : List ℕ) → fold next_digit n (ds ++ es) ≡ fold next_digit (fold next_digit n ds) es
fold_parts n [] es = refl
fold_parts n (d ∷ ds) es = fold_parts (next_digit n d) ds es

-- digits that stand first make no greater number than all of them
pub front_at_most : (ds : List ℕ) (i : ℕ) → number_of (take i ds) ≤ number_of ds
front_at_most ds i =
    let all : fold next_digit (number_of (take i ds)) (drop i ds) ≡ number_of ds =
    sym (fold_parts 0 (take i ds) (drop i ds)) ∙ ap number_of (take-append-drop i ds) in
    let more = grows (number_of (take i ds)) (drop i ds) in
    omega arith

-- Names that are taken one after another, each where it stands first.
use Rattle.std.proofs.Common.{◌≡◌, ℕ, suc, ◌+◌, ◌<◌, ◌≤◌, Bool, true, false, not, ◌||◌, cond, List, [], ◌∷◌, ◌++◌, length, get_or, drop, refl, sym, ap, ◌∙◌, subst, append_assoc, add-one, drop-cons}
use Rattle.std.specs.Prelude.{filter}
use Rattle.std.proofs.lemmas.List.{append-nil, drop_all}
use Rattle.std.proofs.lemmas.List.Folds.{list_any-append}
use Rattle.std.proofs.lemmas.Slice.Eq.{bytes_eq-Decides}
use Rattle.std.specs.List.{list_any}
use Rattle.std.specs.Str.{bytes_eq}
use Rattle.theory_meaning.specs.Point.{Name}
use Rattle.theory_session.specs.Names.{each_once}

-- the name isn't one of these
abbrev is_missing : List Name → Name → Bool
is_missing taken m = not (list_any (bytes_eq m) taken)

-- the names that aren't taken yet, behind those that are
abbrev pub joined_once : List Name → List Name → List Name
joined_once taken names = taken ++ filter (is_missing taken) (each_once names)

-- two tests one after the other are one test
filter_again : (p q r : Name → Bool) → ((m : Name) → r m ≡ cond (q m) (p m) false) → (ns : List Name) → filter p (filter q ns) ≡ filter r ns
filter_again p q r h [] = refl
filter_again p q r h (n ∷ ns) =
    subst (λ (b : Bool). filter p (cond (q n) (n ∷ filter q ns) (filter q ns)) ≡ cond b (n ∷ filter r ns) (filter r ns)) (sym (h n))
    (by_test (q n) (filter_again p q r h ns))
  where
    by_test : (t : Bool) → filter p (filter q ns) ≡ filter r ns
        → filter p (cond t (n ∷ filter q ns) (filter q ns)) ≡ cond (cond t (p n) false) (n ∷ filter r ns) (filter r ns)
    by_test true rest = ap (λ (l : List Name). cond (p n) (n ∷ l) l) rest
    by_test false rest = rest

module _ (taken : List Name) (n : Name) where
  others : Name → Bool
  others m = not (bytes_eq m n)

  -- the first name is taken already
  still_missing : list_any (bytes_eq n) taken ≡ true → (m : Name) (b : Bool) → bytes_eq m n ≡ b
      → is_missing taken m ≡ cond (not b) (is_missing taken m) false
  still_missing h m true is = ap not (subst (λ (x : Name). list_any (bytes_eq x) taken ≡ true) (sym ((bytes_eq-Decides m n).0 is)) h)
  still_missing h m false is = refl

  pub taken_before : (ns : List Name) → list_any (bytes_eq n) taken ≡ true → joined_once taken (n ∷ ns) ≡ joined_once taken ns
  unfolding others
  taken_before ns h =
      let rest : List Name = filter (is_missing taken) (filter others (each_once ns)) in
      ap (λ (b : Bool). taken ++ cond (not b) (n ∷ rest) rest) h
      ∙ ap (λ (l : List Name). taken ++ l)
      (filter_again (is_missing taken) others (is_missing taken) (λ (m : Name). still_missing h m (bytes_eq m n) refl) (each_once ns))

  -- or it is taken now
  missing_more : (m : Name) → is_missing (taken ++ n ∷ []) m ≡ cond (not (bytes_eq m n)) (is_missing taken m) false
  missing_more m = ap not (list_any-append (bytes_eq m) taken (n ∷ [])) ∙ by_tests (list_any (bytes_eq m) taken) (bytes_eq m n)
    where
      by_tests : (a b : Bool) → not (a || (b || false)) ≡ cond (not b) (not a) false
      by_tests true true = refl
      by_tests true false = refl
      by_tests false true = refl
      by_tests false false = refl

  pub taken_now : (ns : List Name) → list_any (bytes_eq n) taken ≡ false → joined_once taken (n ∷ ns) ≡ joined_once (taken ++ n ∷ []) ns
  unfolding others
  taken_now ns h =
      let rest : List Name = filter (is_missing taken) (filter others (each_once ns)) in
      ap (λ (b : Bool). taken ++ cond (not b) (n ∷ rest) rest) h
      ∙ ap (λ (l : List Name). taken ++ n ∷ l)
      (filter_again (is_missing taken) others (is_missing (taken ++ n ∷ [])) missing_more (each_once ns))
      ∙ sym (append_assoc taken (n ∷ []) (filter (is_missing (taken ++ n ∷ [])) (each_once ns)))

-- the names from one place on
module _ (names : List Name) (k : ℕ) (n : Name) (within : k < length names) (is : n ≡ get_or names k n) (taken : List Name) where
  ahead : joined_once taken (drop k names) ≡ joined_once taken (n ∷ drop (k + 1) names)
  ahead = rw (add-one, drop-cons names k n) (ap (λ (m : Name). joined_once taken (m ∷ drop (suc k) names)) (sym is))

  pub passed : list_any (bytes_eq n) taken ≡ true → joined_once taken (drop (k + 1) names) ≡ joined_once taken (drop k names)
  passed h = sym (ahead ∙ taken_before taken n (drop (k + 1) names) h)

  pub added : list_any (bytes_eq n) taken ≡ false → joined_once (taken ++ n ∷ []) (drop (k + 1) names) ≡ joined_once taken (drop k names)
  added h = sym (ahead ∙ taken_now taken n (drop (k + 1) names) h)

-- nothing is taken at first, and nothing is left at the end
pub begun : (names : List Name) → joined_once [] names ≡ each_once names
begun names = all_kept (each_once names)
  where
    all_kept : (ns : List Name) → filter (is_missing []) ns ≡ ns
    all_kept [] = refl
    all_kept (n ∷ ns) = ap (λ (l : List Name). n ∷ l) (all_kept ns)

pub ended : (names : List Name) (k : ℕ) (taken : List Name) → length names ≤ k → joined_once taken (drop k names) ≡ taken
ended names k taken end = ap (joined_once taken) (drop_all k names end) ∙ append-nil taken

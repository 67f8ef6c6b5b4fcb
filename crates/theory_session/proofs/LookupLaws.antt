-- What is looked up stays where versions are added at the end.
use Rattle.std.proofs.Common.{◌≡◌, ◌≢◌, Bool, true, false, cond, List, [], ◌∷◌, ◌++◌, length, slice_get, None, Some, refl, ap, ◌∙◌, arith}
use Rattle.std.specs.Str.{bytes_eq}
use Rattle.std.proofs.lemmas.List.Elements.{filter-append}
use Rattle.theory_meaning.specs.Point.{Name}
use Rattle.theory_session.specs.Create.{first_version}
use Rattle.theory_session.specs.Editing.{with_id}
use Rattle.theory_session.specs.Lookup.{versions_of, last_version, version_at}
use Rattle.theory_session.specs.Row.{Entry}

pub versions_of-append : (model : Name) (es more : List Entry) → versions_of model (es ++ more) ≡ versions_of model es ++ versions_of model more
versions_of-append model es more = filter-append (λ (e : Entry). bytes_eq model e.row.model) es more

-- the one version of a list of one
pub versions_of-one : (model : Name) (e : Entry) → bytes_eq model e.row.model ≡ true → versions_of model (e ∷ []) ≡ e ∷ []
versions_of-one model e same = ap (λ (b : Bool). cond b (e ∷ []) []) same

first_stays : (vs ws : List Entry) (e : Entry) → slice_get vs 0 ≡ Some e → slice_get (vs ++ ws) 0 ≡ Some e
first_stays [] ws e h = absurd cc
first_stays (v ∷ vs) ws e h = h

none_first : (vs : List Entry) → slice_get vs 0 ≡ None → vs ≡ []
none_first [] h = refl
none_first (v ∷ vs) h = absurd cc

-- version 1 stays
pub first_version_stays : (model : Name) (es more : List Entry) (e : Entry) → version_at model first_version es ≡ Some e
    → version_at model first_version (es ++ more) ≡ Some e
first_version_stays model es more e h =
    ap (λ (vs : List Entry). slice_get vs 0) (versions_of-append model es more) ∙ first_stays (versions_of model es) (versions_of model more) e h

-- where the model has none, an added version is its first
pub first_version_added : (model : Name) (es : List Entry) (e : Entry) → version_at model first_version es ≡ None → bytes_eq model e.row.model ≡ true
    → version_at model first_version (es ++ e ∷ []) ≡ Some e
first_version_added model es e none same =
    ap (λ (vs : List Entry). slice_get vs 0)
    (versions_of-append model es (e ∷ []) ∙ ap (λ (vs : List Entry). vs ++ versions_of model (e ∷ [])) (none_first (versions_of model es) none)
    ∙ versions_of-one model e same)

id_stays : (id : Name) (vs ws : List Entry) (e : Entry) → with_id id vs ≡ Some e → with_id id (vs ++ ws) ≡ Some e
id_stays id [] ws e h = absurd cc
id_stays id (v ∷ vs) ws e h = by_test (bytes_eq v.row.id id) h (id_stays id vs ws e)
  where
    by_test : (b : Bool) → cond b (Some v) (with_id id vs) ≡ Some e → (with_id id vs ≡ Some e → with_id id (vs ++ ws) ≡ Some e)
        → cond b (Some v) (with_id id (vs ++ ws)) ≡ Some e
    by_test true h rest = h
    by_test false h rest = rest h

id_behind : (id : Name) (vs ws : List Entry) → with_id id vs ≡ None → with_id id (vs ++ ws) ≡ with_id id ws
id_behind id [] ws h = refl
id_behind id (v ∷ vs) ws h = by_test (bytes_eq v.row.id id) h (id_behind id vs ws)
  where
    by_test : (b : Bool) → cond b (Some v) (with_id id vs) ≡ None → (with_id id vs ≡ None → with_id id (vs ++ ws) ≡ with_id id ws)
        → cond b (Some v) (with_id id (vs ++ ws)) ≡ with_id id ws
    by_test true h rest = absurd cc
    by_test false h rest = rest h

-- the version that a request with this id made stays
pub request_stays : (model id : Name) (es more : List Entry) (e : Entry) → with_id id (versions_of model es) ≡ Some e
    → with_id id (versions_of model (es ++ more)) ≡ Some e
request_stays model id es more e h = ap (with_id id) (versions_of-append model es more) ∙ id_stays id (versions_of model es) (versions_of model more) e h

-- where no request had this id, the version that is added under it is found
pub request_added : (model id : Name) (es : List Entry) (e : Entry) → with_id id (versions_of model es) ≡ None → bytes_eq model e.row.model ≡ true
    → bytes_eq e.row.id id ≡ true → with_id id (versions_of model (es ++ e ∷ [])) ≡ Some e
request_added model id es e none same same_id =
    ap (with_id id) (versions_of-append model es (e ∷ [])) ∙ id_behind id (versions_of model es) (versions_of model (e ∷ [])) none
    ∙ ap (with_id id) (versions_of-one model e same) ∙ ap (λ (b : Bool). cond b (Some e) None) same_id

some_version : (id : Name) (vs : List Entry) (e : Entry) → with_id id vs ≡ Some e → length vs ≢ 0
some_version id [] e h = absurd cc
some_version id (v ∷ vs) e h = λ zero_is. absurd (omega arith)

-- a model with a request is there
pub request_has_model : (model id : Name) (es : List Entry) (e : Entry) → with_id id (versions_of model es) ≡ Some e → last_version model es ≢ 0
request_has_model model id es e h = some_version id (versions_of model es) e h

-- What it does to a point to write over an entry, or to add one.
use Rattle.std.proofs.Common.{◌≡◌, ◌≢◌, ℕ, suc, ◌+◌, ◌<◌, Bool, true, false, cond, [], ◌∷◌, ◌++◌, length, get_or, set, Option, Some, None, pos, refl, sym, ap, ◌∙◌, subst, arith}
use Rattle.std.specs.List.{position_from}
use Rattle.std.specs.Str.{bytes_eq}
use Rattle.std.proofs.lemmas.Slice.Eq.{bytes_eq-Decides}
use Rattle.theory_meaning.specs.Fraction.{Fraction, whole}
use Rattle.theory_meaning.specs.Point.{Name, Point, value_at}
use Rattle.theory_points.specs.Changes.{SetsValue, place_in}

-- a test of names that differ
differ : (a b : Name) → a ≢ b → bytes_eq a b ≡ false
differ a b ne = elim (bytes_eq a b) as (λ r. bytes_eq a b ≡ r → r ≡ false) [ true ↦ λ e. absurd (ne ((bytes_eq-Decides a b).0 e)) | false ↦ λ e. refl ] refl

equal : (a : Name) → bytes_eq a a ≡ true
equal a = (bytes_eq-Decides a a).1 refl

-- an entry put before a point gives its value to its name
put_first : (es : Point) (name : Name) (v : Fraction) → value_at ((name, v) ∷ es) name ≡ v
put_first es name v = subst (λ (r : Bool). cond r v (value_at es name) ≡ v) (sym (equal name)) refl

past_first : (held : Name) (w : Fraction) (es : Point) (name : Name) → bytes_eq held name ≡ false → value_at ((held, w) ∷ es) name ≡ value_at es name
past_first held w es name e = subst (λ (r : Bool). cond r w (value_at es name) ≡ value_at es name) (sym e) refl

-- the first entry of the name is written over
over_first : (held : Name) (w v : Fraction) (es : Point) (name : Name) → bytes_eq held name ≡ true → SetsValue ((held, w) ∷ es) ((held, v) ∷ es) name v
over_first held w v es name e = record {
  changed = subst (λ (r : Bool). cond r v (value_at es name) ≡ v) (sym e) refl;
  others = λ other ne.
      let apart : bytes_eq held other ≡ false = differ held other (λ same. ne (sym same ∙ (bytes_eq-Decides held name).0 e)) in
      past_first held v es other apart ∙ sym (past_first held w es other apart);
}

-- what holds of the entries behind another one holds with it
behind : (held : Name) (w v : Fraction) (es fs : Point) (name : Name) → bytes_eq held name ≡ false → SetsValue es fs name v →
    SetsValue ((held, w) ∷ es) ((held, w) ∷ fs) name v
behind held w v es fs name e h = record {
  changed = past_first held w fs name e ∙ h.changed;
  others = λ other ne. ap (λ (q : Fraction). cond (bytes_eq held other) w q) (h.others other ne);
}

pub written_over : (es : Point) (i k : ℕ) (name : Name) (v : Fraction) (d : Name × Fraction) → position_from (λ entry. bytes_eq entry.0 name) i es ≡ Some k →
    (j : ℕ) × (k ≡ i + j) × (j < length es) × SetsValue es (set es j ((get_or es j d).0, v)) name v
written_over [] i k name v d h = absurd (let bad : ◌≡◌ {A = Option ℕ} None (Some k) = h in cc)
written_over (entry ∷ es) i k name v d h =
    elim (bytes_eq entry.0 name) as (λ (r : Bool). bytes_eq entry.0 name ≡ r →
    cond r (Some i) (position_from (λ entry. bytes_eq entry.0 name) (i + 1) es) ≡ Some k →
    (j : ℕ) × (k ≡ i + j) × (j < length (entry ∷ es)) × SetsValue (entry ∷ es) (set (entry ∷ es) j ((get_or (entry ∷ es) j d).0, v)) name v) [
      | true ↦ λ e f. (0, (let same : i ≡ k = cc in omega arith), omega arith, over_first entry.0 entry.1 v es name e)
      | false ↦ λ e f. let r = written_over es (i + 1) k name v d f in
          (suc r.0, (let m = r.1 in omega arith), (let m = r.2 in omega arith), behind entry.0 entry.1 v es _ name e r.3)
    ] refl h

pub added : (es : Point) (i : ℕ) (name : Name) (v : Fraction) → position_from (λ entry. bytes_eq entry.0 name) i es ≡ None →
    SetsValue es (es ++ (name, v) ∷ []) name v
added [] i name v h = record { changed = put_first [] name v; others = λ other ne. past_first name v [] other (differ name other (λ same. ne (sym same))) }
added (entry ∷ es) i name v h =
    elim (bytes_eq entry.0 name) as (λ (r : Bool). bytes_eq entry.0 name ≡ r →
    cond r (Some i) (position_from (λ entry. bytes_eq entry.0 name) (i + 1) es) ≡ None →
    SetsValue (entry ∷ es) (entry ∷ (es ++ (name, v) ∷ [])) name v) [
      | true ↦ λ e f. absurd (let bad : ◌≡◌ {A = Option ℕ} (Some i) None = f in cc)
      | false ↦ λ e f. behind entry.0 entry.1 v es _ name e (added es (i + 1) name v f)
    ] refl h

-- the same at the place that is found
pub written_at : (es ps : Point) (k : ℕ) (name : Name) (v : Fraction) (d : Name × Fraction) → es ≡ ps → Some k ≡ place_in es name → d ≡ get_or es k d →
    (k < length es) × SetsValue ps (set es k (d.0, v)) name v
written_at es ps k name v d same place item =
    let w = written_over es 0 k name v d (sym place) in
    let j_is : w.0 ≡ k = (let m = w.1 in omega arith) in
    let within : k < length es = (let m = w.2 in omega arith) in
    let at_k : SetsValue es (set es k ((get_or es k d).0, v)) name v = subst (λ (j : ℕ). SetsValue es (set es j ((get_or es j d).0, v)) name v) j_is w.3 in
    let with_d : SetsValue es (set es k (d.0, v)) name v = subst (λ (e : Name × Fraction). SetsValue es (set es k (e.0, v)) name v) (sym item) at_k in
    (within, subst (λ (p : Point). SetsValue p (set es k (d.0, v)) name v) same with_d)

pub within_place : (es : Point) (k : ℕ) (name : Name) → Some k ≡ place_in es name → k < length es
within_place es k name place = let w = written_over es 0 k name (whole (pos 0)) (name, whole (pos 0)) (sym place) in let m = w.1 in let n = w.2 in omega arith

pub added_at : (es ps : Point) (name : Name) (v : Fraction) → es ≡ ps → None ≡ place_in es name → SetsValue ps (es ++ (name, v) ∷ []) name v
added_at es ps name v same place = subst (λ (p : Point). SetsValue p (es ++ (name, v) ∷ []) name v) same (added es 0 name v (sym place))

-- The printed form of an expression that tokens spell: it is read as tokens that spell the same one.
use Rattle.std.proofs.Common.{◌≡◌, ℕ, zero, suc, ◌+◌, ◌-◌, ◌/◌, ◌<◌, ◌≤◌, Bool, true, false, cond, List, [], ◌∷◌, ◌++◌, refl, sym, ap, ◌∙◌, subst, arith, pos, rules, tests, append_assoc}
use Rattle.std.specs.Prelude.{codes}
use Rattle.std.proofs.lemmas.Bool.{false≢true, ltb-true, lt-ltb}
use Rattle.std.proofs.Math.Nat.{div-le_self, div-one}
use Rattle.theory_meaning.specs.Fraction.{Fraction, whole}
use Rattle.theory_meaning.specs.Limits.{bound}
use Rattle.theory_meaning.specs.Tree.{Expr}
use Rattle.theory_meaning.specs.Tree as plain
use Rattle.theory_meaning.specs.declared.words.Rel.{Rel}
use Rattle.theory_grammar.specs.declared.words.Mark.TheVariants as sign
use Rattle.theory_grammar.specs.Token.{Token, name, dotted, number, mark, relation}
use Rattle.theory_grammar.specs.Opened.{one_more_unless, open_in_expr}
use Rattle.theory_grammar.specs.Spelled.{every, is_below, common_divisor, lowest, Level, sum, term, factor, primary, IsExpr, whole_number, identifier, dotted_name, bracket, one_primary, raised, one_power, fraction, negated, one_factor, times, divided, one_term, plus, minus}
use Rattle.theory_grammar.specs.Signs.{relation_bytes}
use Rattle.theory_grammar.specs.Printed.{sides_text, is_term, is_factor, is_primary, is_divisor, begins_with_digit, expr_text}
use Rattle.theory_grammar.proofs.Opening.{limited, Fits, room, inside, in_left, in_right}
use Rattle.theory_grammar.proofs.LowestLaws.{is_gcd, lowest_terms}
use Rattle.theory_grammar.proofs.LeadLaws.{Leads, joined_by, closed_by, between, nothing_more, blank_leads, mark_leads, relation_leads, number_leads, apart}
use Rattle.theory_grammar.proofs.MeantLaws.{name_leads, dotted_leads, number_within, AreMeant, meant_front, meant_behind}
use Rattle.theory_grammar.proofs.ExprLevels.{own, lift, reaches_sum, is_first_number, before_divisor, Bare, Printable, printed_at, printed_divisor, divisor_first}

-- a whole number
pub natural : (n : ℕ) → is_primary (plain.number (whole (pos n))) ≡ true
natural n = search (rules, tests)

pub digit_first : (a less : ℕ) → begins_with_digit (plain.number (record { num = pos a; less = less })) ≡ true
digit_first a less = search (rules, tests)

no_primary : (a less : ℕ) → is_primary (plain.number (record { num = pos a; less = suc less })) ≡ false
no_primary a less = search (rules, tests)

-- signs as they are printed
times_sign : Leads false (mark sign.Times ∷ []) (codes "*")
times_sign = mark_leads sign.Times

over_sign : Leads false (mark sign.Over ∷ []) (codes "/")
over_sign = mark_leads sign.Over

power_sign : Leads false (mark sign.Power ∷ []) (codes "^")
power_sign = mark_leads sign.Power

minus_sign : Leads false (mark sign.Minus ∷ []) (codes "-")
minus_sign = mark_leads sign.Minus

plus_between : Leads false (mark sign.Plus ∷ []) (codes " + ")
plus_between = joined_by blank_leads (joined_by (mark_leads sign.Plus) blank_leads)

minus_between : Leads false (mark sign.Minus ∷ []) (codes " - ")
minus_between = joined_by blank_leads (joined_by (mark_leads sign.Minus) blank_leads)

module _ (deep : Bool) where
  number_bare : (d n : ℕ) → n ≤ bound → Bare deep d (plain.number (whole (pos n)))
  number_bare d n h = record {
    tokens = number n ∷ [];
    spells = subst (λ (t : Bool). IsExpr (limited deep) (cond t primary factor) d (number n ∷ []) (plain.number (whole (pos n))))
        (sym (natural n)) whole_number;
    leads = nothing_more (number_leads n h);
    digit = λ e. digit_first n 0;
  }

  -- a fraction in lowest terms is written by its own parts
  fraction_bare : (d a less : ℕ) → a ≤ bound → less + 1 ≤ bound → lowest a (less + 1) ≡ record { num = pos a; less = less } →
      Bare deep d (plain.number (record { num = pos a; less = less }))
  fraction_bare d a zero h k e = number_bare d a h
  fraction_bare d a (suc less) h k e =
      let below : is_below (limited deep) (suc less + 1) ≡ true = lt-ltb 0 (suc less + 1) (omega arith) in
      let tokens : List Token = number a ∷ mark sign.Over ∷ number (suc less + 1) ∷ [] in
      record {
        tokens = tokens;
        spells = subst (λ (t : Bool). IsExpr (limited deep) (cond t primary factor) d tokens (plain.number (record { num = pos a; less = suc less })))
            (sym (no_primary a less))
            (subst (λ (q : Fraction). IsExpr (limited deep) factor d tokens (plain.number q)) e (fraction below));
        leads = closed_by (number_leads a h) (joined_by over_sign (number_leads (suc less + 1) k))
            (λ rest. apart refl);
        digit = λ e. digit_first a (suc less);
      }

over_one : (a b c : ℕ) → c ≡ 1 → (let q : Fraction = record { num = pos (a / c); less = b / c - 1 } in q) ≡ record { num = pos a; less = b - 1 }
over_one a b c one =
    ap (λ (n : ℕ). let q : Fraction = record { num = pos (a / n); less = b / n - 1 } in q) one
    ∙ ap (λ (n : ℕ). let q : Fraction = record { num = pos n; less = b / 1 - 1 } in q) (div-one a)
    ∙ ap (λ (n : ℕ). let q : Fraction = record { num = pos a; less = n - 1 } in q) (div-one b)

lowest_again : (m n : ℕ) → 0 < n →
    lowest (m / common_divisor m n) ((n / common_divisor m n - 1) + 1) ≡ record { num = pos (m / common_divisor m n); less = n / common_divisor m n - 1 }
unfolding lowest
lowest_again m n some =
    let a = m / common_divisor m n in
    let b = (n / common_divisor m n - 1) + 1 in
    let gcd = is_gcd a b in
    let one : common_divisor a b ≡ 1 = (lowest_terms m n some).reduced (common_divisor a b) gcd.0 gcd.1 in
    let less : b - 1 ≡ n / common_divisor m n - 1 = omega arith in
    over_one a b (common_divisor a b) one ∙ ap (λ (k : ℕ). let q : Fraction = record { num = pos a; less = k } in q) less

module _ (deep : Bool) where
  lowest_bare : (d m n : ℕ) → m ≤ bound → n ≤ bound → 0 < n → Bare deep d (plain.number (lowest m n))
  unfolding lowest
  lowest_bare d m n h k some =
      let top = div-le_self m (common_divisor m n) in
      let bottom = div-le_self n (common_divisor m n) in
      fraction_bare deep d (m / common_divisor m n) (n / common_divisor m n - 1) (omega arith) (omega arith) (lowest_again m n some)

  -- what tokens spell within all limits can be printed wherever there is room for it
  pub printable : {L : Level} {ts : List Token} {x : Expr} (e : ℕ) → IsExpr every L e ts x → AreMeant ts → Printable deep x
  printable e (whole_number {n = n}) h d fits = number_bare deep d n (number_within n h.0)
  printable e (identifier {x = x}) h d fits =
      record { tokens = name x ∷ []; spells = identifier; leads = name_leads x h.0; digit = λ e. absurd (false≢true e) }
  printable e (dotted_name {x = x}) h d fits =
      record { tokens = dotted x ∷ []; spells = dotted_name; leads = dotted_leads x h.0; digit = λ e. absurd (false≢true e) }
  printable e (bracket {ts = ts} room k) h d fits = printable (suc e) k (meant_front ts (mark sign.Close ∷ []) h.1) d fits
  printable e (one_primary k) h d fits = printable e k h d fits
  printable e (raised {ts = ts} {x = x} {k = n} bounded k) h d fits =
      let base = printed_at deep primary d x fits (printable e k (meant_front ts (mark sign.Power ∷ number n ∷ []) h)) in
      let exponent = number_within n (meant_behind ts (mark sign.Power ∷ number n ∷ []) h).1.0 in
      record {
        tokens = base.tokens ++ mark sign.Power ∷ number n ∷ [];
        spells = raised bounded base.spells;
        leads = between base.leads power_sign (number_leads n exponent) (λ rest. apart refl);
        digit = λ e. base.digit (is_first_number base.tokens (number n ∷ []) sign.Power e);
      }
  printable e (one_power k) h d fits = printable e k h d fits
  printable e (fraction {m = m} {n = n} below) h d fits = lowest_bare d m n (number_within m h.0) (number_within n h.1.1.0) (ltb-true 0 n below)
  printable e (negated {x = x} opens k) h d fits =
      let n = one_more_unless (is_factor x) (open_in_expr x) in
      let operand = printed_at deep factor (suc d) x (inside deep d n fits) (printable (suc e) k h.1) in
      record {
        tokens = mark sign.Minus ∷ operand.tokens;
        spells = negated (room deep d n fits) operand.spells;
        leads = joined_by minus_sign operand.leads;
        digit = λ e. absurd (false≢true e);
      }
  printable e (one_factor k) h d fits = printable e k h d fits
  printable e (times {ts = ts} {us = us} {x = x} {y = y} k l) h d fits =
      let m = one_more_unless (is_term x) (open_in_expr x) in
      let n = one_more_unless (is_factor y) (open_in_expr y) in
      let p = printed_at deep term d x (in_left deep d m n fits) (printable e k (meant_front ts (mark sign.Times ∷ us) h)) in
      let q = printed_at deep factor d y (in_right deep d m n fits) (printable e l (meant_behind ts (mark sign.Times ∷ us) h).1) in
      record {
        tokens = p.tokens ++ mark sign.Times ∷ q.tokens;
        spells = times p.spells q.spells;
        leads = between p.leads times_sign q.leads (λ rest. apart refl);
        digit = λ e. p.digit (is_first_number p.tokens q.tokens sign.Times e);
      }
  printable e (divided {ts = ts} {us = us} {x = x} {y = y} divides k l) h d fits =
      let m = one_more_unless (is_term x) (open_in_expr x) in
      let n = one_more_unless (is_divisor y) (open_in_expr y) in
      let p = printed_at deep term d x (in_left deep d m n fits) (printable e k (meant_front ts (mark sign.Over ∷ us) h)) in
      let q = printed_divisor deep d y (in_right deep d m n fits) (printable e l (meant_behind ts (mark sign.Over ∷ us) h).1) in
      record {
        tokens = p.tokens ++ mark sign.Over ∷ q.tokens;
        spells = divided (before_divisor p.tokens q.tokens (divisor_first deep d y q)) p.spells q.spells;
        leads = between p.leads over_sign q.leads (λ rest. apart refl);
        digit = λ e. p.digit (is_first_number p.tokens q.tokens sign.Over e);
      }
  printable e (one_term k) h d fits = printable e k h d fits
  printable e (plus {ts = ts} {us = us} {x = x} {y = y} k l) h d fits =
      let n = one_more_unless (is_term y) (open_in_expr y) in
      let p = printable e k (meant_front ts (mark sign.Plus ∷ us) h) d (in_left deep d (open_in_expr x) n fits) in
      let q = printed_at deep term d y (in_right deep d (open_in_expr x) n fits) (printable e l (meant_behind ts (mark sign.Plus ∷ us) h).1) in
      record {
        tokens = p.tokens ++ mark sign.Plus ∷ q.tokens;
        spells = plus (lift (own x) sum (reaches_sum (own x)) p.spells) q.spells;
        leads = between p.leads plus_between q.leads (λ rest. apart refl);
        digit = λ e. p.digit (is_first_number p.tokens q.tokens sign.Plus e);
      }
  printable e (minus {ts = ts} {us = us} {x = x} {y = y} k l) h d fits =
      let n = one_more_unless (is_term y) (open_in_expr y) in
      let p = printable e k (meant_front ts (mark sign.Minus ∷ us) h) d (in_left deep d (open_in_expr x) n fits) in
      let q = printed_at deep term d y (in_right deep d (open_in_expr x) n fits) (printable e l (meant_behind ts (mark sign.Minus ∷ us) h).1) in
      record {
        tokens = p.tokens ++ mark sign.Minus ∷ q.tokens;
        spells = minus (lift (own x) sum (reaches_sum (own x)) p.spells) q.spells;
        leads = between p.leads minus_between q.leads (λ rest. apart refl);
        digit = λ e. p.digit (is_first_number p.tokens q.tokens sign.Minus e);
      }

  -- an expression on its own
  pub record Whole (d : ℕ) (x : Expr) : Type 0 where
    pub tokens : List Token
    pub spells : IsExpr (limited deep) sum d tokens x
    pub leads : Leads true tokens (expr_text x)

  pub whole_expr : {ts : List Token} {x : Expr} (e d : ℕ) → IsExpr every sum e ts x → AreMeant ts → Fits deep d (open_in_expr x) → Whole d x
  whole_expr {ts} {x} e d k h fits =
      let b = printable e k h d fits in
      record { tokens = b.tokens; spells = lift (own x) sum (reaches_sum (own x)) b.spells; leads = b.leads }

-- a relation with a blank on each side
relation_between : (r : Rel) → Leads false (relation r ∷ []) ((codes " " ++ relation_bytes r) ++ codes " ")
relation_between r = closed_by (joined_by blank_leads (relation_leads r)) blank_leads (λ rest. apart refl)

sides_shape : (u s r v : List ℕ) → (u ++ ((s ++ r) ++ s)) ++ v ≡ (((u ++ s) ++ r) ++ s) ++ v
sides_shape u s r v = simp append_assoc

pub sides_lead : {deep : Bool} {d : ℕ} {x y : Expr} (p : Whole deep d x) (r : Rel) (q : Whole deep d y)
    → Leads true (p.tokens ++ relation r ∷ q.tokens) (sides_text x r y)
sides_lead {deep} {d} {x} {y} p r q =
    subst (Leads true (p.tokens ++ relation r ∷ q.tokens)) (sides_shape (expr_text x) (codes " ") (relation_bytes r) (expr_text y))
    (between p.leads (relation_between r) q.leads (λ rest. apart refl))

-- The printed form of a line or an edit that bytes spell: it spells the same one.
use Rattle.std.proofs.Common.{ℕ, ◌+◌, ◌≤◌, Bool, true, false, List, [], ◌∷◌, ◌++◌, length, refl, sym, subst, map, ◌≡◌, Some, arith}
use Rattle.std.specs.Prelude.{codes}
use Rattle.theory_meaning.specs.Tree.{Line}
use Rattle.theory_meaning.specs.Text as text
use Rattle.theory_meaning.specs.Point.{Name}
use Rattle.theory_meaning.specs.declared.words.Rel.TheVariants as rel
use Rattle.theory_grammar.specs.declared.words.Keyword.{Keyword}
use Rattle.theory_grammar.specs.declared.words.Keyword.TheVariants as word
use Rattle.theory_grammar.specs.declared.words.Mark.TheVariants as sign
use Rattle.theory_grammar.specs.Token.{Token, keyword, name, mark, relation}
use Rattle.theory_grammar.specs.Signs.{keyword_bytes}
use Rattle.theory_grammar.specs.Scan.{complete}
use Rattle.theory_grammar.specs.Spelled.{every, IsLine, model_line, var_line, param_line, function_line, equation_line, assume_line, claim_line, shift_line, IsOp, put, drop}
use Rattle.theory_grammar.specs.TextFault.{SpellsOne}
use Rattle.theory_grammar.specs.Printed.{further, line_text, op_text}
use Rattle.theory_grammar.proofs.Opening.{limited, Fits, in_left, in_right}
use Rattle.theory_grammar.proofs.LeadLaws.{IsApart, Leads, composed, joined_by, closed_by, between, nothing_more, nothing_leads, blank_leads, mark_leads, keyword_leads, line_reads, apart}
use Rattle.theory_grammar.proofs.MeantLaws.{name_leads, IsMeant, AreMeant, meant_front, meant_behind, tokens_are_meant}
use Rattle.std.specs.List.{list_all}
use Rattle.theory_grammar.specs.LineFault.{Grammar}
use Rattle.theory_grammar.specs.OneLine.{SpellsLine}
use Rattle.theory_grammar.specs.RoundTrip.{AtAnyDepth}
use Rattle.theory_grammar.specs.Opened.{open_in_expr, open_in_line, open_in_op}
use Rattle.theory_grammar.proofs.PlainLaws.{is_plain, plain_no_feed, plain_utf8}
use Rattle.theory_grammar.proofs.PrintedExprs.{whole_expr, sides_lead}
use Rattle.theory_grammar.proofs.PrintedClaims.{whole_claim}

-- a word with a blank behind it, and a name
named : (k : Keyword) (x : Name) → IsMeant (name x) → Leads true (keyword k ∷ name x ∷ []) ((keyword_bytes k ++ 32 ∷ []) ++ x)
named k x h =
    joined_by (closed_by (keyword_leads k) blank_leads (λ rest. apart refl)) (name_leads x h)

colon_between : Leads false (mark sign.Colon ∷ []) (codes ": ")
colon_between = joined_by (mark_leads sign.Colon) blank_leads

of_behind : Leads true (keyword word.Of ∷ []) (codes " of")
of_behind = joined_by blank_leads (keyword_leads word.Of)

by_between : Leads false (keyword word.By ∷ []) (codes " by ")
by_between = joined_by blank_leads (closed_by (keyword_leads word.By) blank_leads (λ rest. apart refl))

-- what stands behind an argument is apart from it
arguments_apart : (xs : List Name) (rest : List ℕ) → IsApart rest → IsApart (further (codes " ") xs ++ rest)
arguments_apart [] rest h = h
arguments_apart (x ∷ xs) rest h = record { words = refl; dot = refl; figures = refl; equals = refl }

arguments_lead : (xs : List Name) → AreMeant (map name xs) → Leads true (map name xs) (further (codes " ") xs)
arguments_lead [] h = nothing_leads
arguments_lead (x ∷ xs) h =
    composed true true (name x ∷ []) (map name xs) (codes " " ++ x) (further (codes " ") xs) (joined_by blank_leads (name_leads x h.0)) (arguments_lead xs h.1)
    (λ rest ended at. arguments_apart xs rest (ended refl))

module _ (deep : Bool) where
  -- the printed form of a line, as tokens that spell it
  record LinePrinted (l : Line) : Type 0 where
    tokens : List Token
    spells : IsLine (limited deep) tokens l
    leads : Leads true tokens (line_text l)

  line_printed : {ts : List Token} {l : Line} → IsLine every ts l → AreMeant ts → Fits deep 0 (open_in_line l) → LinePrinted l
  line_printed (model_line {x = x}) h fits =
      record { tokens = keyword word.Model ∷ name x ∷ []; spells = model_line; leads = named word.Model x h.1.0 }
  line_printed (var_line {x = x}) h fits =
      record { tokens = keyword word.Var ∷ name x ∷ []; spells = var_line; leads = named word.Var x h.1.0 }
  line_printed (param_line {x = x}) h fits =
      record { tokens = keyword word.Param ∷ name x ∷ []; spells = param_line; leads = named word.Param x h.1.0 }
  line_printed (function_line {f = f} {x = x} {xs = xs}) h fits = record {
    tokens = keyword word.Fun ∷ name f ∷ keyword word.Of ∷ name x ∷ map name xs;
    spells = function_line;
    leads = closed_by (closed_by (named word.Fun f h.1.0) of_behind (λ rest. apart refl))
        (arguments_lead (x ∷ xs) h.1.1.1) (λ rest. apart refl);
  }
  line_printed (equation_line {label = label} {ts = ts} {us = us} {x = x} {y = y} k l) h fits =
      let p = whole_expr deep 0 0 k (meant_front ts (relation rel.Eq ∷ us) h.1.1.1) (in_left deep 0 (open_in_expr x) (open_in_expr y) fits) in
      let q = whole_expr deep 0 0 l (meant_behind ts (relation rel.Eq ∷ us) h.1.1.1).1 (in_right deep 0 (open_in_expr x) (open_in_expr y) fits) in
      record {
        tokens = keyword word.Eq ∷ name label ∷ mark sign.Colon ∷ (p.tokens ++ relation rel.Eq ∷ q.tokens);
        spells = equation_line p.spells q.spells;
        leads = between (named word.Eq label h.1.0) colon_between (sides_lead p rel.Eq q) (λ rest. apart refl);
      }
  line_printed (assume_line {label = label} k) h fits =
      let p = whole_claim deep k h.1.1.1 fits in
      record {
        tokens = keyword word.Assume ∷ name label ∷ mark sign.Colon ∷ p.tokens;
        spells = assume_line p.spells;
        leads = between (named word.Assume label h.1.0) colon_between p.leads (λ rest. apart refl);
      }
  line_printed (claim_line {label = label} k) h fits =
      let p = whole_claim deep k h.1.1.1 fits in
      record {
        tokens = keyword word.Claim ∷ name label ∷ mark sign.Colon ∷ p.tokens;
        spells = claim_line p.spells;
        leads = between (nothing_more (named word.Claim label h.1.0)) colon_between p.leads (λ rest. apart refl);
      }
  line_printed (shift_line {label = label} {shift = shift} k) h fits =
      let p = whole_claim deep k h.1.1.1.1.1 fits in
      let first = closed_by (named word.Claim label h.1.0) (joined_by by_between (name_leads shift h.1.1.1.0)) (λ rest. apart refl) in
      record {
        tokens = keyword word.Claim ∷ name label ∷ keyword word.By ∷ name shift ∷ mark sign.Colon ∷ p.tokens;
        spells = shift_line p.spells;
        leads = between first colon_between p.leads (λ rest. apart refl);
      }

  -- the printed form of an edit, as tokens that spell it
  record OpPrinted (op : text.Op) : Type 0 where
    tokens : List Token
    spells : IsOp (limited deep) tokens op
    leads : Leads true tokens (op_text op)

  op_printed : {ts : List Token} {op : text.Op} → IsOp every ts op → AreMeant ts → Fits deep 0 (open_in_op op) → OpPrinted op
  op_printed (put k) h fits =
      let p = line_printed k h.1 fits in
      record {
        tokens = name (codes "put") ∷ p.tokens;
        spells = put p.spells;
        leads = joined_by (closed_by (name_leads (codes "put") h.0) blank_leads (λ rest. apart refl)) p.leads;
      }
  op_printed (drop {x = x}) h fits = record {
    tokens = name (codes "drop") ∷ name x ∷ [];
    spells = drop;
    leads = joined_by (closed_by (name_leads (codes "drop") h.0) blank_leads (λ rest. apart refl)) (name_leads x h.1.0);
  }

-- plain bytes of a line that spell something are one line of UTF-8
spells_line : {T : Type 0} (Spells : Grammar T) (bytes : List ℕ) (tree : T) → list_all is_plain bytes ≡ true → SpellsOne Spells bytes tree →
    SpellsLine Spells bytes (Some tree)
spells_line Spells bytes tree plain h = record {
  text = record { size = omega (arith, h.scanned.short); utf8 = plain_utf8 bytes plain };
  one = plain_no_feed bytes plain;
  line = h;
}

-- the grammar with the limit of open signs or without it
abbrev pub Limited : {T : Type 0} → Bool → Grammar T → Grammar T
Limited true Spells = Spells
Limited false Spells = AtAnyDepth Spells

spells_limited : {T : Type 0} (deep : Bool) (Spells : Grammar T) (ts : List Token) (tree : T) → Spells (limited deep) ts tree
    → Limited deep Spells every ts tree
spells_limited true Spells ts tree h = h
spells_limited false Spells ts tree h = h

module _ (deep : Bool) where
  -- the printed form spells what the bytes spell
  pub printed_line_spells : (bytes : List ℕ) (l : Line) → SpellsOne IsLine bytes l → length (line_text l) ≤ 1024 → Fits deep 0 (open_in_line l)
      → SpellsLine (Limited deep IsLine) (line_text l) (Some l)
  printed_line_spells bytes l h short fits =
      let p = line_printed deep h.spelled (tokens_are_meant 1 bytes h.tokens (complete h.scanned.end) h.scanned.reads) fits in
      let r = line_reads p.tokens (line_text l) p.leads in
      spells_line (Limited deep IsLine) (line_text l) l p.leads.plain record {
        tokens = r.placed;
        scanned = record { short = short; end = 1 + length (line_text l); reads = r.reads };
        spelled = subst (λ (ts : List Token). Limited deep IsLine every ts l) (sym r.tokens) (spells_limited deep IsLine p.tokens l p.spells);
      }

  pub printed_op_spells : (bytes : List ℕ) (op : text.Op) → SpellsOne IsOp bytes op → length (op_text op) ≤ 1024 → Fits deep 0 (open_in_op op)
      → SpellsLine (Limited deep IsOp) (op_text op) (Some op)
  printed_op_spells bytes op h short fits =
      let p = op_printed deep h.spelled (tokens_are_meant 1 bytes h.tokens (complete h.scanned.end) h.scanned.reads) fits in
      let r = line_reads p.tokens (op_text op) p.leads in
      spells_line (Limited deep IsOp) (op_text op) op p.leads.plain record {
        tokens = r.placed;
        scanned = record { short = short; end = 1 + length (op_text op); reads = r.reads };
        spelled = subst (λ (ts : List Token). Limited deep IsOp every ts op) (sym r.tokens) (spells_limited deep IsOp p.tokens op p.spells);
      }

-- Tokens of a line that are read one after another.
use Rattle.std.proofs.Common.{◌≡◌, ℕ, suc, ◌+◌, ◌-◌, ◌≤◌, true, false, List, [], ◌∷◌, ◌++◌, length, refl, sym, ap, ◌∙◌, subst, arith, append_assoc, length-append}
use Rattle.std.specs.Prelude.{All}
use Rattle.std.specs.List.{list_all}
use Rattle.std.proofs.lemmas.Bool.{and_parts}
use Rattle.std.proofs.lemmas.List.{append-nil, length_push}
use Rattle.std.proofs.lemmas.List.Elements.{All-cons, All-nil}
use Rattle.theory_grammar.specs.Runs.{first_passes, IsRun}
use Rattle.theory_grammar.specs.Scan as plain
use Rattle.theory_grammar.specs.Scan.{is_blank, Placed, Reads, ReadsLine, blank, IsFit}
use Rattle.theory_grammar.proofs.FitLaws.{reads_fit}
use Rattle.theory_tokens.specs.declared.token.Token.{Token}
use Rattle.theory_tokens.specs.Plain.{plain_token, plain_tokens}
use Rattle.theory_tokens.specs.Next.{Takes}
use Rattle.theory_tokens.specs.Scanned.{placed_of, IsBehindBlanks}

-- blanks at the front are passed over
blanks_first : (gap rest : List ℕ) (c : ℕ) (ts : List Placed) (e : plain.End) → list_all is_blank gap ≡ true → Reads (c + length gap) rest ts e →
    Reads c (gap ++ rest) ts e
blanks_first [] rest c ts e h r = let none : c + 0 ≡ c = omega arith in subst (λ (n : ℕ). Reads n rest ts e) none r
blanks_first (b ∷ gap) rest c ts e h r =
    let parts = and_parts (is_blank b) (list_all is_blank gap) h in
    let next : c + suc (length gap) ≡ (c + 1) + length gap = omega arith in
    let below = blanks_first gap rest (c + 1) ts e parts.1 (subst (λ (n : ℕ). Reads n rest ts e) next r) in
    blank c b (gap ++ rest) ts e parts.0 below

pub behind_blanks : (gap rest bytes : List ℕ) → IsRun is_blank gap rest bytes → IsBehindBlanks rest bytes
behind_blanks gap rest bytes run =
    let parts : length bytes ≡ length gap + length rest = ap length run.whole ∙ length-append gap rest in
    let long : length bytes - length rest ≡ length gap = omega arith in
    record {
      ends = run.ends;
      within = omega arith;
      reads = λ c ts e r.
          let moved = subst (λ (n : ℕ). Reads (c + n) rest ts e) long r in
          subst (λ (bs : List ℕ). Reads c bs ts e) (sym run.whole) (blanks_first gap rest c ts e run.pass moved);
    }

-- these tokens stand first on the line: whatever the rest is read as, the line is read so behind them
pub record Leads (ps : List Placed) (rest line : List ℕ) : Type 0 where
  pub within : length rest ≤ length line
  pub reads : (ts : List Placed) (e : plain.End) → Reads (length line - length rest + 1) rest ts e → Reads 1 line (ps ++ ts) e

pub none_lead : (rest line : List ℕ) → IsBehindBlanks rest line → Leads [] rest line
none_lead rest line h = record {
  within = h.within;
  reads = λ ts e r.
      let at : length line - length rest + 1 ≡ 1 + (length line - length rest) = omega arith in
      h.reads 1 ts e (subst (λ (n : ℕ). Reads n rest ts e) at r);
}

pub one_more_leads : (ps : List Placed) (p : Placed) (after behind rest line : List ℕ) → Leads ps rest line → Takes p.token behind rest →
    p.column ≡ length line - length rest + 1 → IsBehindBlanks after behind → Leads (ps ++ p ∷ []) after line
one_more_leads ps p after behind rest line first takes at blanks =
    let shorter = takes.shorter in
    let short = blanks.within in
    let within = first.within in
    record {
      within = omega arith;
      reads = λ ts e r.
          let c = length line - length rest + 1 in
          let step : length line - length after + 1 ≡ (c + (length rest - length behind)) + (length behind - length after) = omega arith in
          let from_token = blanks.reads (c + (length rest - length behind)) ts e (subst (λ (n : ℕ). Reads n after ts e) step r) in
          let token_first = takes.reads c ts e from_token in
          let here : Placed = record { column = c; token = p.token } in
          let same : here ≡ p = ap (λ (n : ℕ). let q : Placed = record { column = n; token = p.token } in q) (sym at) in
          let placed = subst (λ (q : Placed). Reads c rest (q ∷ ts) e) same token_first in
          subst (λ (qs : List Placed). Reads 1 line qs e) (sym (append_assoc ps (p ∷ []) ts)) (first.reads (p ∷ ts) e placed);
    }

-- the whole line, where nothing more is read
pub all_led : (ps : List Placed) (e : plain.End) (rest line : List ℕ) → Leads ps rest line → Reads (length line - length rest + 1) rest [] e →
    ReadsLine line ps e
all_led ps e rest line first last = subst (λ (qs : List Placed). Reads 1 line qs e) (append-nil ps) (first.reads [] e last)

-- tokens are fit where those with columns are
placed_fit : (ts : List Token) (cs : List ℕ) → length ts ≡ length cs → All (λ p. IsFit p.token) (placed_of ts cs) → All IsFit (plain_tokens ts)
placed_fit [] cs even h = All-nil IsFit
placed_fit (t ∷ ts) [] even h = absurd (omega arith)
placed_fit (t ∷ ts) (c ∷ cs) even h =
    let first : Placed = record { column = c; token = plain_token t } in
    let head : IsFit (plain_token t) = h 0 first (omega arith) in
    All-cons IsFit (plain_token t) (plain_tokens ts) head (placed_fit ts cs (omega arith) (λ k d below. h (suc k) d (omega arith)))

-- the tokens of a line that is read are fit
pub read_fit : (line : List ℕ) (ts : List Token) (cs : List ℕ) (e : plain.End) → length ts ≡ length cs → ReadsLine line (placed_of ts cs) e →
    All IsFit (plain_tokens ts)
read_fit line ts cs e even reads = placed_fit ts cs even (reads_fit 1 line (placed_of ts cs) e reads)

-- one more token with its column
pub placed_push : (ts : List Token) (cs : List ℕ) (t : Token) (c : ℕ) → length ts ≡ length cs →
    placed_of (ts ++ t ∷ []) (cs ++ c ∷ []) ≡ placed_of ts cs ++ record { column = c; token = plain_token t } ∷ []
placed_push [] [] t c even = refl
placed_push [] (d ∷ cs) t c even = absurd (omega arith)
placed_push (s ∷ ts) [] t c even = absurd (omega arith)
placed_push (s ∷ ts) (d ∷ cs) t c even =
    let first : Placed = record { column = d; token = plain_token s } in
    ap (λ (ps : List Placed). first ∷ ps) (placed_push ts cs t c (omega arith))

-- the reading so far: tokens and columns stand side by side, and no blank comes next
pub record IsReadTo (ts : List Token) (cs rest line : List ℕ) : Type 0 where
  pub even : length ts ≡ length cs
  pub leads : Leads (placed_of ts cs) rest line
  pub unblank : first_passes is_blank rest ≡ false

pub one_more_token : (ts us : List Token) (cs ds : List ℕ) (t : Token) (after behind rest line : List ℕ) → IsReadTo ts cs rest line →
    us ≡ ts ++ t ∷ [] → ds ≡ cs ++ (length line - length rest + 1) ∷ [] → Takes (plain_token t) behind rest → IsBehindBlanks after behind →
    IsReadTo us ds after line
one_more_token ts us cs ds t after behind rest line h tokens columns takes blanks =
    let c = length line - length rest + 1 in
    let p : Placed = record { column = c; token = plain_token t } in
    let placed : placed_of us ds ≡ placed_of ts cs ++ p ∷ [] =
    ap (λ (ws : List Token). placed_of ws ds) tokens ∙ ap (placed_of (ts ++ t ∷ [])) columns ∙ placed_push ts cs t c h.even in
    let leads = one_more_leads (placed_of ts cs) p after behind rest line h.leads takes refl blanks in
    let even = h.even in
    record {
      even = omega (arith, ap length tokens ∙ length_push ts t, ap length columns ∙ length_push cs c);
      leads = subst (λ (ps : List Placed). Leads ps after line) (sym placed) leads;
      unblank = blanks.ends;
    }

-- Edits, read by their first word.
use Rattle.std.proofs.Common.{◌≡◌, ℕ, suc, ◌+◌, Bool, true, false, List, [], ◌∷◌, length, Result, Ok, Err, codes, refl, sym, ap, subst, ◌∙◌, arith}
use Rattle.std.specs.Str.{bytes_eq}
use Rattle.theory_meaning.specs.Point.{Name}
use Rattle.theory_meaning.specs.Tree.{Line}
use Rattle.theory_meaning.specs.Tree as plain
use Rattle.theory_meaning.specs.Text.{Op, put_line}
use Rattle.theory_grammar.specs.declared.words.LineFaultKind.TheVariants.{Unexpected}
use Rattle.theory_grammar.specs.Token.{Token, name}
use Rattle.theory_grammar.specs.Spelled.{IsOp}
use Rattle.theory_grammar.specs.Machine.{step, ended, start, finished, name_of_model, and_then}
use Rattle.theory_grammar.proofs.OpMachine.{OpState, OpMove, op_start, putting, key_to_drop, op_word, drop_word, op_step, op_ended}
use Rattle.theory_grammar.proofs.OpLaws.{op_laws}
use Rattle.theory_grammar.proofs.Following.{Outcome, fault, reads}
use Rattle.theory_syntax.specs.declared.line.Line as source_line
use Rattle.theory_syntax.specs.declared.text.Op as source_op
use Rattle.theory_syntax.specs.Plain.{line_of, op_of}
use Rattle.theory_tokens.specs.declared.token.Token as source
use Rattle.theory_tokens.specs.Plain.{plain_tokens}
use Rattle.theory_line.specs.declared.fault.ParseFault.{ParseFault}
use Rattle.theory_line.specs.declared.fault.ParseFault.TheVariants.{At, Memory}
use Rattle.theory_line.specs.Parsed.{IsParsed}
use Rattle.theory_line.specs.Reading.{reading}
use Rattle.theory_line.specs.First.{HasNoName}
use Rattle.theory_line.specs.Lines.{IsReadAs, ParsesLoneName}
use Rattle.theory_line.proofs.ParsesLaws.{IsFault, as_many}
use Rattle.theory_line.proofs.LineReading.{wants_name}
use Rattle.theory_line.proofs.OutcomeLaws.{IsOutcome, parsed, line_outcome, turned, put_reads, key_of, drop_reads}

abbrev op_reads : List Token → Outcome Op
op_reads ts = reads op_step op_ended 0 op_start ts

-- the first word decides how an edit goes on
first_word : (x : Name) (us : List Token) (st : OpState) → op_word (bytes_eq x (codes "put")) (bytes_eq x (codes "drop")) ≡ Ok st
    → op_reads (name x ∷ us) ≡ reads op_step op_ended 1 st us
first_word x us st e = ap (λ (m : OpMove). and_then m (λ s. reads op_step op_ended 1 s us) (λ kind. fault kind 0)) e

put_first : (ts us : List Token) (x : Name) → ts ≡ name x ∷ us → bytes_eq x (codes "put") ≡ true
    → op_reads ts ≡ turned put_line (reads step ended 1 start us)
put_first ts us x is put =
    ap op_reads is ∙ first_word x us (putting start) (ap (λ (b : Bool). op_word b (bytes_eq x (codes "drop"))) put) ∙ put_reads us 1 start

drop_first : (ts us : List Token) (x : Name) → ts ≡ name x ∷ us → bytes_eq x (codes "put") ≡ false → bytes_eq x (codes "drop") ≡ true
    → op_reads ts ≡ turned key_of (reads step ended 1 name_of_model us)
drop_first ts us x is not_put drops =
    ap op_reads is
    ∙ first_word x us key_to_drop (ap (λ (b : Bool). op_word b (bytes_eq x (codes "drop"))) not_put ∙ ap drop_word drops)
    ∙ drop_reads us 1

-- the outcome of what stands behind the first word
turned_fault : {V W : Type 0} (f : Line → Op) (tree : V → Line) (other : W → Op) (o : Outcome Line) (n : ℕ) (why : ParseFault)
    → IsOutcome tree o n (Err why) → IsOutcome other (turned f o) n (Err why)
turned_fault f tree other o n (At kind left) h = (h.0, h.1, ap (turned f) h.2)
turned_fault f tree other o n Memory h = tt

handed_on : {W : Type 0} (other : W → Op) (o : Outcome Op) (n : ℕ) (why : ParseFault) (r : Result W ParseFault) → IsFault why r
    → IsOutcome other o n (Err why) → IsOutcome other o n r
handed_on other o n why (Ok v) is h = absurd is.1
handed_on other o n why (Err same) is h = subst (λ (f : ParseFault). IsOutcome other o n (Err f)) (sym is.1) h

one_more : (ts us : List Token) (x : Name) → ts ≡ name x ∷ us → 1 + length us ≡ length ts
one_more ts us x is = let long : length ts ≡ suc (length us) = ap length is in omega (arith, long)

stops_behind : {V : Type 0} (f : Line → Op) (tree : V → Line) (ts us : List Token) (x : Name) (o : Outcome Line) (why : ParseFault)
    (r : Result source_op.Op ParseFault) → ts ≡ name x ∷ us → op_reads ts ≡ turned f o → IsFault why r → IsOutcome tree o (1 + length us) (Err why)
    → IsParsed IsOp op_of ts r
stops_behind f tree ts us x o why r first e is h =
    let here : IsOutcome op_of (turned f o) (1 + length us) r =
    handed_on op_of (turned f o) (1 + length us) why r is (turned_fault f tree op_of o (1 + length us) why h) in
    let long = subst (λ (n : ℕ). IsOutcome op_of (turned f o) n r) (one_more ts us x first) here in
    parsed op_laws op_of ts r (subst (λ (q : Outcome Op). IsOutcome op_of q (length ts) r) (sym e) long)

-- a line to put
pub put_stops : (ts us : List Token) (x : Name) (why : ParseFault) (r : Result source_op.Op ParseFault) → ts ≡ name x ∷ us
    → bytes_eq x (codes "put") ≡ true → IsFault why r → IsReadAs line_of (reading start us) (Err why) → IsParsed IsOp op_of ts r
put_stops ts us x why r first put is h =
    stops_behind put_line line_of ts us x (reads step ended 1 start us) why r first (put_first ts us x first put) is
    (line_outcome line_of us 1 start (Err why) h)

pub put_read : (ts us : List Token) (x : Name) (line : source_line.Line) → ts ≡ name x ∷ us → bytes_eq x (codes "put") ≡ true
    → IsReadAs line_of (reading start us) (Ok line) → IsParsed IsOp op_of ts (Ok (source_op.TheVariants.Put line))
put_read ts us x line first put h =
    parsed op_laws op_of ts (Ok (source_op.TheVariants.Put line))
    (put_first ts us x first put ∙ ap (turned put_line) (line_outcome line_of us 1 start (Ok line) h))

-- a key to drop
model_read : (us : List source.Token) (r : Result Name ParseFault) → ParsesLoneName us r
    → IsReadAs plain.model (reading name_of_model (plain_tokens us)) r
model_read us r h = h name_of_model plain.model (wants_name name_of_model (λ x. finished (plain.model x)) (plain_tokens us) (λ t. refl) refl)

pub drop_stops : (ts : List Token) (us : List source.Token) (x : Name) (why : ParseFault) (r : Result source_op.Op ParseFault)
    → ts ≡ name x ∷ plain_tokens us → bytes_eq x (codes "put") ≡ false → bytes_eq x (codes "drop") ≡ true → IsFault why r
    → ParsesLoneName us (Err why) → IsParsed IsOp op_of ts r
drop_stops ts us x why r first not_put drops is h =
    stops_behind key_of plain.model ts (plain_tokens us) x (reads step ended 1 name_of_model (plain_tokens us)) why r first
    (drop_first ts (plain_tokens us) x first not_put drops) is
    (line_outcome plain.model (plain_tokens us) 1 name_of_model (Err why) (model_read us (Err why) h))

pub drop_read : (ts : List Token) (us : List source.Token) (x key : Name) → ts ≡ name x ∷ plain_tokens us → bytes_eq x (codes "put") ≡ false
    → bytes_eq x (codes "drop") ≡ true → ParsesLoneName us (Ok key) → IsParsed IsOp op_of ts (Ok (source_op.TheVariants.Drop key))
drop_read ts us x key first not_put drops h =
    parsed op_laws op_of ts (Ok (source_op.TheVariants.Drop key))
    (drop_first ts (plain_tokens us) x first not_put drops
    ∙ ap (turned key_of) (line_outcome plain.model (plain_tokens us) 1 name_of_model (Ok key) (model_read us (Ok key) h)))

-- no edit begins so
refused : (ts : List source.Token) (why : ParseFault) → why ≡ At Unexpected (length ts) → op_reads (plain_tokens ts) ≡ fault Unexpected 0
    → IsParsed IsOp op_of (plain_tokens ts) (Err why)
refused ts why is e =
    subst (λ (f : ParseFault). IsParsed IsOp op_of (plain_tokens ts) (Err f)) (sym is)
    (parsed op_laws op_of (plain_tokens ts) (Err (At Unexpected (length ts))) (0, omega (arith, as_many ts), e))

no_word : (ts : List Token) → HasNoName ts → op_reads ts ≡ fault Unexpected 0
no_word [] none = refl
no_word (name x ∷ ts) none = elim none [ ]
no_word (t ∷ ts) none = refl

pub no_edit : (ts : List source.Token) (why : ParseFault) → why ≡ At Unexpected (length ts) → HasNoName (plain_tokens ts)
    → IsParsed IsOp op_of (plain_tokens ts) (Err why)
no_edit ts why is none = refused ts why is (no_word (plain_tokens ts) none)

pub other_word : (ts us : List source.Token) (x : Name) (why : ParseFault) → why ≡ At Unexpected (length ts)
    → plain_tokens ts ≡ name x ∷ plain_tokens us → bytes_eq x (codes "put") ≡ false → bytes_eq x (codes "drop") ≡ false
    → IsParsed IsOp op_of (plain_tokens ts) (Err why)
other_word ts us x why is first not_put not_drop = refused ts why is
    (ap op_reads first
    ∙ ap (λ (m : OpMove). and_then m (λ s. reads op_step op_ended 1 s (plain_tokens us)) (λ kind. fault kind 0))
    (ap (λ (b : Bool). op_word b (bytes_eq x (codes "drop"))) not_put ∙ ap drop_word not_drop))

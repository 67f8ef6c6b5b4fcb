-- Parts read one after another.
use Rattle.std.proofs.Common.{◌≡◌, suc, ◌<◌, List, ◌∷◌, length, Result, Ok, Err, sym, ap, subst, ◌∙◌, arith}
use Rattle.std.specs.Prelude.{All}
use Rattle.std.specs.Borrow.{Bor}
use Rattle.std.specs.Result.{IsErr, IsErrAnd}
use Rattle.std.proofs.lemmas.List.{length-map}
use Rattle.std.proofs.lemmas.List.Elements.{All-tail}
use Rattle.theory_grammar.specs.Token.{Token}
use Rattle.theory_grammar.specs.Scan.{IsFit}
use Rattle.theory_line.specs.declared.fault.ParseFault.{ParseFault}
use Rattle.theory_line.specs.declared.fault.ParseFault.TheVariants.{At, Memory}
use Rattle.theory_line.specs.Reading.{Reading, Parses}
use Rattle.theory_tokens.specs.declared.token.Token as source
use Rattle.theory_tokens.specs.Plain.{plain_tokens, plain_token}

-- a fault is passed on
pub passed_on : {V W T U : Type 0} (tree : V → T) (other : W → U) (from all : Reading) (behind : T → List Token → Reading)
    (after : U → List Token → Reading) (ts us : List source.Token) (fault : ParseFault) → all ≡ from
    → Parses tree from behind ts (Err fault) → Parses other all after us (Err fault)
passed_on tree other from all behind after ts us (At kind left) e h = e ∙ h
passed_on tree other from all behind after ts us Memory e h = tt

-- the answer is this fault, as `?` hands it on
abbrev pub IsFault : {V : Type 0} → ParseFault → Result V ParseFault → Type 0
IsFault fault r = IsErr r × IsErrAnd r (λ e. e ≡ fault)

pub passed_by : {V W T U : Type 0} (tree : V → T) (other : W → U) (from all : Reading) (behind : T → List Token → Reading)
    (after : U → List Token → Reading) (ts us : List source.Token) (fault : ParseFault) (r : Result (W × Bor (List source.Token)) ParseFault)
    → IsFault fault r → all ≡ from → Parses tree from behind ts (Err fault) → Parses other all after us r
passed_by tree other from all behind after ts us fault (Ok x) is e h = absurd is.1
passed_by tree other from all behind after ts us fault (Err same) is e h =
    passed_on tree other from all behind after ts us same e (subst (λ (f : ParseFault). Parses tree from behind ts (Err f)) (sym is.1) h)

-- tokens are as many as the plain ones
pub as_many : (ts : List source.Token) → length (plain_tokens ts) ≡ length ts
as_many ts = length-map ts plain_token

-- what is left behind a first token
pub shorter : (ts us : List source.Token) (t : Token) → plain_tokens ts ≡ t ∷ plain_tokens us → length us < length ts
shorter ts us t e =
    let long : length (plain_tokens ts) ≡ suc (length (plain_tokens us)) = ap length e in
    omega (arith, long, as_many ts, as_many us)

pub fit_behind : (ts us : List Token) (t : Token) → ts ≡ t ∷ us → All IsFit ts → All IsFit us
fit_behind ts us t e h = All-tail IsFit t us (subst (All IsFit) e h)

-- The parts of a line, read one after another.
use Rattle.std.proofs.Common.{◌≡◌, ℕ, suc, List, [], ◌∷◌, length, ◌++◌, ◌<◌, None, Result, Ok, Err, refl, sym, ap, subst, ◌∙◌}
use Rattle.std.specs.Prelude.{◌≢◌, ◌==◌, true, false, All}
use Rattle.std.specs.Borrow.{Bor}
use Rattle.theory_meaning.specs.declared.words.Rel.TheVariants as rel
use Rattle.theory_meaning.specs.Point.{Name}
use Rattle.theory_meaning.specs.Tree.{Expr, Claim, Line}
use Rattle.theory_meaning.specs.Tree as plain
use Rattle.theory_grammar.specs.declared.words.Keyword.TheVariants as word
use Rattle.theory_grammar.specs.declared.words.Mark.TheVariants as sign
use Rattle.theory_grammar.specs.declared.words.LineFaultKind.TheVariants.{Unexpected}
use Rattle.theory_grammar.specs.Token.{Token, keyword, name, mark, relation}
use Rattle.theory_grammar.specs.Scan.{IsFit}
use Rattle.theory_grammar.specs.Spelled.{every}
use Rattle.theory_grammar.specs.Machine.{State, Move, Heading, unexpected, step, ended, at_name, at_colon, finished, line_with, first_argument, arguments, label_of_equation, colon_of_equation, label_of_claim, word_of, by_or_colon, claim_of_line, assertion, start, left_of_equation, right_of_equation, and_then}
use Rattle.theory_tokens.specs.declared.token.Token as source
use Rattle.theory_syntax.specs.declared.line.Line as source_line
use Rattle.theory_syntax.specs.Plain.{line_of}
use Rattle.theory_tokens.specs.Plain.{plain_tokens}
use Rattle.theory_line.specs.declared.fault.ParseFault.{ParseFault}
use Rattle.theory_line.specs.declared.fault.ParseFault.TheVariants.{At, Memory}
use Rattle.theory_line.specs.Reading.{Reading, whole, stopped, at_end, reading, reading_on, Parses}
use Rattle.theory_line.specs.Behind.{behind_expr, behind_claim}
use Rattle.theory_line.specs.First.{IsNotFirst, HasNoName, HasNoKeyword}
use Rattle.theory_line.specs.Lines.{IsReadAs, Moves, ParsesName, ParsesLoneName, ParsesArguments, PassesColon, Ends}
use Rattle.theory_line.proofs.ParsesLaws.{IsFault, as_many, shorter}

-- a state whose moves are known goes on so
pub moved : (st : State) (move : Token → Move) (ts us : List Token) (t : Token) → Moves st move ts → ts ≡ t ∷ us → reading st ts ≡ reading_on (move t) us
moved st move ts us t h is =
    ap (reading st) is
    ∙ ap (λ (m : Move). and_then m (λ st'. reading st' us) (λ kind. stopped kind (suc (length us)))) (h.first t us is)

-- where it has no move, the token is at fault
pub not_moved : (st : State) (move : Token → Move) (ts : List Token) → Moves st move ts → ((t : Token) (us : List Token) → ts ≡ t ∷ us → move t ≡ unexpected)
    → reading st ts ≡ stopped Unexpected (length ts)
not_moved st move [] h none = ap at_end (h.unfinished refl)
not_moved st move (t ∷ us) h none = moved st move (t ∷ us) us t h refl ∙ ap (λ (m : Move). reading_on m us) (none t us refl)

no_name_moves : (next : Name → State) (ts : List Token) → HasNoName ts → (t : Token) (us : List Token) → ts ≡ t ∷ us → at_name next t ≡ unexpected
no_name_moves next ts none (name x) us is = let no : ⊥ = subst HasNoName is none in elim no [ ]
no_name_moves next ts none t us is = refl

pub no_name : (st : State) (next : Name → State) (ts : List Token) → Moves st (at_name next) ts → HasNoName ts
    → reading st ts ≡ stopped Unexpected (length ts)
no_name st next ts h none = not_moved st (at_name next) ts h (no_name_moves next ts none)

no_colon_moves : (next : State) (ts : List Token) → IsNotFirst (mark sign.Colon) ts → (t : Token) (us : List Token) → ts ≡ t ∷ us
    → at_colon next t ≡ unexpected
no_colon_moves next ts none (mark sign.Colon) us is = absurd ((subst (IsNotFirst (mark sign.Colon)) is none) refl)
no_colon_moves next ts none t us is = refl

pub no_colon : (st next : State) (ts : List Token) → Moves st (at_colon next) ts → IsNotFirst (mark sign.Colon) ts
    → reading st ts ≡ stopped Unexpected (length ts)
no_colon st next ts h none = not_moved st (at_colon next) ts h (no_colon_moves next ts none)

-- the states whose moves are the same at all tokens
pub always_moves : (st : State) (move : Token → Move) (ts : List Token) → ((t : Token) → step every st t ≡ move t) → ended st ≡ None → Moves st move ts
always_moves st move ts same none = record { first = λ t us is. same t; unfinished = λ is. none }

-- a label that no `by` follows wants a colon
no_by_moves : (label : Name) (ts : List Token) → IsNotFirst (keyword word.By) ts → (t : Token) (us : List Token) → ts ≡ t ∷ us
    → step every (by_or_colon label) t ≡ at_colon (claim_of_line (assertion label None)) t
no_by_moves label ts none (keyword word.By) us is = absurd ((subst (IsNotFirst (keyword word.By)) is none) refl)
no_by_moves label ts none t us is = refl

pub no_by : (label : Name) (ts : List Token) → IsNotFirst (keyword word.By) ts
    → Moves (by_or_colon label) (at_colon (claim_of_line (assertion label None))) ts
no_by label ts none = record { first = no_by_moves label ts none; unfinished = λ is. refl }

-- the name of a function that no `of` follows
pub no_of : (f : Name) (ts : List Token) → IsNotFirst (keyword word.Of) ts → reading (word_of f) ts ≡ stopped Unexpected (length ts)
no_of f [] none = refl
no_of f (keyword word.Of ∷ ts) none = absurd (none refl)
no_of f (t ∷ ts) none = refl

-- tokens that no word begins
pub no_line : (ts : List Token) → HasNoKeyword ts → reading start ts ≡ stopped Unexpected (length ts)
no_line [] none = refl
no_line (keyword k ∷ ts) none = elim none [ ]
no_line (t ∷ ts) none = refl

-- the left side of an equation that no equals sign follows
pub no_equals : (label : Name) (x : Expr) (ts : List Token) → IsNotFirst (relation rel.Eq) ts
    → behind_expr x [] (left_of_equation label) ts ≡ stopped Unexpected (length ts)
no_equals label x [] none = refl
no_equals label x (relation rel.Eq ∷ ts) none = absurd (none refl)
no_equals label x (t ∷ ts) none = refl

-- whole claims and equations
pub ends_claim_line : (c : Claim) (h : Heading) (ts : List Token) → behind_claim c h [] ts ≡ reading (finished (line_with h c)) ts
ends_claim_line c h [] = refl
ends_claim_line c h (mark sign.CloseSquare ∷ ts) = refl
ends_claim_line c h (t ∷ ts) = refl

pub ends_equation : (label : Name) (x y : Expr) (ts : List Token)
    → behind_expr y [] (right_of_equation label x) ts ≡ reading (finished (plain.equation label x y)) ts
ends_equation label x y [] = refl
ends_equation label x y (t ∷ ts) = refl

-- a fault is the fault of the whole
pub passed_by_part : {V W T : Type 0} (tree : V → T) (line : W → Line) (from all : Reading) (behind : T → List Token → Reading) (ts : List source.Token)
    (fault : ParseFault) (r : Result W ParseFault) → IsFault fault r → all ≡ from → Parses tree from behind ts (Err fault) → IsReadAs line all r
passed_by_part tree line from all behind ts fault (Ok v) is e h = absurd is.1
passed_by_part tree line from all behind ts (At kind left) (Err same) is e h =
    subst (λ (f : ParseFault). IsReadAs line all (Err f)) (sym is.1) (e ∙ h)
passed_by_part tree line from all behind ts Memory (Err same) is e h = subst (λ (f : ParseFault). IsReadAs line all (Err f)) (sym is.1) tt

pub passed_by_line : {V W : Type 0} (tree : V → Line) (line : W → Line) (from all : Reading) (fault : ParseFault) (r : Result W ParseFault)
    → IsFault fault r → all ≡ from → IsReadAs tree from (Err fault) → IsReadAs line all r
passed_by_line tree line from all fault (Ok v) is e h = absurd is.1
passed_by_line tree line from all (At kind left) (Err same) is e h =
    subst (λ (f : ParseFault). IsReadAs line all (Err f)) (sym is.1) (e ∙ h)
passed_by_line tree line from all Memory (Err same) is e h = subst (λ (f : ParseFault). IsReadAs line all (Err f)) (sym is.1) tt

pub passed_by_colon : {W : Type 0} (line : W → Line) (st next : State) (all : Reading) (ts : List source.Token) (fault : ParseFault)
    (r : Result W ParseFault) → IsFault fault r → Moves st (at_colon next) (plain_tokens ts) → all ≡ reading st (plain_tokens ts)
    → PassesColon ts (Err fault) → IsReadAs line all r
passed_by_colon line st next all ts fault (Ok v) is moves e h = absurd is.1
passed_by_colon line st next all ts (At kind left) (Err same) is moves e h =
    subst (λ (f : ParseFault). IsReadAs line all (Err f)) (sym is.1) (e ∙ h st next moves)
passed_by_colon line st next all ts Memory (Err same) is moves e h = subst (λ (f : ParseFault). IsReadAs line all (Err f)) (sym is.1) tt

pub passed_by_end : {W : Type 0} (line : W → Line) (all : Reading) (read : Line) (ts : List source.Token) (fault : ParseFault)
    (r : Result W ParseFault) → IsFault fault r → all ≡ reading (finished read) (plain_tokens ts) → Ends ts (Err fault) → IsReadAs line all r
passed_by_end line all read ts fault (Ok v) is e h = absurd is.1
passed_by_end line all read ts (At kind left) (Err same) is e h = subst (λ (f : ParseFault). IsReadAs line all (Err f)) (sym is.1) (e ∙ h read)
passed_by_end line all read ts Memory (Err same) is e h = subst (λ (f : ParseFault). IsReadAs line all (Err f)) (sym is.1) tt

-- the arguments up to these tokens
pub record AreArguments (ts us : List source.Token) (xs : List Name) : Type 0 where
  pub reads : (f : Name) → reading (first_argument f) (plain_tokens ts) ≡ reading (arguments f xs) (plain_tokens us)
  pub fit : All IsFit (plain_tokens us)

first_moves : (f : Name) (ts : List Token) → Moves (first_argument f) (at_name (λ x. arguments f (x ∷ []))) ts
first_moves f ts = always_moves (first_argument f) (at_name (λ x. arguments f (x ∷ []))) ts (λ t. refl) refl

next_moves : (f : Name) (xs : List Name) (ts : List source.Token) → ts ≢ [] →
    Moves (arguments f xs) (at_name (λ x. arguments f (xs ++ x ∷ []))) (plain_tokens ts)
next_moves f xs [] some = absurd (some refl)
next_moves f xs (t ∷ ts) some = record { first = λ u us is. refl; unfinished = λ is. absurd cc }

pub first_argument_stops : (ts : List source.Token) (fault : ParseFault) (r : Result (List Name) ParseFault) → IsFault fault r → ParsesName ts (Err fault)
    → ParsesArguments ts r
first_argument_stops ts fault r is h = λ f. passed_by_part (λ x. x) (plain.function f) (reading (first_argument f) (plain_tokens ts))
    (reading (first_argument f) (plain_tokens ts)) (λ x rest. reading (arguments f (x ∷ [])) rest) ts fault r is refl
    (h (first_argument f) (λ x. arguments f (x ∷ [])) (first_moves f (plain_tokens ts)))

pub first_argument_read : (ts : List source.Token) (us : Bor (List source.Token)) (x : Name) (all : List Name) → ParsesName ts (Ok (x, us))
    → All IsFit (plain_tokens us.now) → all ≡ x ∷ [] → AreArguments ts us.now all
first_argument_read ts us x all h fit is = record {
  reads = λ f. (h (first_argument f) (λ y. arguments f (y ∷ [])) (first_moves f (plain_tokens ts))).0
      ∙ ap (λ (xs : List Name). reading (arguments f xs) (plain_tokens us.now)) (sym is);
  fit = fit;
}

pub next_argument_stops : (ts us : List source.Token) (xs : List Name) (fault : ParseFault) (r : Result (List Name) ParseFault) → AreArguments ts us xs
    → us ≢ [] → IsFault fault r → ParsesName us (Err fault) → ParsesArguments ts r
next_argument_stops ts us xs fault r are some is h = λ f. passed_by_part (λ x. x) (plain.function f) (reading (arguments f xs) (plain_tokens us))
    (reading (first_argument f) (plain_tokens ts)) (λ x rest. reading (arguments f (xs ++ x ∷ [])) rest) us fault r is (are.reads f)
    (h (arguments f xs) (λ x. arguments f (xs ++ x ∷ [])) (next_moves f xs us some))

pub next_argument_read : (ts us : List source.Token) (vs : Bor (List source.Token)) (x : Name) (old new : List Name) → AreArguments ts us old
    → us ≢ [] → ParsesName us (Ok (x, vs)) → All IsFit (plain_tokens vs.now) → new ≡ old ++ x ∷ [] → AreArguments ts vs.now new
next_argument_read ts us vs x old new are some h fit is = record {
  reads = λ f. are.reads f ∙ (h (arguments f old) (λ y. arguments f (old ++ y ∷ [])) (next_moves f old us some)).0
      ∙ ap (λ (xs : List Name). reading (arguments f xs) (plain_tokens vs.now)) (sym is);
  fit = fit;
}

pub fewer_arguments : (us : List source.Token) (vs : Bor (List source.Token)) (x : Name) → us ≢ [] → ParsesName us (Ok (x, vs)) → length vs.now < length us
fewer_arguments us vs x some h = (h (arguments [] []) (λ y. arguments [] (y ∷ [])) (next_moves [] [] us some)).1

pub all_arguments : (ts us : List source.Token) (xs : List Name) → AreArguments ts us xs → us ≡ [] → ParsesArguments ts (Ok xs)
all_arguments ts us xs are none = λ f. are.reads f ∙ ap (λ (vs : List source.Token). reading (arguments f xs) (plain_tokens vs)) none

-- a test for the end of the line
pub not_empty : (ts : List source.Token) → false ≡ (length ts == 0) → ts ≢ []
not_empty ts test is = let wrong : false ≡ true = test ∙ ap (λ (us : List source.Token). length us == 0) is in absurd cc

-- what is left over behind a whole line, and what is missing
pub left_over : (ts : List source.Token) (fault : ParseFault) → fault ≡ At Unexpected (length ts) → ts ≢ [] → Ends ts (Err fault)
left_over [] fault is some = absurd (some refl)
left_over (t ∷ ts) fault is some =
    subst (λ (f : ParseFault). Ends (t ∷ ts) (Err f)) (sym is) (λ line. ap (λ (n : ℕ). stopped Unexpected (suc n)) (as_many ts))

pub colon_missing : (ts : List source.Token) (fault : ParseFault) → fault ≡ At Unexpected (length ts) → IsNotFirst (mark sign.Colon) (plain_tokens ts)
    → PassesColon ts (Err fault)
colon_missing ts fault is none = subst (λ (f : ParseFault). PassesColon ts (Err f)) (sym is)
    (λ st next moves. no_colon st next (plain_tokens ts) moves none ∙ ap (stopped Unexpected) (as_many ts))

pub name_missing : (ts : List source.Token) (fault : ParseFault) → fault ≡ At Unexpected (length ts) → HasNoName (plain_tokens ts)
    → ParsesName ts (Err fault)
name_missing ts fault is none = subst (λ (f : ParseFault). ParsesName ts (Err f)) (sym is)
    (λ st next moves. no_name st next (plain_tokens ts) moves none ∙ ap (stopped Unexpected) (as_many ts))

pub name_found : (ts : List source.Token) (us : Bor (List source.Token)) (x y : Name) → plain_tokens ts ≡ name x ∷ plain_tokens us.now → y ≡ x
    → ParsesName ts (Ok (y, us))
name_found ts us x y is same = λ st next moves. (
  moved st (at_name next) (plain_tokens ts) (plain_tokens us.now) (name x) moves is
      ∙ ap (λ (z : Name). reading (next z) (plain_tokens us.now)) (sym same),
  shorter ts us.now (name x) is,
)

-- a name with nothing behind it
pub lone_stops : (ts : List source.Token) (fault : ParseFault) (r : Result Name ParseFault) → IsFault fault r → ParsesName ts (Err fault)
    → ParsesLoneName ts r
lone_stops ts fault r is h = λ st make moves. passed_by_part (λ x. x) make (reading st (plain_tokens ts)) (reading st (plain_tokens ts))
    (λ x rest. reading (finished (make x)) rest) ts fault r is refl (h st (λ x. finished (make x)) moves)

pub lone_left_over : (ts : List source.Token) (us : Bor (List source.Token)) (x : Name) (fault : ParseFault) (r : Result Name ParseFault)
    → ParsesName ts (Ok (x, us)) → IsFault fault r → Ends us.now (Err fault) → ParsesLoneName ts r
lone_left_over ts us x fault r h is ends = λ st make moves. passed_by_end make (reading st (plain_tokens ts)) (make x) us.now fault r is
    (h st (λ y. finished (make y)) moves).0 ends

pub lone_read : (ts : List source.Token) (us : Bor (List source.Token)) (x : Name) → ParsesName ts (Ok (x, us)) → us.now ≡ []
    → ParsesLoneName ts (Ok x)
lone_read ts us x h none = λ st make moves. (h st (λ y. finished (make y)) moves).0
    ∙ ap (λ (vs : List source.Token). reading (finished (make x)) (plain_tokens vs)) none

-- reading that stops at what is left
pub stops_here : {V : Type 0} (line : V → Line) (all : Reading) (us : List source.Token) (fault : ParseFault) → fault ≡ At Unexpected (length us)
    → all ≡ stopped Unexpected (length (plain_tokens us)) → IsReadAs line all (Err fault)
stops_here line all us fault is e =
    subst (λ (f : ParseFault). IsReadAs line all (Err f)) (sym is) (e ∙ ap (stopped Unexpected) (as_many us))

-- states that want a name or a colon at all tokens
pub wants_name : (st : State) (next : Name → State) (ts : List Token) → ((t : Token) → step every st t ≡ at_name next t) → ended st ≡ None
    → Moves st (at_name next) ts
wants_name st next ts same none = always_moves st (at_name next) ts same none

pub wants_colon : (st next : State) (ts : List Token) → ((t : Token) → step every st t ≡ at_colon next t) → ended st ≡ None → Moves st (at_colon next) ts
wants_colon st next ts same none = always_moves st (at_colon next) ts same none

-- a whole line, behind which nothing is left
pub nothing_left : (line : Line) (us : List source.Token) → us ≡ [] → reading (finished line) (plain_tokens us) ≡ whole line
nothing_left line us none = ap (λ (vs : List source.Token). reading (finished line) (plain_tokens vs)) none

-- the label of an equation
equation_moves : (ts : List Token) → Moves label_of_equation (at_name colon_of_equation) ts
equation_moves ts = wants_name label_of_equation colon_of_equation ts (λ t. refl) refl

pub equation_stops : (ts : List source.Token) (fault : ParseFault) (r : Result source_line.Line ParseFault) → IsFault fault r → ParsesName ts (Err fault)
    → IsReadAs line_of (reading label_of_equation (plain_tokens ts)) r
equation_stops ts fault r is h = passed_by_part (λ x. x) line_of (reading label_of_equation (plain_tokens ts)) (reading label_of_equation (plain_tokens ts))
    (λ x rest. reading (colon_of_equation x) rest) ts fault r is refl (h label_of_equation colon_of_equation (equation_moves (plain_tokens ts)))

pub equation_named : (ts : List source.Token) (us : Bor (List source.Token)) (l : Name) → ParsesName ts (Ok (l, us))
    → reading label_of_equation (plain_tokens ts) ≡ reading (colon_of_equation l) (plain_tokens us.now)
equation_named ts us l h = (h label_of_equation colon_of_equation (equation_moves (plain_tokens ts))).0

-- the label of a claim
pub assertion_named : (ts : List source.Token) (us : Bor (List source.Token)) (l : Name) → ParsesName ts (Ok (l, us))
    → reading label_of_claim (plain_tokens ts) ≡ reading (by_or_colon l) (plain_tokens us.now)
assertion_named ts us l h = (h label_of_claim by_or_colon (wants_name label_of_claim by_or_colon (plain_tokens ts) (λ t. refl) refl)).0

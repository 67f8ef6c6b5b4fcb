-- The lists of candidates on which a policy is asked, and that a choice answers the written one.
use Rattle.std.specs.Prelude.{◌≡◌, ◌≢◌, ℕ, ◌<◌, ◌≤◌, List, [], ◌∷◌, length}
use Rattle.std.specs.Borrow.{Bor}
use Rattle.std.specs.declared.vec.Vec.{Vec}
use Rattle.std.specs.Global.{Global}
use Rattle.theory_meaning.specs.declared.words.Kind.{Kind}
use Rattle.theory_decision.specs.declared.candidate.Candidate.{Candidate}
use Rattle.theory_decision.specs.Choice.{choice}

-- a symbol below 32, in at most 512 atoms
pub record IsWithin (c : Candidate) : Type 0 where
  pub symbol : c.symbol < 32
  pub atoms : c.atoms ≤ 512
  pub unsure : c.unsure ≤ 512

-- each is
abbrev pub AreWithin : List Candidate → Type 0
AreWithin [] = Unit {0}
AreWithin (c ∷ cs) = IsWithin c × AreWithin cs

-- 1 to 32 such candidates
pub record IsAsked (cs : List Candidate) : Type 0 where
  pub some : cs ≢ []
  pub few : length cs ≤ 32
  pub within : AreWithin cs

-- on each such list a choice can be called, and answers the written one of the kind
abbrev pub AnswersChoice : (Bor (Vec Candidate Global) → Type 0) → (Bor (Vec Candidate Global) → ℕ → Type 0) → Kind → Type 0
AnswersChoice pre post k =
    (cs : Bor (Vec Candidate Global)) → IsAsked cs.now.items → pre cs × ((place : ℕ) → post cs place → place ≡ choice k cs.now.items)

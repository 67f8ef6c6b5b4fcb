-- The replies of a derivation: one, which holds the differentiated equations of a model.
use Rattle.std.specs.Prelude.{◌≡◌, ◌⊎◌, List, [], ◌∷◌}
use Rattle.theory_meaning.specs.Text.{Numbered}
use Rattle.theory_derivative.specs.Differentiated.{differentiated_in}
use Rattle.theory_session.specs.Run.{Reply, derived}

-- the reply with the differentiated equations of a model
abbrev pub derivation : List Numbered → Reply
derivation lines = derived (differentiated_in lines)

-- the replies of a derivation
abbrev pub AreDerived : List Numbered → List Reply → Type 0
AreDerived lines replies = replies ≡ derivation lines ∷ []

-- a beginning of them: this reply, or nothing
abbrev pub AreFirstDerived : List Numbered → List Reply → Type 0
AreFirstDerived lines replies = (replies ≡ []) ⊎ AreDerived lines replies

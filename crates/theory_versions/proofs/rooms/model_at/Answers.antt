use Rattle.std.proofs.Common.{◌≡◌, ℕ, List, Option, Some, option_map, ap, ◌∙◌}
use Rattle.std.specs.Global.{Global}
use Rattle.std.specs.Prelude.{Vec}
use Rattle.theory_versions.proofs.IndexLemmas.{key_at}
use Rattle.theory_versions.proofs.rooms.model_at.Goals as goal

pub returns-in-Some : goal.returns-in-Some
returns-in-Some c =
    ap (λ (ks : List ℕ). Some ks) c.as_slice.ensures.value
    ∙ ap (option_map (λ (p : Vec ℕ Global × Vec ℕ Global). p.0.items)) c.in-Some.ensures.entry ∙ key_at c.args.number c.args.index.now.entries

pub returns-in-None : goal.returns-in-None
returns-in-None c =
    ap (option_map (λ (p : Vec ℕ Global × Vec ℕ Global). p.0.items)) c.in-None.ensures.entry ∙ key_at c.args.number c.args.index.now.entries

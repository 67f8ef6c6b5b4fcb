use Rattle.std.proofs.Common.{Option, Vec, Global, option_map, [], sym, ap, ◌∙◌}
use Rattle.theory_elimination.specs.Simplified.{first_ones, bundled, finished}
use Rattle.theory_simplify.specs.declared.drafts.Draft.{Draft}
use Rattle.theory_simplify.specs.Parts.{parts_in}
use Rattle.theory_simplify.proofs.FinishLemmas.{all_as_before}
use Rattle.theory_simplify.proofs.finishing.finished.Goals as goal

pub returns-in_ok-first_ones-in-Some : goal.returns-in_ok-first_ones-in-Some
returns-in_ok-first_ones-in-Some c =
    c.bundled.ensures
    ∙ ap (bundled c.args.all) (c.in_ok-first_ones-in-Some.ensures ∙ ap (first_ones []) (sym (all_as_before c.in-Some.members.items)))
    ∙ ap (λ (o : Option (Vec Draft Global)). finished c.args.all (option_map parts_in o)) (sym c.in-Some.is)

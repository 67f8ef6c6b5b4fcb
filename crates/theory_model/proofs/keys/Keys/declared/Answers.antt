use Rattle.std.proofs.Common.{◌≡◌, ◌<◌, ℕ, [], Some, None, sym, subst, ◌∙◌}
use Rattle.std.proofs.lemmas.List.{length-map}
use Rattle.theory_syntax.specs.Plain.{numbered_of, lines_of}
use Rattle.theory_model.specs.Keyed.{place_of_key}
use Rattle.theory_model.proofs.KeyedLemmas.{place_below, declared-found, declared-missing, some_numbered}
use Rattle.theory_model.proofs.keys.Keys.declared.Goals as goal

pub declaration_at-requires : goal.declaration_at-requires
declaration_at-requires c =
    let name = c.args.name.now in
    let lines = c.args.self.now.lines.now in
    let known : place_of_key name (lines_of lines) ≡ Some c.in-Some.place.now = sym (c.args.self.now.held name) ∙ sym c.in-Some.ensures.value in
    subst (λ (n : ℕ). c.in-Some.place.now < n) (length-map lines numbered_of) (place_below name (lines_of lines) c.in-Some.place.now known)

pub returns-in-Some : goal.returns-in-Some
returns-in-Some c =
    let name = c.args.name.now in
    let lines = lines_of c.args.self.now.lines.now in
    let known : place_of_key name lines ≡ Some c.in-Some.place.now = sym (c.args.self.now.held name) ∙ sym c.in-Some.ensures.value in
    c.declaration_at.ensures some_numbered ∙ sym (declared-found name lines [] lines c.in-Some.place.now some_numbered c.args.self.now.distinct known)

pub returns-in-None : goal.returns-in-None
returns-in-None c =
    let name = c.args.name.now in
    let lines = lines_of c.args.self.now.lines.now in
    let missing : place_of_key name lines ≡ None = sym (c.args.self.now.held name) ∙ sym c.in-None.ensures.value in
    sym (declared-missing name lines missing)

use Rattle.std.proofs.Common.{◌≡◌, ◌≤◌, ℕ, List, length, sym, ap, subst, ◌∙◌, arith, Fits, w32}
use Rattle.theory_session.specs.Lookup.{last_version}
use Rattle.theory_session.specs.Sizes.{most_versions}
use Rattle.theory_versions.specs.Book.{entries_in}
use Rattle.theory_versions.specs.Index.{places_of}
use Rattle.theory_versions.proofs.PlaceLemmas.{some_places, no_places, length-places_from, few_fit}
use Rattle.theory_versions.proofs.book.Book.last_version.Goals as goal

counted : (c : goal.In-Some) → length c.in-Some.places.now ≡ last_version c.args.model.now (entries_in c.args.self.now)
counted c =
    ap (λ (ks : List ℕ). length ks) (some_places (places_of c.args.self.now.index.entries) (entries_in c.args.self.now) c.args.model.now c.in-Some.places.now
    c.requires.book.index c.in-Some.ensures) ∙ length-places_from 0 c.args.model.now (entries_in c.args.self.now)

pub overflow_cast-result : goal.overflow_cast-result
overflow_cast-result c = few_fit _ (subst (λ (n : ℕ). n ≤ most_versions) (sym (counted c)) (c.requires.book.few c.args.model.now))

pub returns-in-Some-clause-last : goal.returns-in-Some-clause-last
returns-in-Some-clause-last c = counted c

pub returns-in-Some-clause-most : goal.returns-in-Some-clause-most
returns-in-Some-clause-most c = subst (λ (n : ℕ). n ≤ most_versions) (sym (counted c)) (c.requires.book.few c.args.model.now)

pub returns-in-None-clause-last : goal.returns-in-None-clause-last
returns-in-None-clause-last c =
    sym (ap (λ vs. length vs) (no_places (places_of c.args.self.now.index.entries) (entries_in c.args.self.now) c.args.model.now c.requires.book.index c.in-None.ensures))

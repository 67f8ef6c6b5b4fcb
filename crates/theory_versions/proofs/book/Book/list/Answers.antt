use Rattle.std.proofs.Common.{◌≡◌, ◌+◌, ◌++◌, ℕ, List, drop, map, sym, ap, ◌∙◌, append_assoc}
use Rattle.std.specs.Map.{keys_of}
use Rattle.theory_meaning.specs.Point.{Name}
use Rattle.theory_session.specs.Lookup.{last_version}
use Rattle.theory_versions.specs.Book.{entries_in, listed_one}
use Rattle.theory_versions.specs.Index.{places_of}
use Rattle.theory_versions.specs.Replies.{last_of}
use Rattle.theory_versions.proofs.PlaceLemmas.{listed_behind}
use Rattle.theory_versions.proofs.book.Book.list.Goals as goal

pub loop-number-preserved : goal.loop-number-preserved
loop-number-preserved c =
    let es = entries_in c.args.self.now in
    let names = keys_of (places_of c.args.self.now.index.entries) in
    let behind = map (λ (m : Name). (m, last_version m es)) (drop (c.loop-number.number + 1) names) in
    ap (λ (xs : List (Name × ℕ)). xs ++ behind) c.in_ok-add_last.ensures
    ∙ append_assoc (map last_of c.loop-number.all) (listed_one es _) behind
    ∙ ap (λ (xs : List (Name × ℕ)). map last_of c.loop-number.all ++ xs) (listed_behind es names c.loop-number.number)
    ∙ c.loop-number.invariant

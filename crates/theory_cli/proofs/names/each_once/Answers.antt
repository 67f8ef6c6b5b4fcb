use Rattle.std.proofs.Common.{◌≡◌, true, false, List, sym, ap, ◌∙◌}
use Rattle.std.specs.List.{list_any}
use Rattle.std.specs.Str.{bytes_eq}
use Rattle.theory_meaning.specs.Point.{Name}
use Rattle.theory_cli.proofs.OnceLemmas.{begun, passed, added}
use Rattle.theory_cli.proofs.names.each_once.Goals as goal
use Rattle.theory_cli.proofs.names.each_once.Goals.{then-not-is_listed+in_ok-copy+in_ok-push, else-not-is_listed}

pub loop-name-init : goal.loop-name-init
loop-name-init c = rw c.new-once.ensures (begun c.args.names.now)

pub loop-name-preserved : goal.loop-name-preserved
loop-name-preserved c =
    let names = c.args.names.now in
    let k = c.loop-name.name-index in
    let n = c.name-item.result in
    elim c.if-not-is_listed.branch [
      | then-not-is_listed+in_ok-copy+in_ok-push w ↦
          let new : list_any (bytes_eq n) c.loop-name.once ≡ false =
          ap (λ (l : List Name). list_any (bytes_eq n) l) (sym c.as_slice.ensures) ∙ sym c.is_listed.ensures ∙ w.if-not-is_listed.true in
          rw (w.once-is, w.in_ok-push.ensures.ok, w.in_ok-copy.ensures)
          (added names k n c.loop-name-test.true c.name-item.is c.loop-name.once new ∙ c.loop-name.invariant)
      | else-not-is_listed w ↦
          let old : list_any (bytes_eq n) c.loop-name.once ≡ true =
          ap (λ (l : List Name). list_any (bytes_eq n) l) (sym c.as_slice.ensures) ∙ sym c.is_listed.ensures ∙ w.if-not-is_listed.false in
          rw w.once-is (passed names k n c.loop-name-test.true c.name-item.is c.loop-name.once old ∙ c.loop-name.invariant)
    ]

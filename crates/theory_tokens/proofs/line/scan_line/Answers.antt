use Rattle.std.proofs.Common.{◌+◌, ◌-◌, length}
use Rattle.theory_grammar.specs.Scan.{complete, broken}
use Rattle.theory_tokens.proofs.LineLemmas.{one_more_token, all_led, read_fit}
use Rattle.theory_tokens.proofs.line.scan_line.Goals as goal

pub loop-token-preserved : goal.loop-token-preserved
loop-token-preserved c =
    one_more_token _ _ _ _ c.in-Found.token _ _ _ _ c.loop-token.invariant c.in_ok-push-in-Found.ensures.items
    c.in_ok-push-in-Found-2.ensures.items c.in-Found.ensures c.behind_blanks-rest-in-Found.ensures

pub returns-in-Over : goal.returns-in-Over
returns-in-Over c =
    let column = length c.args.line.now - length c.loop-token.rest.now + 1 in
    let reads = all_led _ (complete column) _ _ c.loop-token.invariant.leads (c.in-Over.ensures column) in
    record {
      reads = record { even = c.loop-token.invariant.even; reads = reads };
      fit = read_fit _ _ _ (complete column) c.loop-token.invariant.even reads;
    }

pub returns-in-Bad : goal.returns-in-Bad
returns-in-Bad c =
    let column = length c.args.line.now - length c.loop-token.rest.now + 1 in
    let reads = all_led _ (broken c.in-Bad.why column) _ _ c.loop-token.invariant.leads (c.in-Bad.ensures column) in
    record {
      reads = record { even = c.loop-token.invariant.even; reads = reads };
      fit = read_fit _ _ _ (broken c.in-Bad.why column) c.loop-token.invariant.even reads;
    }

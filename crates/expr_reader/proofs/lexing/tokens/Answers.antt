use Rattle.std.proofs.Common.{arith, length, ap, length-drop}
use Rattle.expr_reader.proofs.TokenRows.{slice_tail, passes_space, takes_token, no_more_tokens}
use Rattle.expr_reader.proofs.lexing.tokens.Goals as goal

pub loop-at-preserved-then-here-eq32 : goal.loop-at-preserved-then-here-eq32
loop-at-preserved-then-here-eq32 c = record {
  within = omega arith;
  so_far = passes_space _ c.args.text.now c.loop-at.at _ c.loop-at-test.true c.if-here-eq32.true c.loop-at.invariant.so_far;
}

pub loop-at-preserved : goal.loop-at-preserved
loop-at-preserved c = record {
  within = omega (arith, ap length (slice_tail c.loop-at.at c.args.text.now), length-drop c.loop-at.at c.args.text.now);
  so_far = takes_token c.loop-at.found.items _ c.args.text.now _ c.loop-at.at c.token-kind.result.1 _ (record { at = c.loop-at.at; kind = c.token-kind.result.0 })
      (slice_tail c.loop-at.at c.args.text.now) c.loop-at-test.true c.if-here-eq32.false c.token-kind.ensures.len
      (ap (λ k. record { at = c.loop-at.at; kind = k }) c.token-kind.ensures.kind) c.in_ok-push.ensures.items c.loop-at.invariant.so_far;
}

pub returns : goal.returns
returns c = no_more_tokens _ c.args.text.now c.loop-at.at _ c.loop-at-test.false c.loop-at.invariant.so_far

use Rattle.std.proofs.Common.{◌≡◌, ◌≤◌, ◌+◌, ◌*◌, ◌++◌, codes, take}
use Rattle.arrayvec.specs.ArrayString.{array_string_len}
use Rattle.fact_text.specs.FactText.{node_words, spaced}
use Rattle.fact_text.proofs.stats_line.Given as goal

abbrev pub invariant-loop-number : goal.invariant-loop-number
invariant-loop-number l = record {
  bytes : l.line.bytes ≡ node_words l.fn.node (codes "stats") ++ spaced (take l.number-index l.number-items);
  room : array_string_len l.line ≤ 46 + 21 * l.number-index;
}

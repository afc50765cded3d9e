use Rattle.std.proofs.Common.{◌≡◌, ◌+◌, ◌*◌, ◌++◌, ◌≤◌, length, take}
use Rattle.arrayvec.specs.ArrayString.{array_string_len}
use Rattle.trace_text.specs.Text.{octets_text}
use Rattle.trace_text.proofs.print.push_octets.Given as goal

abbrev pub invariant-loop-k : goal.invariant-loop-k
invariant-loop-k l = record {
  end : l.k-end ≡ length l.octets;
  len : array_string_len l.line ≤ array_string_len l.initial.line + 2 * l.k;
  bytes : l.line.bytes ≡ l.initial.line.bytes ++ octets_text (take l.k l.octets);
}

use Rattle.std.proofs.Common.{◌≡◌, ◌+◌, ◌*◌, ◌++◌, ◌≤◌, length, take}
use Rattle.arrayvec.specs.ArrayString.{array_string_len}
use Rattle.trace_text.specs.Text.{path_text}
use Rattle.trace_text.proofs.print.push_path.Given as goal

abbrev pub invariant-loop-k : goal.invariant-loop-k
invariant-loop-k l = record {
  end : l.k-end ≡ length l.path;
  len : array_string_len l.line ≤ array_string_len l.initial.line + 21 * l.k;
  bytes : l.line.bytes ≡ l.initial.line.bytes ++ path_text (take l.k l.path);
}

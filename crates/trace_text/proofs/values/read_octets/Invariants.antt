use Rattle.std.proofs.Common.{◌≡◌, ◌+◌, ◌*◌, ◌++◌, ◌≤◌, true, length}
use Rattle.std.specs.Char.{is_ascii_hexdigit}
use Rattle.std.specs.List.{list_all}
use Rattle.trace_text.specs.Grammar.{octets_of}
use Rattle.trace_text.proofs.values.read_octets.Given as goal

abbrev pub invariant-loop-digits : goal.invariant-loop-digits
invariant-loop-digits l = record {
  room : 2 * length l.octets + length l.digits ≤ 128;
  hexdigits : list_all is_ascii_hexdigit l.digits ≡ true;
  so_far : l.octets ++ octets_of l.digits ≡ octets_of l.field.text.now;
}

abbrev pub decreases-loop-digits : goal.decreases-loop-digits
decreases-loop-digits l = length l.digits

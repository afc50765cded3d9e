use Rattle.std.proofs.Common.{sym, arith}
use Rattle.std.proofs.lemmas.Bool.Decides.{nat_tests}
use Rattle.std.proofs.lemmas.List.{nil_from_length}
use Rattle.play_core.proofs.LineFacts.{first_line}
use Rattle.play_core.proofs.reader.Reader.whole_line.Goals as goal

pub returns : goal.returns
returns c =
    let line = first_line c.args.bytes.now c.in_ok-len.len (sym c.in_ok-len.ensures) in
    record {
      first = line.first;
      is_open = line.is_open;
      fresh = nil_from_length c.args.self.now.begun.items (grind (arith, nat_tests, c.is_empty.ensures, c.if-not-is_empty.false));
      short = omega (arith, line.len_is);
      within = omega (arith, line.len_is);
    }

use Rattle.std.proofs.Common.{sym}
use Rattle.trace_text.specs.Fields.{field}
use Rattle.trace_text.proofs.Printed.{letter_sayable}
use Rattle.trace_text.proofs.read.read_line.Goals as goal

pub returns-in_ok-read_call-in-Ok-clause-call : goal.returns-in_ok-read_call-in-Ok-clause-call
returns-in_ok-read_call-in-Ok-clause-call c =
    (letter_sayable (field c.in-Ok.first.column c.in-Ok.first.text.now) c.next_field.new.self.end c.next_field.new.self.fields c.in_ok-read_call-in-Ok.field-0 (sym c.in_ok-read_call-in-Ok.ensures)).0

pub returns-in_ok-read_call-in-Ok-clause-sayable : goal.returns-in_ok-read_call-in-Ok-clause-sayable
returns-in_ok-read_call-in-Ok-clause-sayable c =
    (letter_sayable (field c.in-Ok.first.column c.in-Ok.first.text.now) c.next_field.new.self.end c.next_field.new.self.fields c.in_ok-read_call-in-Ok.field-0 (sym c.in_ok-read_call-in-Ok.ensures)).1

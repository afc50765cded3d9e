use Rattle.std.proofs.Common.{map, string_bytes}
use Rattle.play_core.specs.Command.{command_of}
use Rattle.play_core.proofs.Clauses.{runs_good, runs_usage, runs_expression, runs_refused, runs_read_fault, runs_write_fault, runs_free, runs_checked}
use Rattle.play_core.proofs.Tells.{runs_told, runs_trace}
use Rattle.play_core.proofs.top.run.Goals as goal

pub returns-clause-told : goal.returns-clause-told
returns-clause-told g c nm nr nw asked a input i = runs_told asked _ _ _ _ c.obey.new.space c.obey.result input (c.obey.ensures.runs asked a) nm nr nw i

pub returns-clause-trace : goal.returns-clause-trace
returns-clause-trace g c asked a input i = runs_trace asked _ _ _ _ c.obey.new.space c.obey.result input (c.obey.ensures.runs asked a) i

pub returns-clause-moves : goal.returns-clause-moves
returns-clause-moves g c e cells a input = c.whole_runs.ensures (map string_bytes c.args.words.now) e cells a input

pub returns-clause-good : goal.returns-clause-good
returns-clause-good g c = runs_good c.each_text_is_read_once.ensures.once (command_of (map string_bytes c.args.words.now)) _ _ _ _ c.obey.new.space c.obey.result c.obey.ensures.runs

pub returns-clause-usage : goal.returns-clause-usage
returns-clause-usage g c = runs_usage c.each_text_is_read_once.ensures.once (command_of (map string_bytes c.args.words.now)) _ _ _ _ c.obey.new.space c.obey.result c.obey.ensures.runs

pub returns-clause-expression : goal.returns-clause-expression
returns-clause-expression g c = runs_expression c.each_text_is_read_once.ensures.once (command_of (map string_bytes c.args.words.now)) _ _ _ _ c.obey.new.space c.obey.result c.obey.ensures.runs

pub returns-clause-opening_refused : goal.returns-clause-opening_refused
returns-clause-opening_refused g c = runs_refused c.each_text_is_read_once.ensures.once (command_of (map string_bytes c.args.words.now)) _ _ _ _ c.obey.new.space c.obey.result c.obey.ensures.runs

pub returns-clause-read_fault : goal.returns-clause-read_fault
returns-clause-read_fault g c = runs_read_fault c.each_text_is_read_once.ensures.once (command_of (map string_bytes c.args.words.now)) _ _ _ _ c.obey.new.space c.obey.result c.obey.ensures.runs

pub returns-clause-write_fault : goal.returns-clause-write_fault
returns-clause-write_fault g c = runs_write_fault c.each_text_is_read_once.ensures.once (command_of (map string_bytes c.args.words.now)) _ _ _ _ c.obey.new.space c.obey.result c.obey.ensures.runs

pub returns-clause-untouched : goal.returns-clause-untouched
returns-clause-untouched g c e =
    (c.obey.ensures.early e, runs_free c.each_text_is_read_once.ensures.once (command_of (map string_bytes c.args.words.now)) _ _ _ _ c.obey.new.space c.obey.result c.obey.ensures.runs e)

pub returns-clause-check : goal.returns-clause-check
returns-clause-check g c i =
    (c.obey.ensures.check i, runs_checked c.each_text_is_read_once.ensures.once (command_of (map string_bytes c.args.words.now)) _ _ _ _ c.obey.new.space c.obey.result c.obey.ensures.runs i)

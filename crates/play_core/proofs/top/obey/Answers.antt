use Rattle.std.proofs.Common.{◌≡◌, Some, sym, ap, ◌∙◌, map, string_bytes}
use Rattle.expr_reader.specs.Trees.{tree_of}
use Rattle.play_core.specs.Command.{check, replay, command_of, expression_in, seen}
use Rattle.play_core.proofs.Obeying.{does_check, does_replay, does_usage}
use Rattle.play_core.proofs.Whole.{free_closed}
use Rattle.play_core.proofs.top.obey.Goals as goal

pub returns-in_default-clause-runs : goal.returns-in_default-clause-runs
returns-in_default-clause-runs g c =
    does_usage _ c.as_bytes.result.now _ _ _ c.args.space.now c.put_only.result c.in_default.ensures.command c.as_bytes.ensures.value c.put_only.ensures.put (free_closed c.args.space.now 0 c.requires.closed)

pub returns-in-Ok-check_text-clause-runs : goal.returns-in-Ok-check_text-clause-runs
returns-in-Ok-check_text-clause-runs g c =
    let same = c.expression.ensures ∙ ap (λ x. expression_in (seen x)) c.in-Check.is in
    let is : Some (check c.expression.result.now) ≡ command_of (map string_bytes c.args.words.now) = ap (λ t. Some (check t)) same ∙ ap (λ x. Some (seen x)) (sym c.in-Check.is) ∙ c.in-Some.ensures.command in
    does_check _ c.expression.result.now c.as_bytes-in-Ok-check_text.result.now (tree_of c.in-Ok.expr) _ _ _ c.check_text.new.space c.put_only-in-Ok-check_text.result is (c.as_bytes-in-Ok-check_text.ensures.value ∙ c.in-Ok-check_text.ensures.text)
    c.in-Ok.ensures.told c.in-Ok.ensures.complete c.put_only-in-Ok-check_text.ensures.put c.check_text.ensures.free

pub returns-clause-runs : goal.returns-clause-runs
returns-clause-runs g c =
    let same = c.expression.ensures ∙ ap (λ x. expression_in (seen x)) c.in-Replay.is in
    let is : Some (replay c.expression.result.now c.in-Replay.cells) ≡ command_of (map string_bytes c.args.words.now) = ap (λ t. Some (replay t c.in-Replay.cells)) same ∙ ap (λ x. Some (seen x)) (sym c.in-Replay.is) ∙ c.in-Some.ensures.command in
    does_replay _ c.expression.result.now c.in-Replay.cells (tree_of c.in-Ok.expr) _ _ _ _ c.play.new.space c.play.result is c.in-Ok.ensures.told c.in-Ok.ensures.complete c.play.ensures.runs

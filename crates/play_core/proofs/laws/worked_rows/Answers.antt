-- Each by computation.
use Rattle.std.proofs.Common.{refl, Ok, Err}
use Rattle.std.specs.Fmt.{digits}
use Rattle.expr_reader.specs.declared.fault.ExprFault.TheVariants.{Syntax, NumberTooLarge, NeedsAlignment}
use Rattle.size_round.specs.Sizes.{rounded}
use Rattle.layer_rules.specs.NullRules.{null_rules}
use Rattle.leaf_rules.specs.MemRules.{mem_rules}
use Rattle.region_rules.specs.RegionRules.{region_rules}
use Rattle.shapes.specs.RulesOf.{rules_of}
use Rattle.expr_reader.specs.Descent.{args_at, node_at, layer_at}
use Rattle.expr_reader.specs.Tokens.{tokens_from}
use Rattle.expr_reader.specs.Trees.{mem, region}
use Rattle.heap_core.specs.Performing.{performed}
use Rattle.trace_text.specs.Grammar.{number_to, letter_call, line_call}
use Rattle.trace_text.specs.Text.{answer_text, fault_text}
use Rattle.play_core.specs.Asked.{Nothing, Refused, Checks, Replays}
use Rattle.play_core.specs.CheckText.{rules_text}
use Rattle.play_core.specs.Outcome.{outcome}
use Rattle.play_core.specs.ReportText.{report_of}
use Rattle.play_core.specs.Telling.{refused_text}
use Rattle.play_core.proofs.laws.worked_rows.Goals as goal

pub returns-clause-first_trace : goal.returns-clause-first_trace
unfolding rounded tokens_from args_at node_at layer_at rules_of null_rules mem_rules region_rules outcome performed report_of refused_text rules_text answer_text fault_text line_call letter_call number_to digits
returns-clause-first_trace c = record { asked = Replays (region 0 1024 16 (mem 15)) 64; asks = (c.each_text_is_read_once.ensures.computed _ (Ok (region 0 1024 16 (mem 15))) refl, refl); ends = refl; says = refl }

pub returns-clause-empty_trace : goal.returns-clause-empty_trace
unfolding rounded tokens_from args_at node_at layer_at rules_of null_rules mem_rules region_rules outcome performed report_of refused_text rules_text answer_text fault_text line_call letter_call number_to digits
returns-clause-empty_trace c = record { asked = Replays (region 0 1024 16 (mem 15)) 64; asks = (c.each_text_is_read_once.ensures.computed _ (Ok (region 0 1024 16 (mem 15))) refl, refl); ends = refl; says = refl }

pub returns-clause-no_bytes : goal.returns-clause-no_bytes
unfolding rounded tokens_from args_at node_at layer_at rules_of null_rules mem_rules region_rules outcome performed report_of refused_text rules_text answer_text fault_text line_call letter_call number_to digits
returns-clause-no_bytes c = record { asked = Replays (region 0 1024 16 (mem 15)) 64; asks = (c.each_text_is_read_once.ensures.computed _ (Ok (region 0 1024 16 (mem 15))) refl, refl); ends = refl; says = refl }

pub returns-clause-full_region : goal.returns-clause-full_region
unfolding rounded tokens_from args_at node_at layer_at rules_of null_rules mem_rules region_rules outcome performed report_of refused_text rules_text answer_text fault_text line_call letter_call number_to digits
returns-clause-full_region c = record { asked = Replays (region 0 1024 16 (mem 15)) 64; asks = (c.each_text_is_read_once.ensures.computed _ (Ok (region 0 1024 16 (mem 15))) refl, refl); ends = refl; says = refl }

pub returns-clause-cells_alone : goal.returns-clause-cells_alone
unfolding rounded tokens_from args_at node_at layer_at rules_of null_rules mem_rules region_rules outcome performed report_of refused_text rules_text answer_text fault_text line_call letter_call number_to digits
returns-clause-cells_alone c = record { asked = Replays (mem 0) 4; asks = (c.each_text_is_read_once.ensures.computed _ (Ok (mem 0)) refl, refl); ends = refl; says = refl }

pub returns-clause-region_over_region : goal.returns-clause-region_over_region
unfolding rounded tokens_from args_at node_at layer_at rules_of null_rules mem_rules region_rules outcome performed report_of refused_text rules_text answer_text fault_text line_call letter_call number_to digits
returns-clause-region_over_region c = record { asked = Replays (region 0 100 8 (region 15 1000 16 (mem 32))) 64; asks = (c.each_text_is_read_once.ensures.computed _ (Ok (region 0 100 8 (region 15 1000 16 (mem 32)))) refl, refl); ends = refl; says = refl }

pub returns-clause-opening_too_long : goal.returns-clause-opening_too_long
unfolding rounded tokens_from args_at node_at layer_at rules_of null_rules mem_rules region_rules outcome performed report_of refused_text rules_text answer_text fault_text line_call letter_call number_to digits
returns-clause-opening_too_long c = record { asked = Replays (region 0 8192 16 (mem 15)) 64; asks = (c.each_text_is_read_once.ensures.computed _ (Ok (region 0 8192 16 (mem 15))) refl, refl); ends = refl; says = refl }

pub returns-clause-opening_of_the_outer : goal.returns-clause-opening_of_the_outer
unfolding rounded tokens_from args_at node_at layer_at rules_of null_rules mem_rules region_rules outcome performed report_of refused_text rules_text answer_text fault_text line_call letter_call number_to digits
returns-clause-opening_of_the_outer c = record { asked = Replays (region 0 1024 16 (region 15 64 16 (mem 28))) 64; asks = (c.each_text_is_read_once.ensures.computed _ (Ok (region 0 1024 16 (region 15 64 16 (mem 28)))) refl, refl); ends = refl; says = refl }

pub returns-clause-opening_of_the_inner : goal.returns-clause-opening_of_the_inner
unfolding rounded tokens_from args_at node_at layer_at rules_of null_rules mem_rules region_rules outcome performed report_of refused_text rules_text answer_text fault_text line_call letter_call number_to digits
returns-clause-opening_of_the_inner c = record { asked = Replays (region 0 64 16 (region 13 8192 16 (mem 28))) 64; asks = (c.each_text_is_read_once.ensures.computed _ (Ok (region 0 64 16 (region 13 8192 16 (mem 28)))) refl, refl); ends = refl; says = refl }

pub returns-clause-expression_fault : goal.returns-clause-expression_fault
unfolding rounded tokens_from args_at node_at layer_at rules_of null_rules mem_rules region_rules outcome performed report_of refused_text rules_text answer_text fault_text line_call letter_call number_to digits
returns-clause-expression_fault c = record { asked = Refused (Syntax 12); asks = c.each_text_is_read_once.ensures.computed _ (Err (Syntax 12)) refl; ends = refl; says = refl }

pub returns-clause-no_cells : goal.returns-clause-no_cells
unfolding rounded tokens_from args_at node_at layer_at rules_of null_rules mem_rules region_rules outcome performed report_of refused_text rules_text answer_text fault_text line_call letter_call number_to digits
returns-clause-no_cells c = record { asked = Nothing; asks = refl; ends = refl; says = refl }

pub returns-clause-check_region : goal.returns-clause-check_region
unfolding rounded tokens_from args_at node_at layer_at rules_of null_rules mem_rules region_rules outcome performed report_of refused_text rules_text answer_text fault_text line_call letter_call number_to digits
returns-clause-check_region c = record { asked = Checks (region 0 1024 16 (mem 17)); asks = c.each_text_is_read_once.ensures.computed _ (Ok (region 0 1024 16 (mem 17))) refl; ends = refl; says = refl }

pub returns-clause-check_cells : goal.returns-clause-check_cells
unfolding rounded tokens_from args_at node_at layer_at rules_of null_rules mem_rules region_rules outcome performed report_of refused_text rules_text answer_text fault_text line_call letter_call number_to digits
returns-clause-check_cells c = record { asked = Checks (mem 0); asks = c.each_text_is_read_once.ensures.computed _ (Ok (mem 0)) refl; ends = refl; says = refl }

pub returns-clause-check_too_large : goal.returns-clause-check_too_large
unfolding rounded tokens_from args_at node_at layer_at rules_of null_rules mem_rules region_rules outcome performed report_of refused_text rules_text answer_text fault_text line_call letter_call number_to digits
returns-clause-check_too_large c = record { asked = Refused (NumberTooLarge 7); asks = c.each_text_is_read_once.ensures.computed _ (Err (NumberTooLarge 7)) refl; ends = refl; says = refl }

pub returns-clause-check_alignment : goal.returns-clause-check_alignment
unfolding rounded tokens_from args_at node_at layer_at rules_of null_rules mem_rules region_rules outcome performed report_of refused_text rules_text answer_text fault_text line_call letter_call number_to digits
returns-clause-check_alignment c = record { asked = Refused (NeedsAlignment 14); asks = c.each_text_is_read_once.ensures.computed _ (Err (NeedsAlignment 14)) refl; ends = refl; says = refl }

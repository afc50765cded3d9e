-- Each by computation.
use Rattle.std.proofs.Common.{refl}
use Rattle.leaf_rules.specs.MemRules.{mem_rules}
use Rattle.region_rules.specs.RegionRules.{region_rules}
use Rattle.bitmap_rules.specs.BitmapRules.{bitmap_rules}
use Rattle.kr_rules.specs.KrRules.{free_runs, kr_rules}
use Rattle.free_list_rules.specs.FreeListRules.{free_list_rules}
use Rattle.shapes.specs.RulesOf.{rules_of}
use Rattle.bitmap_rules.specs.BitmapRules.{bits_number}
use Rattle.shapes.specs.Replay.{state_after}
use Rattle.shapes.proofs.examples.bytes_in_the_space.Goals as goal

pub returns-clause-bitmap_word : goal.returns-clause-bitmap_word
unfolding state_after bits_number rules_of bitmap_rules mem_rules
returns-clause-bitmap_word c = refl

pub returns-clause-bitmap_bytes : goal.returns-clause-bitmap_bytes
unfolding state_after rules_of bitmap_rules mem_rules
returns-clause-bitmap_bytes c = refl

pub returns-clause-bitmap_image : goal.returns-clause-bitmap_image
unfolding rules_of bitmap_rules mem_rules
returns-clause-bitmap_image c = refl

pub returns-clause-bitmap_own_bytes : goal.returns-clause-bitmap_own_bytes
unfolding state_after rules_of bitmap_rules mem_rules
returns-clause-bitmap_own_bytes c = refl

pub returns-clause-bitmap_occupied : goal.returns-clause-bitmap_occupied
unfolding state_after rules_of bitmap_rules mem_rules
returns-clause-bitmap_occupied c = refl

pub returns-clause-chain_bytes : goal.returns-clause-chain_bytes
unfolding state_after rules_of free_list_rules region_rules mem_rules
returns-clause-chain_bytes c = refl

pub returns-clause-chain_image : goal.returns-clause-chain_image
unfolding rules_of free_list_rules region_rules mem_rules
returns-clause-chain_image c = refl

pub returns-clause-kr_hole_places : goal.returns-clause-kr_hole_places
unfolding state_after free_runs rules_of kr_rules mem_rules
returns-clause-kr_hole_places c = refl

pub returns-clause-kr_bytes : goal.returns-clause-kr_bytes
unfolding state_after rules_of kr_rules mem_rules
returns-clause-kr_bytes c = refl

pub returns-clause-kr_image : goal.returns-clause-kr_image
unfolding rules_of kr_rules mem_rules
returns-clause-kr_image c = refl

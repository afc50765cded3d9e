use Rattle.std.proofs.Common.{sym, ◌∙◌}
use Rattle.heap_core.proofs.Asking.{owns_at-not_live, owns_at-yes, owns_at-no, owns_at-not_serving, owns_at-not_offered, owns_at-no_layer}
use Rattle.heap_core.proofs.heap.Heap.owns_at.Goals as goal

pub returns-in_default : goal.returns-in_default
returns-in_default g c = owns_at-not_live _ _ _ _ _ c.requires (sym c.find.ensures.block ∙ c.in_default.is)

pub returns-in-Yes : goal.returns-in-Yes
returns-in-Yes g c = owns_at-yes _ _ _ _ _ _ c.requires (sym c.in-Some.ensures.block) c.in-Yes.ensures

pub returns-in-No : goal.returns-in-No
returns-in-No g c = owns_at-no _ _ _ _ _ _ c.requires (sym c.in-Some.ensures.block) c.in-No.ensures

pub returns-in-NotServing : goal.returns-in-NotServing
returns-in-NotServing g c = owns_at-not_serving _ _ _ _ _ _ c.requires (sym c.in-Some.ensures.block) c.in-NotServing.ensures

pub returns-in-NotOffered : goal.returns-in-NotOffered
returns-in-NotOffered g c = owns_at-not_offered _ _ _ _ _ _ c.requires (sym c.in-Some.ensures.block) c.in-NotOffered.ensures

pub returns-in-NoSuchLayer : goal.returns-in-NoSuchLayer
returns-in-NoSuchLayer g c = owns_at-no_layer _ _ _ _ _ _ c.requires (sym c.in-Some.ensures.block) c.in-NoSuchLayer.ensures

-- A free list says who owns a block where its parent does.
use Rattle.std.proofs.Common.{◌≡◌, true}
use Rattle.free_list_rules.specs.FreeListRules.{free_list_rules}
use Rattle.layer_core.specs.declared.Layer.{Ghosts}
use Rattle.free_list.specs.declared.caching.FreeList.{FreeList}
use Rattle.free_list.specs.FreeListModel.{free_list_of}

pub free_list_owns : {P : Type 0} {G : Ghosts P} → ((p : P) → (G.model p).rules.offers.owns ≡ true) → (l : FreeList P G) → (free_list_of G.model l).rules.offers.owns ≡ true
unfolding free_list_rules
free_list_owns owning l = owning l.parent

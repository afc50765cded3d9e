-- What calls change of the table at most: free cells, and those of the layer's own leaves.
use Rattle.std.proofs.Common.{◌≡◌, refl, sym, ◌∙◌, subst, ℕ, ◌⊎◌, inl, inr, get_or}
use Rattle.space_core.specs.Cells.{Cells}
use Rattle.layer_rules.specs.Rules.{Rules, IsLeaf}
use Rattle.layer_laws.specs.Lawful.{OnlyOwnCells, OnlyFreed, IsFreeOrOwn, OnlyOwnChanged}
use Rattle.layer_laws.proofs.Takings.{HasLeavesOf}

pub changed-none : (e : Rules) (cells : Cells) → OnlyOwnChanged e cells cells
changed-none e cells c = inl refl

-- cells that were taken, and cells that were freed
pub changed-taken : (e : Rules) (old new : Cells) → OnlyOwnCells e old new → OnlyOwnChanged e old new
changed-taken e old new g c = elim (g.each c) [ inl z ↦ inl z | inr z ↦ inr (inl z.0, inr z.1) ]

pub changed-freed : (e : Rules) (old new : Cells) → OnlyFreed (IsLeaf e) old new → OnlyOwnChanged e old new
changed-freed e old new g c = elim (g c) [ inl z ↦ inl z | inr z ↦ inr (inr z.1, inl z.0) ]

-- Two changes in turn are one.
cell-then : (e : Rules) (old mid new : ℕ) → (mid ≡ old) ⊎ (IsFreeOrOwn e old × IsFreeOrOwn e mid) → (new ≡ mid) ⊎ (IsFreeOrOwn e mid × IsFreeOrOwn e new) → (new ≡ old) ⊎ (IsFreeOrOwn e old × IsFreeOrOwn e new)
cell-then e old mid new (inl x) (inl y) = inl (y ∙ x)
cell-then e old mid new (inl x) (inr y) = inr (subst (IsFreeOrOwn e) x y.0, y.1)
cell-then e old mid new (inr x) (inl y) = inr (x.0, subst (IsFreeOrOwn e) (sym y) x.1)
cell-then e old mid new (inr x) (inr y) = inr (x.0, y.1)

pub changed-then : (e : Rules) (old mid new : Cells) → OnlyOwnChanged e old mid → OnlyOwnChanged e mid new → OnlyOwnChanged e old new
changed-then e old mid new f g c = cell-then e (get_or old.tags c 0) (get_or mid.tags c 0) (get_or new.tags c 0) (f c) (g c)

-- what is changed for a child's leaves is changed for its parent's
free_or_own-wider : (e f : Rules) (t : ℕ) → HasLeavesOf f e → IsFreeOrOwn e t → IsFreeOrOwn f t
free_or_own-wider e f t w (inl z) = inl z
free_or_own-wider e f t w (inr l) = inr (w t l)

pub changed-wider : (e f : Rules) (old new : Cells) → HasLeavesOf f e → OnlyOwnChanged e old new → OnlyOwnChanged f old new
changed-wider e f old new w g c =
    elim (g c) [ inl z ↦ inl z | inr z ↦ inr (free_or_own-wider e f (get_or old.tags c 0) w z.0, free_or_own-wider e f (get_or new.tags c 0) w z.1) ]

-- Two closed layers that stand make a fallback that stands.
use Rattle.std.proofs.Common.{◌≡◌, ◌≢◌, refl, sym, subst, ◌∙◌, ℕ, inl, inr, false, List, [], ◌∷◌, ◌++◌, nat_eq}
use Rattle.std.proofs.lemmas.Bool.{and_from}
use Rattle.std.proofs.lemmas.List.Folds.{list_all-append}
use Rattle.space_core.specs.Cells.{used_by}
use Rattle.space_core.specs.Memory.{Memory}
use Rattle.layer_rules.specs.Layering.{LayerModel, Stands, IsShut}
use Rattle.layer_rules.specs.Rows.{Each, EachPair}
use Rattle.layer_rules.specs.Rules.{IsIn, IsBeside}
use Rattle.layer_laws.specs.Lawful.{IsMade}
use Rattle.layer_laws.proofs.MembersLawful.{in-either}
use Rattle.layer_laws.proofs.StandingLaws.{shut-no_cells}
use Rattle.fallback_rules.specs.FallbackRules.{fallback_rules}
use Rattle.fallback.specs.FallbackModel.{fallback_if}
use Rattle.fallback.specs.FallbackStanding.{ClosedFallbackStands}

-- ---- the tags of both

other-than : (x : ℕ) (ys : List ℕ) → (IsIn ys x → ⊥) → Each (λ y. x ≢ y) ys
other-than x [] n = tt
other-than x (y ∷ ys) n = (λ e. n (inl e), other-than x ys (λ l. n (inr l)))

each-both : (x : ℕ) (xs ys : List ℕ) → Each (λ y. x ≢ y) xs → Each (λ y. x ≢ y) ys → Each (λ y. x ≢ y) (xs ++ ys)
each-both x [] ys h k = k
each-both x (z ∷ xs) ys h k = (h.0, each-both x xs ys h.1 k)

distinct-both : (xs ys : List ℕ) → EachPair ◌≢◌ xs → EachPair ◌≢◌ ys → ((t : ℕ) → IsIn xs t → IsIn ys t → ⊥) → EachPair ◌≢◌ (xs ++ ys)
distinct-both [] ys h k apart = k
distinct-both (x ∷ xs) ys h k apart = (each-both x xs ys h.0 (other-than x ys (λ l. apart x (inl refl) l)), distinct-both xs ys h.1 k (λ t l r. apart t (inr l) r))

-- ---- the fallback of both

closed-stands : (p f : LayerModel) (m : Memory) → IsMade p.rules → IsMade f.rules → IsBeside p.rules f.rules → IsShut p → IsShut f → Stands p m → Stands f m → Stands (fallback_if false p f) m
unfolding fallback_rules
closed-stands p f m l k beside u v x y = record {
  memory = x.memory;
  sound = record {
    distinct = distinct-both p.rules.leaf_tags f.rules.leaf_tags x.sound.distinct y.sound.distinct beside.apart;
    made = record {
      least = λ t i. elim (in-either p.rules.leaf_tags f.rules.leaf_tags t i) [ inl j ↦ x.sound.made.least t j | inr j ↦ y.sound.made.least t j ];
      most = λ t i. elim (in-either p.rules.leaf_tags f.rules.leaf_tags t i) [ inl j ↦ x.sound.made.most t j | inr j ↦ y.sound.made.most t j ];
    };
    settled = list_all-append (λ t. nat_eq (used_by t m.cells) 0) p.rules.leaf_tags f.rules.leaf_tags ∙ and_from _ _ (shut-no_cells p m l x u) (shut-no_cells f m k y v);
  };
  image = refl;
}

pub closed-fallback_stands : ClosedFallbackStands
closed-fallback_stands p f m l k beside u v x y = subst (λ q. Stands (fallback_if q p f) m) (sym u) (closed-stands p f m l k beside u v x y)

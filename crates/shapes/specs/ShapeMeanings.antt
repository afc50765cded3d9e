-- ShapeMeanings: what it is that a shape is proper, and what holds of the rules of each shape and of each proper one.
use Rattle.size_round.specs.Sizes.{is_between}
use Rattle.std.specs.Prelude.{◌≡◌, ℕ, ◌<◌, ◌↔◌, true, List, length}
use Rattle.layer_rules.specs.Members.{nth}
use Rattle.layer_rules.specs.Rules.{HasDistinctTags, HasSomeTags}
use Rattle.layer_laws.specs.Lawful.{UnrangedLaws, IsRegular, IsLawful, IsMade}
use Rattle.size_dispatch_rules.specs.BucketsMeanings.{HasBucket}
use Rattle.size_dispatch_rules.specs.SegregateRules.{member_for}
use Rattle.shapes.specs.Proper.{all_own, is_proper, are_proper, is_composition}
use Rattle.shapes.specs.RulesOf.{rules_of, rules_of_each}
use Rattle.shapes.specs.Shape.{Shape, null, mem, region, bitmap, kr, freelist, quantize, stats, affix, segregate, buckets, fallback, list, Shapes, no_members, member, member_count, nth_member}

-- ---- members

-- each member has the property
abbrev pub EachShape : (Shape → Type 0) → Shapes → Type 0
EachShape P es = (i : ℕ) → i < member_count es → P (nth_member es i)

-- the rules of members are those of each, in order
pub record AreRulesOfEach (es : Shapes) : Type 0 where
  pub count : length (rules_of_each es) ≡ member_count es
  pub each : (i : ℕ) → nth (rules_of_each es) i ≡ rules_of (nth_member es i)

abbrev pub RulesOfMembers : Type 0
RulesOfMembers = (es : Shapes) → AreRulesOfEach es

-- members are proper where each is, and all own where each offers owns
abbrev pub ProperMembers : Type 0
ProperMembers = (es : Shapes) → (are_proper es ≡ true) ↔ EachShape (λ e. is_proper e ≡ true) es

abbrev pub OwningMembers : Type 0
OwningMembers = (es : Shapes) → (all_own es ≡ true) ↔ EachShape (λ e. (rules_of e).offers.owns ≡ true) es

-- a proper segregator has the member for each length, and proper buckets have one for each length in range
abbrev pub ProperHasMember : Type 0
ProperHasMember = (ts : List ℕ) (es : Shapes) (n : ℕ) → is_proper (segregate ts es) ≡ true → member_for ts n < member_count es

abbrev pub ProperHasBucket : Type 0
ProperHasBucket =
    (least greatest step : ℕ) (es : Shapes) (n : ℕ) → is_proper (buckets least greatest step es) ≡ true → is_between least greatest n ≡ true
    → HasBucket least greatest step (rules_of_each es) n

-- ---- every shape

-- whatever its numbers are
abbrev pub ShapesHaveUnrangedLaws : Type 0
ShapesHaveUnrangedLaws = (e : Shape) → UnrangedLaws (rules_of e)

-- ---- every proper shape

-- its rules are regular
abbrev pub ShapesAreRegular : Type 0
ShapesAreRegular = (e : Shape) → is_proper e ≡ true → IsRegular (rules_of e)

-- they are lawful where its leaves have tags of their own
abbrev pub ShapesAreLawful : Type 0
ShapesAreLawful = (e : Shape) → is_proper e ≡ true → HasDistinctTags (rules_of e) → HasSomeTags (rules_of e) → IsLawful (rules_of e)

-- those of a composition are the rules of a layer that may be made
abbrev pub CompositionsAreMade : Type 0
CompositionsAreMade = (e : Shape) → is_composition e ≡ true → IsMade (rules_of e)

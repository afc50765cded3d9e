-- Segregate: lengths in a row, divided by thresholds; each request goes to the member for its length.
use Rattle.std.specs.Prelude.{ℕ, suc, Bool, true, false, ◌&&◌, List, [], ◌∷◌, nat_lt, nat_le}
use Rattle.size_round.specs.Sizes.{limit}
use Rattle.layer_rules.specs.Offering.{if_served}
use Rattle.layer_rules.specs.Setting.{need_at}
use Rattle.layer_rules.specs.Rules.{Rules}
use Rattle.layer_rules.specs.Members.{nth}
use Rattle.layer_rules.specs.Choosing.{Choosing, choosing_rules}

-- each threshold is at least 1 and above the one before it, and none is above the limit
unfoldable pub are_thresholds : (before : ℕ) → List ℕ → Bool
are_thresholds before [] = true
are_thresholds before (t ∷ ts) = nat_lt before t && (nat_le t limit && are_thresholds t ts)

-- the number of the member for a length: the first whose threshold is not below it, else the last
unfoldable pub member_for : (thresholds : List ℕ) → ℕ → ℕ
member_for [] n = 0
member_for (t ∷ ts) n = elim (nat_le n t) [ true ↦ 0 | false ↦ suc (member_for ts n) ]

-- each length has a member, is asked of it as itself, and is shown as it is given
abbrev pub segregate_choice : (thresholds : List ℕ) → List Rules → Choosing
segregate_choice ts es = record {
  fits = λ n. true;
  chosen = member_for ts;
  asked = λ n. n;
  shown = λ n b. b;
  need = λ need i. need_at (member_for ts need) need i;
  good_alloc_size = if_served (λ n. (nth es (member_for ts n)).good_alloc_size n);
}

unfoldable pub segregate_rules : (thresholds : List ℕ) → List Rules → Rules
segregate_rules ts es = choosing_rules (segregate_choice ts es) es

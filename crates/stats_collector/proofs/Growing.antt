-- A block grows: the parent's answer, counted.
use Rattle.std.proofs.Common.{◌≡◌, refl, sym, ap, subst, ℕ, ◌≤◌, ◌+◌, Bool, Option, Some}
use Rattle.size_round.specs.Sizes.{limit}
use Rattle.space_core.specs.Memory.{Memory}
use Rattle.layer_rules.specs.declared.Block.{Block}
use Rattle.layer_rules.specs.declared.Stats.{Stats}
use Rattle.layer_rules.specs.Fields.{kept_stats}
use Rattle.layer_rules.specs.Layering.{LayerModel, IsOutOf, Expands}
use Rattle.layer_rules.specs.State.{stats_own}
use Rattle.layer_laws.proofs.HandingChanges.{hand-expanded}
use Rattle.layer_laws.specs.Lawful.{IsMade}
use Rattle.stats_rules.specs.Counting.{count_expand}
use Rattle.stats_rules.proofs.StatsLawful.{stats-hands}
use Rattle.stats_rules.specs.StatsRules.{slack_of, stats_handing, stats_rules}
use Rattle.stats_collector.specs.CollectorModel.{collector_model}

pub grown-parent : (o : Option Stats) (x x' : Stats) (t t' : LayerModel) (m m' : Memory) (b c : Block) (delta : ℕ) (r : Bool) → o ≡ Some x → IsMade t.rules → IsOutOf (collector_model o t) m b → 1 ≤ delta → b.len + delta ≤ limit
    → x' ≡ count_expand r delta (slack_of t.rules b.len) (slack_of t.rules (b.len + delta)) x → Expands t t' m m' b c delta r → Expands (collector_model o t) (collector_model (Some x') t') m m' b c delta r
unfolding stats_rules
grown-parent o x x' t t' m m' b c delta r q l out some short counted a =
    subst (λ o. IsOutOf (collector_model o t) m b → Expands (collector_model o t) (collector_model (Some x') t') m m' b c delta r) (sym q)
    (λ out. subst (λ g. Expands (collector_model (Some x) t) (collector_model (Some x') t') m m' b g delta r) (sym a.block)
    (hand-expanded stats_handing kept_stats x x' t t' m m' b c delta delta r (stats-hands t.rules l.regular.telling) out
    (record { expands = refl; some = some; most = short; admits = refl; lacks = refl; lacks_some = some }) (ap stats_own counted) (λ done. record { clean = λ x. x; marked = λ x. x }) a)) out

-- Statistics are regular and lawful over a parent that is.
use Rattle.std.proofs.Common.{◌≡◌, refl, true, arith}
use Rattle.layer_rules.specs.declared.Stats.{Stats}
use Rattle.layer_rules.specs.State.{Own, stats_own, without_counts}
use Rattle.layer_rules.specs.Steady.{own_steady}
use Rattle.layer_rules.specs.Unread.{own_unread}
use Rattle.layer_rules.specs.Rules.{Rules}
use Rattle.layer_laws.specs.Lawful.{TellingLaws, UnrangedLaws}
use Rattle.layer_laws.specs.HandsDown.{HandsDown, KeepsWhereRefused}
use Rattle.layer_laws.proofs.Steps.{as-long}
use Rattle.layer_laws.proofs.HandingLawful.{hand-lawful}
use Rattle.layer_laws.proofs.HandingParts.{out-hand, hand-out}
use Rattle.layer_laws.proofs.HandingRegular.{hand-regular, hand-unranged}
use Rattle.stats_rules.specs.StatsRules.{is_stats_own, recounted, stats_handing, stats_rules}
use Rattle.stats_rules.specs.StatsMeanings.{StatsIsRegular, StatsIsLawful, OutOfStats}

still-stats : (f : Stats → Stats) (own : Own) → is_stats_own own ≡ true → is_stats_own (recounted f own) ≡ true
still-stats f (stats_own counts) p = refl
still-stats f _ p = absurd (cc)

uncounted-recounted : (f : Stats → Stats) (own : Own) → without_counts (recounted f own) ≡ without_counts own
uncounted-recounted f (stats_own counts) = refl
uncounted-recounted f _ = refl

steady-recounted : (f : Stats → Stats) (own : Own) → own_steady (recounted f own) ≡ own_steady own
steady-recounted f (stats_own counts) = refl
steady-recounted f _ = refl

unread-recounted : (f : Stats → Stats) (own : Own) → own_unread (recounted f own) ≡ recounted f (own_unread own)
unread-recounted f (stats_own counts) = refl
unread-recounted f _ = refl

-- its numbers are statistics
stats-keeps : (e : Rules) → KeepsWhereRefused (stats_handing e)
stats-keeps e = record {
  allocated = λ n own. uncounted-recounted _ own;
  expanded = λ delta b own. uncounted-recounted _ own;
  reallocated = λ n b own. uncounted-recounted _ own;
  owned = λ own. uncounted-recounted _ own;
  owned_steady = λ own. steady-recounted _ own;
  owned_unread = λ own. unread-recounted _ own;
  admits = λ n x y q. refl;
}

pub stats-hands : (e : Rules) → TellingLaws e → HandsDown (stats_handing e) e
stats-hands e t =
    record {
      shown = λ n b q. record { fits = refl; back = refl; len = q };
      wider = λ b f. record { from = omega arith; upto = omega arith };
      longer = λ b delta f. record { fits = refl; down = as-long b delta };
      asked_some = λ n l. l;
      placed = λ a n b. refl;
      tells = record {
        enough = t.enough;
        of_nothing = t.of_nothing;
        above_limit = t.above_limit;
        aligned = t.aligned;
        shown_aligned = λ b f m. m;
      };
      in_order = record {
        first = refl;
        allocated = λ ok n own p a. still-stats _ own p;
        expanded = λ ok delta b own p a. still-stats _ own p;
        deallocated = λ ok b own p. still-stats _ own p;
        all_deallocated = λ own p. still-stats _ own p;
        reallocated = λ n b r own p. still-stats _ own p;
        owned = λ own p. still-stats _ own p;
      };
      refused = stats-keeps e;
      round = record {
        clean = λ b old new f k z. z;
        marked = λ b old new f k z. z;
        clean_is_marked = λ b bytes z. z;
      };
      in_place = λ b n f q. absurd (cc);
      one_place = λ b c f g q. q;
    }

pub stats-unranged : (e : Rules) → UnrangedLaws e → UnrangedLaws (stats_rules e)
unfolding stats_rules
stats-unranged e g = hand-unranged (stats_handing e) e (stats-keeps e) g

pub stats_is_regular : StatsIsRegular
unfolding stats_rules
stats_is_regular e g = hand-regular (stats_handing e) e (stats-hands e g.telling) g

pub stats_is_lawful : StatsIsLawful
unfolding stats_rules
stats_is_lawful e t g = hand-lawful (stats_handing e) e (stats-hands e g.telling) t g

pub out_of_stats : OutOfStats
unfolding stats_rules
out_of_stats e b s cells = (
  λ o. let x = out-hand (stats_handing e) e b s cells o in record { is_set = x.is_set; some = x.some; below = x.below },
  λ x. hand-out (stats_handing e) e b s cells (record { is_set = x.is_set; some = x.some; fits = refl; below = x.below }),
)

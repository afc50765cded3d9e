-- A quota is regular and lawful over a parent that is.
use Rattle.std.proofs.Common.{◌≡◌, refl, ap, ℕ, ◌+◌, ◌≤◌, Bool, true, false, arith, [], ◌∷◌, nat_le}
use Rattle.std.proofs.lemmas.Bool.Decides.{nat_tests}
use Rattle.layer_rules.specs.State.{Own, stats_own, row_own, row_in, own_of, without_counts}
use Rattle.layer_rules.specs.Rules.{Rules}
use Rattle.layer_laws.specs.Lawful.{TellingLaws}
use Rattle.layer_laws.specs.HandsDown.{HandsDown}
use Rattle.layer_laws.proofs.Steps.{as-long}
use Rattle.layer_laws.proofs.HandingLawful.{hand-lawful}
use Rattle.layer_laws.proofs.HandingParts.{out-hand, hand-out, hand-opened}
use Rattle.layer_laws.proofs.HandingRegular.{hand-regular}
use Rattle.quota_rules.specs.QuotaRules.{first_number, used_in, is_within, with_used, charged, refunded, quota_handing, quota_rules}
use Rattle.quota_rules.specs.QuotaMeanings.{QuotaIsRegular, QuotaIsLawful, OutOfQuota, QuotaCountsWithin}

-- ---- it stays within

charged-within : (most : ℕ) (ok : Bool) (n : ℕ) (own : Own) → is_within most own ≡ true → (ok ≡ true → nat_le (used_in own + n) most ≡ true) → is_within most (with_used (charged ok n) own) ≡ true
charged-within most true n (row_own (used ∷ [])) p a = a refl
charged-within most false n (row_own (used ∷ [])) p a = p
charged-within most ok n _ p a = absurd (cc)

refunded-within : (most : ℕ) (ok : Bool) (n : ℕ) (own : Own) → is_within most own ≡ true → is_within most (with_used (refunded ok n) own) ≡ true
refunded-within most true n (row_own (used ∷ [])) p = grind (arith, nat_tests)
refunded-within most false n (row_own (used ∷ [])) p = p
refunded-within most ok n _ p = absurd (cc)

none-within : (most : ℕ) (own : Own) → is_within most own ≡ true → is_within most (with_used (λ used. 0) own) ≡ true
none-within most (row_own (used ∷ [])) p = grind (arith, nat_tests)
none-within most _ p = absurd (cc)

-- ---- a refused call changes nothing

charged-same : (n : ℕ) (own : Own) → with_used (charged false n) own ≡ own
charged-same n (row_own (used ∷ [])) = refl
charged-same n _ = refl

row-uncounted : (own : Own) → row_in (without_counts own) ≡ row_in own
row-uncounted (stats_own counts) = refl
row-uncounted _ = refl

same-used : (x y : Own) → without_counts x ≡ without_counts y → used_in x ≡ used_in y
same-used x y q =
    let a = row-uncounted x in
    let b = row-uncounted y in
    let c = ap row_in q in
    let r : row_in x ≡ row_in y = cc in ap first_number r

pub quota-hands : (most : ℕ) (e : Rules) → TellingLaws e → HandsDown (quota_handing most e) e
quota-hands most e t =
    record {
      shown = λ n b q. record { fits = refl; back = refl; len = q };
      wider = λ b f. record { from = omega arith; upto = omega arith };
      longer = λ b delta f. record { fits = refl; down = as-long b delta };
      asked_some = λ n l. l;
      placed = λ a. absurd (cc);
      tells = record {
        enough = t.enough;
        of_nothing = t.of_nothing;
        above_limit = t.above_limit;
        aligned = t.aligned;
        shown_aligned = λ b f m. m;
      };
      in_order = record {
        first = grind (arith, nat_tests);
        allocated = charged-within most;
        expanded = λ ok delta b. charged-within most ok delta;
        deallocated = λ ok b. refunded-within most ok b.len;
        all_deallocated = none-within most;
        reallocated = λ n b r own p. p;
        owned = λ own p. p;
      };
      refused = record {
        allocated = λ n own. ap without_counts (charged-same n own);
        expanded = λ delta b own. ap without_counts (charged-same delta own);
        reallocated = λ n b own. refl;
        owned = λ own. refl;
        owned_steady = λ own. refl;
        owned_unread = λ own. refl;
        admits = λ n x y q. ap (λ used. nat_le (used + n) most) (same-used x y q);
      };
      round = record {
        clean = λ b old new f k z. z;
        marked = λ b old new f k z. z;
        clean_is_marked = λ b bytes z. z;
      };
      in_place = λ b n f q. absurd (cc);
      one_place = λ b c f g q. q;
    }

pub quota_is_regular : QuotaIsRegular
unfolding quota_rules
quota_is_regular most e g = hand-regular (quota_handing most e) e (quota-hands most e g.telling) g

pub quota_is_lawful : QuotaIsLawful
unfolding quota_rules
quota_is_lawful most e t g = hand-lawful (quota_handing most e) e (quota-hands most e g.telling) t g

-- ---- what it counts, and what is out

counts-own : (most : ℕ) (own : Own) → is_within most own ≡ true → (used : ℕ) × (row_in own ≡ used ∷ []) × (used ≤ most)
counts-own most (row_own (used ∷ [])) p = (used, refl, grind (arith, nat_tests))
counts-own most _ p = absurd (cc)

pub quota_counts_within : QuotaCountsWithin
unfolding quota_rules
quota_counts_within most e s cells o z = let x = counts-own most (own_of s) (hand-opened (quota_handing most e) e s cells o z).own in record { used = x.0; kept = x.1; within = x.2 }

pub out_of_quota : OutOfQuota
unfolding quota_rules
out_of_quota most e b s cells = (
  λ o. let x = out-hand (quota_handing most e) e b s cells o in record { is_set = x.is_set; some = x.some; below = x.below },
  λ x. hand-out (quota_handing most e) e b s cells (record { is_set = x.is_set; some = x.some; fits = refl; below = x.below }),
)

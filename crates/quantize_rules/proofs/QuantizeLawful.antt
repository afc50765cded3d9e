-- Quantize is regular and lawful over a parent that is.
use Rattle.std.proofs.Common.{◌≡◌, refl, sym, ap, ◌+◌, ◌-◌, ◌≤◌, ℕ, true, arith}
use Rattle.std.proofs.lemmas.Bool.Decides.{nat_tests}
use Rattle.size_round.specs.Sizes.{RoundingKind, rounded, is_proper_kind}
use Rattle.size_round.proofs.KindLaws.{rounded_is_enough, rounded_is_monotone}
use Rattle.layer_rules.specs.declared.Block.{Block}
use Rattle.layer_rules.specs.Blocks.{block, with_len, lies_in}
use Rattle.layer_rules.specs.Rules.{Rules}
use Rattle.layer_laws.specs.Lawful.{TellingLaws, UnrangedLaws}
use Rattle.layer_laws.specs.HandsDown.{HandsDown, KeepsWhereRefused}
use Rattle.layer_laws.proofs.GoodSizes.{served-enough, unserved-above}
use Rattle.layer_laws.proofs.HandingLawful.{hand-lawful}
use Rattle.layer_laws.proofs.HandingParts.{out-hand, hand-out}
use Rattle.layer_laws.proofs.HandingRegular.{hand-regular, hand-unranged}
use Rattle.quantize_rules.specs.QuantizeRules.{quantize_handing, quantize_rules}
use Rattle.quantize_rules.specs.QuantizeMeanings.{QuantizeIsRegular, QuantizeIsLawful, QuantizeHandsAllDown, OutOfQuantize}

longer-rounded : (kind : RoundingKind) (b : Block) (delta : ℕ) → is_proper_kind kind ≡ true → with_len b (rounded kind (b.len + delta)) ≡ with_len b (rounded kind b.len + (rounded kind (b.len + delta) - rounded kind b.len))
longer-rounded kind b delta k =
    let l = rounded_is_monotone kind b.len (b.len + delta) k (omega arith) in
    let q : rounded kind (b.len + delta) ≡ rounded kind b.len + (rounded kind (b.len + delta) - rounded kind b.len) = omega arith in ap (with_len b) q

-- it keeps no numbers
quantize-keeps : (kind : RoundingKind) (e : Rules) → KeepsWhereRefused (quantize_handing kind e)
quantize-keeps kind e = record {
  allocated = λ n own. refl;
  expanded = λ delta b own. refl;
  reallocated = λ n b own. refl;
  owned = λ own. refl;
  owned_steady = λ own. refl;
  owned_unread = λ own. refl;
  admits = λ n x y q. refl;
}

pub quantize-hands : (kind : RoundingKind) (e : Rules) → is_proper_kind kind ≡ true → TellingLaws e → HandsDown (quantize_handing kind e) e
quantize-hands kind e k t =
    record {
      shown = λ n b q. record { fits = refl; back = ap (block b.place) (sym q); len = refl };
      wider = λ b f. let l = rounded_is_enough kind b.len k in record { from = omega arith; upto = omega arith };
      longer = λ b delta f. record { fits = refl; down = longer-rounded kind b delta k };
      asked_some = λ n l. let m = rounded_is_enough kind n k in omega arith;
      placed = λ a n b. refl;
      tells = record {
        enough = λ n. served-enough (rounded kind) n (rounded_is_enough kind n k);
        of_nothing = refl;
        above_limit = unserved-above (rounded kind);
        aligned = t.aligned;
        shown_aligned = λ b f m. m;
      };
      in_order = record {
        first = refl;
        allocated = λ ok n own p a. p;
        expanded = λ ok delta b own p a. p;
        deallocated = λ ok b own p. p;
        all_deallocated = λ own p. p;
        reallocated = λ n b r own p. p;
        owned = λ own p. p;
      };
      refused = quantize-keeps kind e;
      round = record {
        clean = λ b old new f k z. z;
        marked = λ b old new f k z. z;
        clean_is_marked = λ b bytes z. z;
      };
      in_place = λ b n f q. record { fits = refl; down = ap (with_len b) (let k : rounded kind n ≡ rounded kind b.len = grind (arith, nat_tests) in k) };
      one_place = λ b c f g q. q;
    }

-- whatever its rounding
pub quantize-unranged : (kind : RoundingKind) (e : Rules) → UnrangedLaws e → UnrangedLaws (quantize_rules kind e)
unfolding quantize_rules
quantize-unranged kind e g = hand-unranged (quantize_handing kind e) e (quantize-keeps kind e) g

pub quantize_is_regular : QuantizeIsRegular
unfolding quantize_rules
quantize_is_regular kind e k g = hand-regular (quantize_handing kind e) e (quantize-hands kind e k g.telling) g

pub quantize_is_lawful : QuantizeIsLawful
unfolding quantize_rules
quantize_is_lawful kind e k t g = hand-lawful (quantize_handing kind e) e (quantize-hands kind e k g.telling) t g

pub quantize_hands_all_down : QuantizeHandsAllDown
quantize_hands_all_down kind b k = let l = rounded_is_enough kind b.len k in longer b (rounded kind b.len) l
  where
    longer : (b : Block) (n : ℕ) → b.len ≤ n → lies_in b (with_len b n) ≡ true
    longer b n h = grind (arith, nat_tests)

pub out_of_quantize : OutOfQuantize
unfolding quantize_rules
out_of_quantize kind e b s cells = (
  λ o. let x = out-hand (quantize_handing kind e) e b s cells o in record { is_set = x.is_set; some = x.some; below = x.below },
  λ x. hand-out (quantize_handing kind e) e b s cells (record { is_set = x.is_set; some = x.some; fits = refl; below = x.below }),
)

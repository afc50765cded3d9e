-- An affix is regular and lawful over a parent that is, whatever its lengths.
use Rattle.std.proofs.Common.{◌≡◌, refl, sym, ap, subst, ℕ, zero, suc, ◌≤◌, ◌+◌, ◌-◌, inl, inr, Bool, true, false, ◌&&◌, ◌||◌, arith, List, min, nat_le, nat_lt}
use Rattle.std.proofs.lemmas.Bool.{and_from}
use Rattle.std.proofs.lemmas.Bool.Decides.{nat_tests}
use Rattle.size_round.specs.Sizes.{power_part}
use Rattle.size_round.specs.SizeMeanings.{IsMultiple, IsPower}
use Rattle.size_round.proofs.PowerLaws.{part_is_greatest}
use Rattle.layer_rules.specs.declared.Block.{Block}
use Rattle.layer_rules.specs.Blocks.{block, with_len, end_of}
use Rattle.layer_rules.specs.Testing.{are_bytes, is_word}
use Rattle.layer_rules.specs.Rules.{Rules}
use Rattle.layer_laws.specs.Lawful.{IsAlignment, TellingLaws, UnrangedLaws}
use Rattle.layer_laws.specs.HandsDown.{RoundKept, HandsDown, KeepsWhereRefused}
use Rattle.layer_laws.proofs.Basics.{and-fst, and-snd}
use Rattle.layer_laws.proofs.CellRooms.{multiple_of_multiple}
use Rattle.layer_laws.proofs.GoodSizes.{served-enough, unserved-above, power-alignment}
use Rattle.layer_laws.proofs.KeptBytes.{word-parts, word-test, word-kept, bytes-parts, bytes-test, bytes-kept}
use Rattle.layer_laws.proofs.Multiples.{multiple-sum, min-is, min-divides}
use Rattle.layer_laws.proofs.HandingLawful.{hand-lawful}
use Rattle.layer_laws.proofs.HandingParts.{out-hand, hand-out}
use Rattle.layer_laws.proofs.HandingRegular.{hand-regular, hand-unranged}
use Rattle.affix_rules.specs.AffixRules.{affix_down, alignment_behind, suffix_byte, has_length, has_affixes, affix_handing, affix_rules}
use Rattle.affix_rules.specs.AffixMeanings.{AffixIsRegular, AffixIsLawful, AffixHandsAllDown, OutOfAffix, HasLengthBefore, LengthStandsBefore, IsAffixClean, AffixesByBytes}

-- ---- bytes round a block

abbrev zeros_from : (prefix : ℕ) → Block → ℕ
zeros_from prefix b = b.place - (prefix - 8)

length-kept : (prefix suffix : ℕ) (b : Block) (old new : List ℕ) (short : Bool) → nat_lt prefix 8 ≡ short → prefix ≤ b.place → RoundKept b (affix_down prefix suffix b) old new → (short || is_word old (b.place - prefix) b.len) ≡ true → (short || is_word new (b.place - prefix) b.len) ≡ true
length-kept prefix suffix b old new true q l k h = refl
length-kept prefix suffix b old new false q l k h =
    let m : 8 ≤ prefix = grind (arith, nat_tests) in
    word-kept (b.place - prefix) b.len old new (record { length_same = k.length_same; at = λ i x y. k.at i (omega arith) (omega arith) (inl (omega arith)) }) h

affixes-kept : (prefix suffix : ℕ) (b : Block) (old new : List ℕ) → prefix ≤ b.place → RoundKept b (affix_down prefix suffix b) old new → has_affixes prefix suffix b old ≡ true → has_affixes prefix suffix b new ≡ true
affixes-kept prefix suffix b old new l k h =
    let first = has_length prefix b old in
    let zeros = are_bytes 0 (zeros_from prefix b) (b.place - zeros_from prefix b) old in
    let behind = are_bytes suffix_byte (end_of b) suffix old in
    let r = and-snd first (zeros && behind) h in
    and_from _ _ (length-kept prefix suffix b old new (nat_lt prefix 8) refl l k (and-fst first (zeros && behind) h))
    (and_from _ _ (bytes-kept 0 (zeros_from prefix b) (b.place - zeros_from prefix b) old new (λ i x y. k.at i (omega arith) (omega arith) (inl (omega arith))) (and-fst zeros behind r))
    (bytes-kept suffix_byte (end_of b) suffix old new (λ i x y. k.at i (omega arith) (omega arith) (inr (omega arith))) (and-snd zeros behind r)))

length-parts : (prefix : ℕ) (b : Block) (bytes : List ℕ) (short : Bool) → nat_lt prefix 8 ≡ short → (short || is_word bytes (b.place - prefix) b.len) ≡ true → HasLengthBefore prefix b bytes
length-parts prefix b bytes true q h l = absurd (grind (arith, nat_tests))
length-parts prefix b bytes false q h l = word-parts bytes (b.place - prefix) b.len h

length-test : (prefix : ℕ) (b : Block) (bytes : List ℕ) (short : Bool) → nat_lt prefix 8 ≡ short → HasLengthBefore prefix b bytes → (short || is_word bytes (b.place - prefix) b.len) ≡ true
length-test prefix b bytes true q f = refl
length-test prefix b bytes false q f = word-test bytes (b.place - prefix) b.len (f (grind (arith, nat_tests)))

pub length_stands_before : LengthStandsBefore
length_stands_before prefix b bytes = (length-parts prefix b bytes (nat_lt prefix 8) refl, length-test prefix b bytes (nat_lt prefix 8) refl)

pub affixes-parts : (prefix suffix : ℕ) (b : Block) (bytes : List ℕ) → has_affixes prefix suffix b bytes ≡ true → IsAffixClean prefix suffix b bytes
affixes-parts prefix suffix b bytes h =
    let first = has_length prefix b bytes in
    let zeros = are_bytes 0 (zeros_from prefix b) (b.place - zeros_from prefix b) bytes in
    let behind = are_bytes suffix_byte (end_of b) suffix bytes in
    let r = and-snd first (zeros && behind) h in
    record {
      first = length-parts prefix b bytes (nat_lt prefix 8) refl (and-fst first (zeros && behind) h);
      zeros = λ k x y. bytes-parts 0 (zeros_from prefix b) (b.place - zeros_from prefix b) bytes (and-fst zeros behind r) k (omega arith) (omega arith);
      behind = λ k x y. bytes-parts suffix_byte (end_of b) suffix bytes (and-snd zeros behind r) k x y;
    }

pub affixes-test : (prefix suffix : ℕ) (b : Block) (bytes : List ℕ) → IsAffixClean prefix suffix b bytes → has_affixes prefix suffix b bytes ≡ true
affixes-test prefix suffix b bytes c =
    and_from _ _ (length-test prefix b bytes (nat_lt prefix 8) refl c.first)
    (and_from _ _ (bytes-test 0 (zeros_from prefix b) (b.place - zeros_from prefix b) bytes (λ k x y. c.zeros k (omega arith) (omega arith))) (bytes-test suffix_byte (end_of b) suffix bytes c.behind))

pub affixes_by_bytes : AffixesByBytes
affixes_by_bytes prefix suffix b bytes = (affixes-parts prefix suffix b bytes, affixes-test prefix suffix b bytes)

-- ---- alignment

-- behind a prefix
behind-aligned : (prefix a place : ℕ) → IsPower a → prefix ≤ place → IsMultiple (place - prefix) a → IsMultiple place (alignment_behind prefix a)
behind-aligned zero a place p l h = let q : place - 0 ≡ place = omega arith in rw q at h
behind-aligned (suc n) a place p l h =
    let g = part_is_greatest (suc n) (omega arith) in
    let part = power_part (suc n) (suc n) in
    let d = min-divides a part p g.has.0 in
    let q : (place - suc n) + suc n ≡ place = omega arith in
    subst (λ x. IsMultiple x (min a part)) q (multiple-sum (place - suc n) (suc n) (min a part) (multiple_of_multiple (place - suc n) a (min a part) h d.0) (multiple_of_multiple (suc n) part (min a part) g.has.1 d.1))

least-of : (a b : ℕ) → IsAlignment a → IsPower b → IsAlignment (min a b)
least-of a b h p = elim (min-is a b) [
  | inl e ↦ subst IsAlignment (sym e.0) h
  | inr e ↦ let m = h.most in let l = e.1 in subst IsAlignment (sym e.0) (power-alignment b p (omega arith))
]

behind-alignment : (prefix a : ℕ) → IsAlignment a → IsAlignment (alignment_behind prefix a)
behind-alignment zero a h = h
behind-alignment (suc n) a h = least-of a (power_part (suc n) (suc n)) h (part_is_greatest (suc n) (omega arith)).has.0

-- ---- blocks

affix-shown : (prefix suffix n : ℕ) (b : Block) → b.len ≡ n + prefix + suffix → affix_down prefix suffix (block (b.place + prefix) n) ≡ b
affix-shown prefix suffix n b q = let p : b.place + prefix - prefix ≡ b.place = omega arith in rw p (ap (block b.place) (sym q))

affix-longer : (prefix suffix : ℕ) (b : Block) (delta : ℕ) → affix_down prefix suffix (with_len b (b.len + delta)) ≡ with_len (affix_down prefix suffix b) (b.len + prefix + suffix + (b.len + delta + prefix + suffix - (b.len + prefix + suffix)))
affix-longer prefix suffix b delta =
    let q : b.len + delta + prefix + suffix ≡ b.len + prefix + suffix + (b.len + delta + prefix + suffix - (b.len + prefix + suffix)) = omega arith in ap (block (b.place - prefix)) q

fits-place : (prefix : ℕ) (b : Block) → nat_le prefix b.place ≡ true → prefix ≤ b.place
fits-place prefix b f = grind (arith, nat_tests)

place-fits : (prefix : ℕ) (b : Block) → prefix ≤ b.place → nat_le prefix b.place ≡ true
place-fits prefix b l = grind (arith, nat_tests)

-- it keeps no numbers
affix-keeps : (prefix suffix : ℕ) (e : Rules) → KeepsWhereRefused (affix_handing prefix suffix e)
affix-keeps prefix suffix e = record {
  allocated = λ n own. refl;
  expanded = λ delta b own. refl;
  reallocated = λ n b own. refl;
  owned = λ own. refl;
  owned_steady = λ own. refl;
  owned_unread = λ own. refl;
  admits = λ n x y q. refl;
}

pub affix-hands : (prefix suffix : ℕ) (e : Rules) → TellingLaws e → HandsDown (affix_handing prefix suffix e) e
affix-hands prefix suffix e t =
    record {
      shown = λ n b q. record { fits = place-fits prefix (block (b.place + prefix) n) (omega arith); back = affix-shown prefix suffix n b q; len = refl };
      wider = λ b f. let l = fits-place prefix b f in record { from = omega arith; upto = omega arith };
      longer = λ b delta f. record { fits = f; down = affix-longer prefix suffix b delta };
      asked_some = λ n l. omega arith;
      placed = λ a. absurd (cc);
      tells = record {
        enough = λ n. served-enough (λ m. e.good_alloc_size (m + prefix + suffix) - prefix - suffix) n (let g = t.enough (n + prefix + suffix) in omega arith);
        of_nothing = refl;
        above_limit = unserved-above (λ m. e.good_alloc_size (m + prefix + suffix) - prefix - suffix);
        aligned = behind-alignment prefix e.alignment t.aligned;
        shown_aligned = λ b f m. behind-aligned prefix e.alignment b.place t.aligned.power (fits-place prefix b f) m;
      };
      in_order = record {
        first = refl;
        allocated = λ ok n own p a. p;
        expanded = λ ok delta b own p a. p;
        deallocated = λ ok b own p. p;
        all_deallocated = λ own p. p;
        reallocated = λ n b r own p. p;
        owned = λ own p. p;
      };
      refused = affix-keeps prefix suffix e;
      round = record {
        clean = λ b old new f k z. affixes-kept prefix suffix b old new (fits-place prefix b f) k z;
        marked = λ b old new f k z. length-kept prefix suffix b old new (nat_lt prefix 8) refl (fits-place prefix b f) k z;
        clean_is_marked = λ b bytes z. and-fst (has_length prefix b bytes) _ z;
      };
      in_place = λ b n f q. absurd (cc);
      one_place = λ b c f g q. let p = fits-place prefix b f in let r = fits-place prefix c g in omega arith;
    }

pub affix-unranged : (prefix suffix : ℕ) (e : Rules) → UnrangedLaws e → UnrangedLaws (affix_rules prefix suffix e)
unfolding affix_rules
affix-unranged prefix suffix e g = hand-unranged (affix_handing prefix suffix e) e (affix-keeps prefix suffix e) g

pub affix_is_regular : AffixIsRegular
unfolding affix_rules
affix_is_regular prefix suffix e g = hand-regular (affix_handing prefix suffix e) e (affix-hands prefix suffix e g.telling) g

pub affix_is_lawful : AffixIsLawful
unfolding affix_rules
affix_is_lawful prefix suffix e t g = hand-lawful (affix_handing prefix suffix e) e (affix-hands prefix suffix e g.telling) t g

pub affix_hands_all_down : AffixHandsAllDown
affix_hands_all_down prefix suffix b = grind (arith, nat_tests)

pub out_of_affix : OutOfAffix
unfolding affix_rules
out_of_affix prefix suffix e b s cells = (
  λ o. let x = out-hand (affix_handing prefix suffix e) e b s cells o in record { is_set = x.is_set; some = x.some; fits = fits-place prefix b x.fits; below = x.below },
  λ x. hand-out (affix_handing prefix suffix e) e b s cells (record { is_set = x.is_set; some = x.some; fits = place-fits prefix b x.fits; below = x.below }),
)

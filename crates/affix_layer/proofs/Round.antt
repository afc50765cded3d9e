-- What is written round a block that is out: it is a write into the parent's block.
use Rattle.std.proofs.Common.{◌≡◌, refl, ap, inl, ℕ, ◌-◌, ◌≤◌, Bool, true, false, Some, arith, get_or}
use Rattle.std.proofs.lemmas.Bool.{and_from}
use Rattle.space_core.specs.Cells.{Cells}
use Rattle.space_core.specs.Memory.{Memory}
use Rattle.space_core.specs.Words.{write_from}
use Rattle.space_core.proofs.Writes.{length-write_from}
use Rattle.layer_rules.specs.declared.Block.{Block}
use Rattle.layer_rules.specs.Blocks.{end_of}
use Rattle.layer_rules.specs.Handing.{handing_rules}
use Rattle.layer_rules.specs.Layering.{LayerModel, state_of, IsOutOf, AreApartIn, Frames, Stays}
use Rattle.layer_rules.specs.Rules.{Rules}
use Rattle.layer_rules.specs.State.{nothing, open_with, one_child}
use Rattle.layer_laws.proofs.Basics.{and-fst, and-snd}
use Rattle.layer_laws.proofs.HandingCalls.{frame-open, hand-stays}
use Rattle.layer_laws.proofs.KeptBytes.{IsWordAt-same}
use Rattle.layer_laws.proofs.Placement.{write-keeps}
use Rattle.layer_laws.specs.Standing.{Writes}
use Rattle.layer_laws.proofs.StandingLaws.{sound-again, out-again, changes-from}
use Rattle.layer_laws.proofs.Writing.{write_from-below, write_from-above, write-frames, write-stays}
use Rattle.affix_rules.specs.AffixRules.{affix_down, has_length, affix_handing, affix_rules}
use Rattle.affix_rules.proofs.AffixLawful.{affix-hands, length_stands_before}
use Rattle.layer_laws.specs.HandingModel.{keeps_nothing}
use Rattle.affix_layer.specs.AffixModel.{affix_model}
use Rattle.affix_layer.specs.AffixBytes.{open_place}
use Rattle.affix_layer.specs.AffixWrites.{WritesAffixes, AffixWriteKeeps, MayWrite, WrittenAffixesKeep, LentPrefixKeeps, LentSuffixKeeps}
use Rattle.affix_layer.proofs.Standing.{IsHere, parent-stands, place-fits, affixed-of, apart-below, shut-none, carried-still}

below-writes : (prefix suffix : ℕ) (b : Block) (m m' : Memory) → prefix ≤ b.place → WritesAffixes prefix suffix b m m' → Writes (affix_down prefix suffix b) m m'
below-writes prefix suffix b m m' f x =
    record { cells = x.cells; leaves = x.leaves; bytes = record { length_same = x.size; below = λ i p. x.below i (omega arith); above = λ i p. x.above i (omega arith) } }

length-stays : (prefix suffix : ℕ) (b : Block) (m m' : Memory) → prefix ≤ b.place → WritesAffixes prefix suffix b m m' → has_length prefix b m.bytes ≡ true → has_length prefix b m'.bytes ≡ true
length-stays prefix suffix b m m' f x z =
    (length_stands_before prefix b m'.bytes).1 (λ k. IsWordAt-same m.bytes m'.bytes (b.place - prefix) b.len (record { length_same = x.size; at = λ i p q. x.below i (omega arith) }) ((length_stands_before prefix b m.bytes).0 z k))

round-main : (prefix suffix : ℕ) (t : LayerModel) (m m' : Memory) (b : Block) → IsHere prefix suffix true t m → IsOutOf (affix_model prefix suffix true t) m b → WritesAffixes prefix suffix b m m' → AffixWriteKeeps prefix suffix (affix_model prefix suffix true t) m m' b
unfolding affix_rules handing_rules
round-main prefix suffix t m m' b h o x =
    let f = λ (e : Rules). affix_handing prefix suffix e in
    let T = affix_model prefix suffix true t in
    let hands = affix-hands prefix suffix t.rules h.made.regular.telling in
    let y = affixed-of prefix suffix true t m b h o in
    let s = parent-stands prefix suffix true t m h in
    let d = affix_down prefix suffix b in
    let w = below-writes prefix suffix b m m' y.fits x in
    let k = write-keeps t m m' d h.made s y.below w in
    let below = write-frames t m m' d h.made s y.below w in
    let frame : Frames T T m m' = frame-open f keeps_nothing (Some tt) tt t t m m' below in
    let state : state_of T m' ≡ state_of T m = ap (λ u. open_with nothing (one_child u)) k.state in
    let stays = λ (c : Block) (p : IsOutOf T m c) (a : AreApartIn T m b c).
    let v = affixed-of prefix suffix true t m c h p in
    let z : Stays t t m m' (affix_down prefix suffix c) = write-stays t m m' d h.made s y.below w (affix_down prefix suffix c) v.below (apart-below prefix suffix t m b c y.fits v.fits a) in
    z in
    let parent = t.rules.is_clean d (state_of t m) m.bytes in
    record {
      stands = sound-again T T m m' h.stands frame (state_of T m) m.cells state x.cells h.stands.sound.settled;
      state = state;
      out = λ c p. out-again T T m m' (state_of T m) m.cells c frame state x.cells p;
      bytes = record { at = x.inside };
      marked = λ z. and_from _ _ (length-stays prefix suffix b m m' y.fits x (and-fst (has_length prefix b m.bytes) parent z)) (k.clean d y.below (inl refl) (and-snd (has_length prefix b m.bytes) parent z));
      others = λ c p a. hand-stays f keeps_nothing tt tt t t m m' c hands (place-fits prefix c (affixed-of prefix suffix true t m c h p).fits) below (stays c p a);
      around = λ c p a. let v = affixed-of prefix suffix true t m c h p in carried-still prefix suffix c m.bytes m'.bytes v.fits v.room x.size (stays c p (a refl)).bytes;
      changes_own = changes-from T T m m' frame (λ i. inl (ap (λ (z : Cells). get_or z.tags i 0) x.cells));
    }

pub round-written : (prefix suffix : ℕ) (u : Bool) (t : LayerModel) (m m' : Memory) (b : Block) → IsHere prefix suffix u t m → IsOutOf (affix_model prefix suffix u t) m b → WritesAffixes prefix suffix b m m' → AffixWriteKeeps prefix suffix (affix_model prefix suffix u t) m m' b
round-written prefix suffix false t m m' b h o x = absurd (shut-none prefix suffix t m b o)
round-written prefix suffix true t m m' b h o x = round-main prefix suffix t m m' b h o x

-- ---- the bytes that are lent

pub written_affixes_keep : WrittenAffixesKeep
written_affixes_keep prefix suffix u t m m' b h x = round-written prefix suffix u t m m' b (record { made = h.made; together = h.together; stands = h.stands }) h.out x

lent-fits : (prefix suffix : ℕ) (u : Bool) (t : LayerModel) (m : Memory) (b : Block) → MayWrite prefix suffix u t m b → prefix ≤ b.place
lent-fits prefix suffix u t m b h = (affixed-of prefix suffix u t m b (record { made = h.made; together = h.together; stands = h.stands }) h.out).fits

pub lent_prefix_keeps : LentPrefixKeeps
lent_prefix_keeps prefix suffix u t m b written h l =
    let p = open_place prefix b in
    let f = lent-fits prefix suffix u t m b h in
    written_affixes_keep prefix suffix u t m (record m { bytes = write_from m.bytes p written }) b h (record {
      cells = refl;
      leaves = refl;
      size = length-write_from m.bytes p written;
      below = λ i x. write_from-below m.bytes p written i x;
      inside = λ i x y. write_from-above m.bytes p written i (omega arith);
      above = λ i x. write_from-above m.bytes p written i (omega arith);
    })

pub lent_suffix_keeps : LentSuffixKeeps
lent_suffix_keeps prefix suffix u t m b written h l =
    let p = end_of b in
    written_affixes_keep prefix suffix u t m (record m { bytes = write_from m.bytes p written }) b h (record {
      cells = refl;
      leaves = refl;
      size = length-write_from m.bytes p written;
      below = λ i x. write_from-below m.bytes p written i (omega arith);
      inside = λ i x y. write_from-below m.bytes p written i y;
      above = λ i x. write_from-above m.bytes p written i (omega arith);
    })

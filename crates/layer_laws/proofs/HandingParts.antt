-- Handing down: what it says that a block is out and that a layer is sound, and which blocks are apart.
use Rattle.std.proofs.Common.{◌≡◌, sym, ap, ℕ, ◌≤◌, Bool, true, false, ◌&&◌, arith, cond, Err, nat_le}
use Rattle.std.proofs.lemmas.Bool.{and_from}
use Rattle.std.proofs.lemmas.Bool.Decides.{nat_tests}
use Rattle.space_core.specs.Cells.{Cells}
use Rattle.layer_rules.specs.declared.Block.{Block}
use Rattle.layer_rules.specs.Blocks.{no_block}
use Rattle.layer_rules.specs.State.{State, Own, open_with, one_child, is_open, own_of, child}
use Rattle.layer_rules.specs.After.{Opening}
use Rattle.layer_rules.specs.Rules.{Rules, IsSettled, AreApart}
use Rattle.layer_rules.specs.Testing.{is_over}
use Rattle.layer_rules.specs.Handing.{Handing, handing_rules}
use Rattle.layer_laws.proofs.Basics.{and-fst, and-snd}
use Rattle.layer_laws.proofs.Tests.{opened, over-parts}

-- ---- what the tests say

pub record HandParts (h : Handing) (e : Rules) (s : State) (cells : Cells) : Type 0 where
  pub form : s ≡ open_with (own_of s) (one_child (child s 0))
  pub own : h.passes (own_of s) ≡ true
  pub parent : is_open (child s 0) ≡ true
  pub below : IsSettled e (child s 0) cells

abbrev pub hand_settled : Handing → Rules → State → Cells → Bool
hand_settled h e s cells = is_over h.passes s && e.is_settled (child s 0) cells

pub hand-parts : (h : Handing) (e : Rules) (s : State) (cells : Cells) → hand_settled h e s cells ≡ true → HandParts h e s cells
hand-parts h e s cells z =
    let o = over-parts h.passes s (and-fst (is_over h.passes s) (e.is_settled (child s 0) cells) z) in
    record { form = o.form; own = o.own; parent = o.parent; below = and-snd (is_over h.passes s) (e.is_settled (child s 0) cells) z }

pub hand-settles : (h : Handing) (e : Rules) (own : Own) (t : State) (cells : Cells) → h.passes own ≡ true → is_open t ≡ true → IsSettled e t cells → hand_settled h e (open_with own (one_child t)) cells ≡ true
hand-settles h e own t cells p o z = and_from _ _ (and_from _ _ p o) z

pub hand-opened : (h : Handing) (e : Rules) (s : State) (cells : Cells) → is_open s ≡ true → IsSettled (handing_rules h e) s cells → HandParts h e s cells
unfolding handing_rules
hand-opened h e s cells o z = hand-parts h e s cells (opened s e.leaf_tags cells (hand_settled h e s cells) o z)

pub record IsOutDown (h : Handing) (e : Rules) (b : Block) (s : State) (cells : Cells) : Type 0 where
  pub is_set : is_open s ≡ true
  pub some : 1 ≤ b.len
  pub fits : h.fits b ≡ true
  pub below : e.is_out (h.down b) (child s 0) cells ≡ true

out-parts : (b : Block) (s : State) (f x : Bool) → ((is_open s && nat_le 1 b.len) && (f && x)) ≡ true → (is_open s ≡ true) × (1 ≤ b.len) × (f ≡ true) × (x ≡ true)
out-parts b s f x o =
    let l : nat_le 1 b.len ≡ true = and-snd (is_open s) (nat_le 1 b.len) (and-fst (is_open s && nat_le 1 b.len) (f && x) o) in
    let y = and-snd (is_open s && nat_le 1 b.len) (f && x) o in
    (and-fst (is_open s) (nat_le 1 b.len) (and-fst (is_open s && nat_le 1 b.len) (f && x) o), grind (arith, nat_tests), and-fst f x y, and-snd f x y)

pub out-hand : (h : Handing) (e : Rules) (b : Block) (s : State) (cells : Cells) → (handing_rules h e).is_out b s cells ≡ true → IsOutDown h e b s cells
unfolding handing_rules
out-hand h e b s cells o = let x = out-parts b s (h.fits b) (e.is_out (h.down b) (child s 0) cells) o in record { is_set = x.0; some = x.1; fits = x.2; below = x.3 }

pub hand-out : (h : Handing) (e : Rules) (b : Block) (s : State) (cells : Cells) → IsOutDown h e b s cells → (handing_rules h e).is_out b s cells ≡ true
unfolding handing_rules
hand-out h e b s cells o = let l : nat_le 1 b.len ≡ true = grind (arith, nat_tests, o.some) in and_from _ _ (and_from _ _ o.is_set l) (and_from _ _ o.fits o.below)

-- ---- extents

pub hand-seen : (h : Handing) (e : Rules) (b : Block) (s : State) → h.fits b ≡ true → (handing_rules h e).extent b s ≡ e.extent (h.down b) (child s 0)
unfolding handing_rules
hand-seen h e b s f = ap (λ x. cond x (e.extent (h.down b) (child s 0)) no_block) f

pub hand-apart : (h : Handing) (e : Rules) (s : State) (b c : Block) → h.fits b ≡ true → h.fits c ≡ true → AreApart e (child s 0) (h.down b) (h.down c) → AreApart (handing_rules h e) s b c
hand-apart h e s b c f g a = record { either = rw (hand-seen h e b s f, hand-seen h e c s g) a.either }

pub apart-hand : (h : Handing) (e : Rules) (s : State) (b c : Block) → h.fits b ≡ true → h.fits c ≡ true → AreApart (handing_rules h e) s b c → AreApart e (child s 0) (h.down b) (h.down c)
apart-hand h e s b c f g a = record { either = rw (hand-seen h e b s f, hand-seen h e c s g) at a.either }

-- ---- opening

pub if-opens : (x o : Opening) (b : Bool) → elim b as (λ _. Opening) [ true ↦ x | false ↦ Err 0 ] ≡ o → ((k : ℕ) → o ≡ Err k → ⊥) → x ≡ o
if-opens x o true e n = e
if-opens x o false e n = absurd (n 0 (sym e))

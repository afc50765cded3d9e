-- The units of a block that is out of a kr: it begins with its first unit, and takes up whole units.
use Rattle.std.proofs.Common.{◌≡◌, sym, subst, ap₂, ℕ, ◌≤◌, ◌+◌, ◌-◌, ◌*◌, ◌/◌, ◌%◌, true, arith}
use Rattle.std.proofs.lemmas.Bool.Decides.{nat_tests}
use Rattle.size_round.specs.Sizes.{up}
use Rattle.space_core.specs.Runs.{is_taken_run}
use Rattle.layer_rules.specs.declared.Block.{Block}
use Rattle.layer_rules.specs.Blocks.{block, is_apart}
use Rattle.layer_rules.specs.State.{State, chunk_of, is_open, own_of, units_of}
use Rattle.layer_rules.specs.Units.{first_unit, touched_block, unit_count}
use Rattle.layer_laws.proofs.FirstRuns.{taken_runs_are_taken}
use Rattle.layer_laws.proofs.UnitRows.{HasUnits, has-units}
use Rattle.layer_laws.specs.Carves.{IsOutIn}
use Rattle.kr_rules.specs.KrMeanings.{IsOutKr}
use Rattle.kr_rules.specs.KrRules.{is_out_of_kr, kr_carving}

-- it begins with a unit
pub record IsAtUnit (place : ℕ) (b : Block) : Type 0 where
  pub from : place ≤ b.place
  pub aligned : (b.place - place) % 16 ≡ 0

pub count-whole : (place : ℕ) (b : Block) → IsAtUnit place b → unit_count 16 place b ≡ up b.len 16 / 16
count-whole place b h = omega (arith, h.from, h.aligned)

pub touched-whole : (place : ℕ) (b : Block) → IsAtUnit place b → touched_block 16 place b ≡ block b.place (up b.len 16)
touched-whole place b h =
    let p : place + 16 * first_unit 16 place b ≡ b.place = omega (arith, h.from, h.aligned) in
    let n : 16 * unit_count 16 place b ≡ up b.len 16 = omega (arith, h.from, h.aligned) in
    ap₂ block p n

pub apart-whole : (place : ℕ) (b c : Block) → IsAtUnit place b → IsAtUnit place c → is_apart (block b.place (up b.len 16)) (block c.place (up c.len 16)) ≡ is_apart (touched_block 16 place b) (touched_block 16 place c)
apart-whole place b c h k = ap₂ is_apart (sym (touched-whole place b h)) (sym (touched-whole place c k))

-- ---- a block that is out

pub out-own : (size : ℕ) (b : Block) (s : State) → is_open s ≡ true → IsOutIn (kr_carving size) b (own_of s) → IsOutKr b s
out-own size b s is_set o = let out = o.out in record { is_set = is_set; some = o.some; from = grind (arith, nat_tests); aligned = grind (arith, nat_tests); taken = grind (arith, nat_tests) }

pub at-unit : (b : Block) (s : State) → IsOutKr b s → IsAtUnit (chunk_of s).place b
at-unit b s x = record { from = x.from; aligned = x.aligned }

pub units-of : (b : Block) (s : State) → IsOutKr b s → HasUnits 16 (chunk_of s).place (units_of s) b
units-of b s x =
    let place = (chunk_of s).place in
    has-units 16 place (units_of s) b (omega arith) x.some x.from
    (rw (count-whole place b (at-unit b s x)) ((taken_runs_are_taken (units_of s) (first_unit 16 place b) (up b.len 16 / 16)).0 x.taken))

pub of-units : (b : Block) (s : State) → IsAtUnit (chunk_of s).place b → HasUnits 16 (chunk_of s).place (units_of s) b → is_out_of_kr b s ≡ true
of-units b s h u =
    let place = (chunk_of s).place in
    let from = h.from in
    let aligned = h.aligned in
    let taken : is_taken_run (units_of s) (first_unit 16 place b) (up b.len 16 / 16) ≡ true =
    subst (λ n. is_taken_run (units_of s) (first_unit 16 place b) n ≡ true) (count-whole place b h) ((taken_runs_are_taken (units_of s) (first_unit 16 place b) (unit_count 16 place b)).1 u.taken) in
    grind (arith, nat_tests)

-- Moving across: what stands of two layers side by side once a block has moved from its holder to the other one.
use Rattle.std.specs.Prelude.{ℕ, ◌≡◌, ◌+◌, ◌<◌, Bool, true, Option, Some, None, get_or, min}
use Rattle.space_core.specs.Cells.{Cells}
use Rattle.space_core.specs.Memory.{Memory}
use Rattle.layer_rules.specs.declared.Block.{Block}
use Rattle.layer_rules.specs.After.{Placed, Reallocated, moved_to, unmoved}
use Rattle.layer_rules.specs.Fields.{are_open}
use Rattle.layer_rules.specs.Layering.{LayerModel, state_of, Stands, IsOutOf, IsCleanOf, AreApartIn, Stays, allocated, is_done, block_after}
use Rattle.layer_rules.specs.Rules.{Rules, IsLeaf}
use Rattle.layer_rules.specs.State.{State}
use Rattle.layer_laws.specs.Lawful.{Any}
use Rattle.layer_laws.specs.Standing.{ChangesOwn}

-- A layer has its rules still, and stands; each block that was out of it, and is of this kind, is out still and keeps its bytes.
pub record Remains (t t' : LayerModel) (m m' : Memory) (Kind : Block → Type 0) : Type 0 where
  pub rules : t'.rules ≡ t.rules
  pub opened : are_open t'.fields ≡ are_open t.fields
  pub stands : Stands t' m'
  pub out : (c : Block) → IsOutOf t m c → Kind c → IsOutOf t' m' c
  pub stays : (c : Block) → IsOutOf t m c → Kind c → Stays t t' m m' c

-- what becomes of the block, the states of its holder and of the other layer, and the table of cells
pub record AfterBoth : Type 0 where
  pub answer : Reallocated
  pub holder : State
  pub other : State
  pub cells : Cells

-- where the other layer served a block, the holder gets the old one back, whatever it answers
abbrev pub then_given : Option Placed → (holder : Rules) → Block → State → (other : State) → Cells → AfterBoth
then_given None e b s t cells = record { answer = unmoved; holder = s; other = t; cells = cells }
then_given (Some p) e b s t cells = let given = e.deallocate b s cells in record { answer = moved_to p.block; holder = given.state; other = t; cells = given.cells }

abbrev pub moved_across : (holder other : LayerModel) → Memory → Block → (n : ℕ) → AfterBoth
moved_across t u m b n = let r = allocated u m n in then_given r.answer t.rules b (state_of t m) r.state r.cells

-- The block b moves from its holder t to the layer u beside it; b' is what it is then. Both are as the rule says, and keep all other
-- blocks; nothing changes but what is theirs.
pub record MovesAcross (t t' u u' : LayerModel) (m m' : Memory) (b b' : Block) (n : ℕ) (r : Bool) : Type 0 where
  pub answer : r ≡ is_done (moved_across t u m b n).answer
  pub block : b' ≡ block_after b (moved_across t u m b n).answer
  pub holder_state : state_of t' m' ≡ (moved_across t u m b n).holder
  pub other_state : state_of u' m' ≡ (moved_across t u m b n).other
  pub cells : m'.cells ≡ (moved_across t u m b n).cells
  pub holder : Remains t t' m m' (λ c. r ≡ true → AreApartIn t m b c)
  pub other : Remains u u' m m' Any
  pub changes : (e : Rules) → ((x : ℕ) → IsLeaf t.rules x → IsLeaf e x) → ((x : ℕ) → IsLeaf u.rules x → IsLeaf e x) → ChangesOwn e m m'
  pub carried : r ≡ true → (i : ℕ) → i < min b.len n → get_or m'.bytes (b'.place + i) 0 ≡ get_or m.bytes (b.place + i) 0
  pub len : r ≡ true → b'.len ≡ n
  pub out : r ≡ true → IsOutOf u' m' b'
  pub clean : r ≡ true → IsCleanOf u' m' b'

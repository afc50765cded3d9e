-- What each call leaves of a layer that stands.
use Rattle.std.proofs.Common.{refl, ℕ, ◌≤◌, Bool, Option, Some, None, IfSome, OnOk, Result, Ok, Err}
use Rattle.space_core.specs.Memory.{Memory}
use Rattle.layer_rules.specs.declared.Block.{Block}
use Rattle.layer_rules.specs.declared.Refused.{Refused}
use Rattle.layer_rules.specs.Layering.{LayerModel, state_of, SetsUp, TearsDown, Allocates, AlignedAllocates, Reallocates}
use Rattle.layer_laws.specs.Lawful.{IsMade}
use Rattle.layer_laws.specs.Standing.{AlignedAllocateKeeps, ReallocateKeeps}
use Rattle.layer_laws.proofs.StandingLaws.{set_up-stands, torn-stands, allocated-stands, allocated-gives, framing}
use Rattle.layer_tests.specs.Between.{IsWaiting, IsReady, IsHeld}

pub set_up-ready : (t t' : LayerModel) (m m' : Memory) (need : ℕ) (r : Result (Unit {0}) Refused) → IsMade t.rules → IsWaiting t m → SetsUp t t' m m' need r → OnOk r (IsReady t' m')
set_up-ready t t' m m' need (Ok done) l h s = record { stands = set_up-stands t t' m m' need (Ok done) l h.stands h.shut s; opened = s.opened }
set_up-ready t t' m m' need (Err refused) l h s = tt

pub torn-waits : (t t' : LayerModel) (m m' : Memory) → IsMade t.rules → IsReady t m → TearsDown t t' m m' → IsWaiting t' m'
torn-waits t t' m m' l h k = record { stands = torn-stands t t' m m' l h.stands k; shut = k.shut }

-- a block that is served is clean, and so it is marked
pub served-held : (t t' : LayerModel) (m m' : Memory) (n : ℕ) (r : Option Block) → IsMade t.rules → IsMade t'.rules → IsReady t m → Allocates t t' m m' n r → IfSome r (λ b. IsHeld t' m' b)
served-held t t' m m' n None l l' h a = tt
served-held t t' m m' n (Some b) l l' h a =
    let s = allocated-stands t t' m m' n (Some b) l h.stands h.opened a in
    record { out = (allocated-gives t t' m m' n b l h.stands h.opened a).out; marked = (framing t' m' l' s).marked b (state_of t' m') m'.bytes (a.made b refl) }

pub served_aligned-held : (t t' : LayerModel) (m m' : Memory) (n a : ℕ) (r : Option Block) → IsMade t'.rules → AlignedAllocateKeeps t t' m m' n a r → AlignedAllocates t t' m m' n a r → IfSome r (λ b. IsHeld t' m' b)
served_aligned-held t t' m m' n a None l k s = tt
served_aligned-held t t' m m' n a (Some b) l k s =
    record { out = (k.gives b refl).0.out; marked = (framing t' m' l k.stands).marked b (state_of t' m') m'.bytes (s.made b refl) }

pub resized-held : (t t' : LayerModel) (m m' : Memory) (b b' : Block) (n : ℕ) (r : Bool) → IsHeld t m b → ReallocateKeeps t t' m m' b b' n r → Reallocates t t' m m' b b' n r → 1 ≤ b'.len → IsHeld t' m' b'
resized-held t t' m m' b b' n r h k s l = record { out = k.gives l; marked = (s.carried l).marked h.marked }

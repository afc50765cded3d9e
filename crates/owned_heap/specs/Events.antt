-- Events: what happened to the blocks of a heap, the newest first, and which blocks are live then.
use Rattle.std.specs.Prelude.{ℕ, ◌≡◌, ◌+◌, Bool, true, false, not, ◌&&◌, ◌||◌, List, [], ◌∷◌, filter, nat_eq}
use Rattle.layer_rules.specs.Blocks.{is_apart}
use Rattle.owned_heap.specs.Ticket.{Ticket}
use Rattle.owned_heap.specs.declared.block.Event.{Event}
use Rattle.owned_heap.specs.declared.block.Event.TheVariants.{Made, Gone, Emptied}

abbrev pub is_same : Ticket → Ticket → Bool
is_same x b = nat_eq x.number b.number && (nat_eq x.block.place b.block.place && nat_eq x.block.len b.block.len)

-- how many blocks were handed out
abbrev pub made : List Event → ℕ
made [] = 0
made (Made x ∷ events) = made events + 1
made (Gone x ∷ events) = made events
made (Emptied ∷ events) = made events

-- the block was handed out, and neither it nor all were given back since
abbrev pub is_live : List Event → Ticket → Bool
is_live [] b = false
is_live (Made x ∷ events) b = is_same x b || is_live events b
is_live (Gone x ∷ events) b = not (is_same x b) && is_live events b
is_live (Emptied ∷ events) b = false

abbrev pub without : Ticket → List Ticket → List Ticket
without b live = filter (λ x. not (is_same b x)) live

-- the live blocks, the newest first
abbrev pub live_of : List Event → List Ticket
live_of [] = []
live_of (Made x ∷ events) = x ∷ live_of events
live_of (Gone x ∷ events) = without x (live_of events)
live_of (Emptied ∷ events) = []

-- no byte of the block is one of a block that is live after these events
unfoldable pub IsApartFromLive : List Event → Ticket → Type 0
IsApartFromLive events b = (c : Ticket) → is_live events c ≡ true → is_apart b.block c.block ≡ true

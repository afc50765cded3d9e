-- Layers that take one chunk of their parent: what the test of the chunk says, and what holds once it is taken.
use Rattle.std.proofs.Common.{◌≡◌, refl, subst, ℕ, ◌≤◌, ◌+◌, ◌-◌, ◌*◌, ◌/◌, Bool, true, false, arith, max, Ok, nat_eq, nat_le, nat_lt}
use Rattle.std.proofs.lemmas.Nat.{div-mul-add}
use Rattle.std.proofs.lemmas.Bool.{and_from}
use Rattle.std.proofs.lemmas.Bool.Decides.{nat_tests}
use Rattle.size_round.specs.Sizes.{ceil_div, limit, up}
use Rattle.space_core.specs.Cells.{Cells}
use Rattle.layer_rules.specs.After.{Opened, Opening, Serve}
use Rattle.layer_rules.specs.Allocating.{asked_for, served_unless}
use Rattle.layer_rules.specs.Chunks.{has_chunk}
use Rattle.layer_rules.specs.Rules.{Rules}
use Rattle.layer_rules.specs.Setting.{open_chunk}
use Rattle.layer_rules.specs.State.{Own, State, child, closed, one_child, open_with, with_own}
use Rattle.layer_rules.specs.declared.Block.{Block}
use Rattle.layer_laws.proofs.Basics.{and-fst, and-snd}
use Rattle.layer_laws.proofs.Steps.{chunk-ok, then-ok, within-ok}
use Rattle.layer_laws.specs.ChunkLaws.{HasChunk}

pub chunk-parts : (e : Rules) (chunk : Block) (t : State) (cells : Cells) → has_chunk e chunk t cells ≡ true → HasChunk e chunk t cells
chunk-parts e chunk t cells h =
    let l : nat_le chunk.len limit ≡ true = and-snd (e.is_out chunk t cells) (nat_le chunk.len limit) h in
    record { out = and-fst (e.is_out chunk t cells) (nat_le chunk.len limit) h; bound = grind (arith, nat_tests) }

pub chunk-whole : (e : Rules) (chunk : Block) (t : State) (cells : Cells) → HasChunk e chunk t cells → has_chunk e chunk t cells ≡ true
chunk-whole e chunk t cells h =
    let b = h.bound in
    let bound : nat_le chunk.len limit ≡ true = grind (arith, nat_tests) in
    and_from _ _ h.out bound

-- what is of a layer's own leaves its children
pub child-own : (s : State) (own : Own) (i : ℕ) → child (with_own s own) i ≡ child s i
child-own closed own i = refl
child-own (open_with old ss) own i = refl

-- what is set up over a parent of which P holds, also once it has served, is as Q asks
pub chunk-sets : (P Q : State → Type 0) (size : ℕ) (own : Block → Own) (parent : Opening) (serve : Serve) → ((p : Opened) → parent ≡ Ok p → P p.state) → ((t : State) (cells : Cells) → P t → P (serve t cells).state)
    → ((b : Block) (t : State) → P t → Q (open_with (own b) (one_child t))) → (o : Opened) → open_chunk size own parent serve ≡ Ok o → Q o.state
chunk-sets P Q size own parent serve h k q o e =
    let w = within-ok size _ o e in
    let p = then-ok 1 parent _ o w.1 in
    let r = chunk-ok own (serve p.0.state p.0.cells) o p.2 in
    subst (λ (x : Opened). Q x.state) r.2 (q r.0.block (serve p.0.state p.0.cells).state (k p.0.state p.0.cells (h p.0 p.1)))

-- what a request keeps past its guards
unless-keeps : (P : State → Type 0) (x y : Bool) (serve : Serve) → ((s : State) (cells : Cells) → P s → P (serve s cells).state) → (s : State) (cells : Cells) → P s → P (served_unless x y serve s cells).state
unless-keeps P true y serve k s cells h = h
unless-keeps P false true serve k s cells h = h
unless-keeps P false false serve k s cells h = k s cells h

pub asked-keeps : (P : State → Type 0) (n : ℕ) (serve : Serve) → ((s : State) (cells : Cells) → P s → P (serve s cells).state) → (s : State) (cells : Cells) → P s → P (asked_for n serve s cells).state
asked-keeps P n serve k s cells h = unless-keeps P (nat_eq n 0) (nat_lt limit n) serve k s cells h

-- a chunk's length, rounded up from a need that is at least the size, is what it is rounded up to itself
pub rounded-len : (size align need len : ℕ) → 1 ≤ align → len ≡ up (max size need) align → len ≡ up (max size len) align
rounded-len size align need len h e =
    let k = ceil_div (max size need) align in
    let q : len ≡ k * align = e in
    let l : size ≤ k * align = let g = up-least (max size need) align h in grind arith in
    let m : max size len ≡ k * align = grind arith in
    let d : (k * align + (align - 1)) / align ≡ k = div-mul-add k align (align - 1) (omega arith) in
    rw (m, d) q
  where
    up-least : (n a : ℕ) → 1 ≤ a → n ≤ ceil_div n a * a
    up-least n a h = grind arith

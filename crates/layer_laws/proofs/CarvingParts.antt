-- What the tests of a layer that carves say, as named parts.
use Rattle.std.proofs.Common.{◌≡◌, refl, sym, ◌∙◌, Bool, true, ◌&&◌, List, ℕ}
use Rattle.std.proofs.lemmas.Bool.{and_from}
use Rattle.space_core.specs.Cells.{Cells}
use Rattle.layer_rules.specs.Chunks.{has_chunk}
use Rattle.layer_rules.specs.Fields.{Fields, kept_of, child_fields}
use Rattle.layer_rules.specs.Rules.{Rules, IsSettled}
use Rattle.layer_rules.specs.State.{State, Own, closed, open_with, one_child, is_open, own_of, child}
use Rattle.layer_rules.specs.Testing.{is_over}
use Rattle.layer_laws.proofs.Basics.{and-fst, and-snd}
use Rattle.layer_laws.proofs.ChunkLaws.{chunk-parts, chunk-whole}
use Rattle.layer_laws.proofs.Tests.{if-open, opened, over-parts, settle}
use Rattle.layer_laws.specs.Carves.{KeepsTailFree}
use Rattle.layer_laws.specs.Carving.{Carving, carving_rules}
use Rattle.layer_laws.specs.ChunkLaws.{HasChunk}

-- an open layer that is sound
pub record CarvingParts (c : Carving) (e : Rules) (s : State) (cells : Cells) : Type 0 where
  pub form : s ≡ open_with (own_of s) (one_child (child s 0))
  pub parent : is_open (child s 0) ≡ true
  pub kind : c.is_own (own_of s) ≡ true
  pub passes : c.passes (own_of s) ≡ true
  pub chunk : HasChunk e (c.chunk (own_of s)) (child s 0) cells
  pub below : IsSettled e (child s 0) cells

-- the test of one
abbrev pub is_carving : Carving → Rules → State → Cells → Bool
is_carving c e s cells = is_over c.is_own s && (c.passes (own_of s) && (has_chunk e (c.chunk (own_of s)) (child s 0) cells && e.is_settled (child s 0) cells))

pub is_carving-parts : (c : Carving) (e : Rules) (s : State) (cells : Cells) → is_carving c e s cells ≡ true → CarvingParts c e s cells
is_carving-parts c e s cells h =
    let v = is_over c.is_own s in
    let p = c.passes (own_of s) in
    let k = has_chunk e (c.chunk (own_of s)) (child s 0) cells in
    let b = e.is_settled (child s 0) cells in
    let o = over-parts c.is_own s (and-fst v (p && (k && b)) h) in
    let l = and-snd v (p && (k && b)) h in
    let m = and-snd p (k && b) l in
    record { form = o.form; parent = o.parent; kind = o.own; passes = and-fst p (k && b) l; chunk = chunk-parts e (c.chunk (own_of s)) (child s 0) cells (and-fst k b m); below = and-snd k b m }

pub is_carving-whole : (c : Carving) (e : Rules) (own : Own) (t : State) (cells : Cells) → c.is_own own ≡ true → c.passes own ≡ true → is_open t ≡ true → HasChunk e (c.chunk own) t cells → IsSettled e t cells
    → is_carving c e (open_with own (one_child t)) cells ≡ true
is_carving-whole c e own t cells k p o h b = and_from _ _ (and_from _ _ k o) (and_from _ _ p (and_from _ _ (chunk-whole e (c.chunk own) t cells h) b))

pub carving-parts : (c : Carving) (e : Rules) (s : State) (cells : Cells) → is_open s ≡ true → IsSettled (carving_rules c e) s cells → CarvingParts c e s cells
carving-parts c e s cells o h = is_carving-parts c e s cells (opened s e.leaf_tags cells (is_carving c e s cells) o h)

pub carving-whole : (c : Carving) (e : Rules) (own : Own) (t : State) (cells : Cells) → c.is_own own ≡ true → c.passes own ≡ true → is_open t ≡ true → HasChunk e (c.chunk own) t cells → IsSettled e t cells
    → IsSettled (carving_rules c e) (open_with own (one_child t)) cells
carving-whole c e own t cells k p o h b =
    let s = open_with own (one_child t) in settle s e.leaf_tags cells (is_carving c e s cells) refl (is_carving-whole c e own t cells k p o h b)

-- ---- what stands in the Space

pub record CarvingImage (c : Carving) (e : Rules) (fs : Fields) (s : State) (bytes : List ℕ) : Type 0 where
  pub own : c.is_image (kept_of fs) (own_of s) bytes ≡ true
  pub clean : e.is_clean (c.chunk (own_of s)) (child s 0) bytes ≡ true
  pub below : e.is_image (child_fields fs 0) (child s 0) bytes ≡ true

-- the test of it
abbrev is_carving_image : Carving → Rules → Fields → State → List ℕ → Bool
is_carving_image c e fs s bytes = c.is_image (kept_of fs) (own_of s) bytes && (e.is_clean (c.chunk (own_of s)) (child s 0) bytes && e.is_image (child_fields fs 0) (child s 0) bytes)

pub image-parts : (c : Carving) (e : Rules) (fs : Fields) (s : State) (bytes : List ℕ) → is_open s ≡ true → (carving_rules c e).is_image fs s bytes ≡ true → CarvingImage c e fs s bytes
image-parts c e fs s bytes o h =
    let w = c.is_image (kept_of fs) (own_of s) bytes in
    let k = e.is_clean (c.chunk (own_of s)) (child s 0) bytes in
    let i = e.is_image (child_fields fs 0) (child s 0) bytes in
    let q : (w && (k && i)) ≡ true = sym (if-open (is_carving_image c e fs s bytes) true (is_open s) o) ∙ h in
    let l = and-snd w (k && i) q in
    record { own = and-fst w (k && i) q; clean = and-fst k i l; below = and-snd k i l }

pub image-whole : (c : Carving) (e : Rules) (fs : Fields) (s : State) (bytes : List ℕ) → is_open s ≡ true → CarvingImage c e fs s bytes → (carving_rules c e).is_image fs s bytes ≡ true
image-whole c e fs s bytes o h = if-open (is_carving_image c e fs s bytes) true (is_open s) o ∙ and_from _ _ h.own (and_from _ _ h.clean h.below)

-- ---- a layer without a tail that has to be free

pub no-tail : (c : Carving) → ((s : State) → c.has_free_tail s ≡ true) → KeepsTailFree c
no-tail c h = record {
  shut = h closed;
  first = λ need given t. h (open_with (c.first need given) (one_child t));
  passes = λ own t k p. h (open_with own (one_child t));
  allocate = λ n s cells k. h (c.allocate n s cells).state;
  uncounted = λ s t q. h s ∙ sym (h t);
}

use Rattle.std.proofs.Common.{◌≡◌, ℕ, Option, Some, None}
use Rattle.std.specs.Prelude.{IfSome}
use Rattle.space_core.specs.Memory.{Memory}
use Rattle.layer_rules.specs.declared.Block.{Block}
use Rattle.layer_rules.specs.Layering.{LayerModel, state_of, Allocates, AreApartIn}
use Rattle.layer_laws.proofs.Apart.{apart-flip}
use Rattle.layer_laws.specs.Lawful.{IsMade}
use Rattle.layer_laws.proofs.StandingLaws.{allocated-gives}
use Rattle.layer_tests.specs.Between.{IsReady, IsHeld}
use Rattle.layer_tests.proofs.free_lists.serve_two.Goals as goal

-- a new block is apart from one that was held
apart-two : (t t' : LayerModel) (m m' : Memory) (k : ℕ) (b c : Block) (r : Option Block) → IsMade t.rules → IsReady t m → IsHeld t m b → r ≡ Some c → Allocates t t' m m' k r → AreApartIn t' m' b c
apart-two t t' m m' k b c None l h o q a = absurd (cc)
apart-two t t' m m' k b c (Some d) l h o q a =
    let z : d ≡ c = cc in
    let x : Allocates t t' m m' k (Some c) = rw z at a in
    apart-flip t'.rules (state_of t' m') c b ((allocated-gives t t' m m' k c l h.stands h.opened x).fresh b o.out)

held-one : (t : LayerModel) (m : Memory) (b : Block) (r : Option Block) → r ≡ Some b → IfSome r (λ b. IsHeld t m b) → IsHeld t m b
held-one t m b None q h = absurd (cc)
held-one t m b (Some d) q h = let z : d ≡ b = cc in rw z at h

pub returns-clause-apart : goal.returns-clause-apart
returns-clause-apart g c =
    let first : c.serve.result ≡ Some c.expect-first.result = cc (c.expect-first.ensures) in
    let second : c.serve-2.result ≡ Some c.expect-second.result = cc (c.expect-second.ensures) in
    apart-two (g.L.Layer.model c.serve.new.layer) (g.L.Layer.model c.serve-2.new.layer) c.serve.new.space c.serve-2.new.space c.args.k c.expect-first.result c.expect-second.result c.serve-2.result (g.met.L.Layer.made c.serve.new.layer) c.serve.ensures.ready
    (held-one (g.L.Layer.model c.serve.new.layer) c.serve.new.space c.expect-first.result c.serve.result first c.serve.ensures.held) second c.serve-2.ensures.serves

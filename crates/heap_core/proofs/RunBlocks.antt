-- Where the live blocks of a run lie.
use Rattle.std.proofs.Common.{◌≡◌, ◌≢◌, refl, subst, ℕ, ◌*◌, ◌%◌, ◌≤◌, Bool, true, false, nat_eq, if◌then◌else◌, [], ◌∷◌, Option, Some, arith}
use Rattle.std.proofs.lemmas.Bool.Decides.{nat_tests}
use Rattle.space_core.specs.Cells.{cell_size}
use Rattle.layer_rules.specs.Blocks.{end_of, lies_in, is_apart}
use Rattle.layer_rules.specs.Rows.{Each}
use Rattle.layer_rules.specs.Rules.{Rules, HasSomeTags}
use Rattle.layer_laws.proofs.CellRooms.{rest_of_multiple}
use Rattle.layer_laws.proofs.StandingLaws.{out-in_range}
use Rattle.layer_laws.specs.Lawful.{IsLawful}
use Rattle.heap_core.specs.World.{World, Live, live_at}
use Rattle.heap_core.specs.Performing.{Run}
use Rattle.heap_core.specs.Steps.{IsHeldRun}
use Rattle.heap_core.specs.RunFacts.{RunHasBlocks, RunFindsBlocks, NamesShareNoByte}
use Rattle.heap_core.proofs.ByteLemmas.{inner-apart, apart-flip}
use Rattle.heap_core.proofs.WorldLemmas.{each-from, each_pair-under, each-live_other}

module _ (e : Rules) (count leaves : ℕ) (r : Run) (h : IsHeldRun e count leaves r) where
  tags : HasSomeTags e
  tags = record { least = h.sound.made.least }

  law : IsLawful e
  law = h.made.lawful h.sound.distinct tags

  abbrev Out : Live → Type 0
  Out x = e.is_out x.block r.state r.cells ≡ true

  in-extent : (x : Live) → Out x → lies_in x.block (e.extent x.block r.state) ≡ true
  in-extent x o =
      let c = law.placing.covers x.block r.state r.cells h.sound.settled o in
      let from = c.from in
      let upto = c.upto in
      grind (arith, nat_tests)

  in-area : (x : Live) → Out x → end_of x.block ≤ cell_size * count
  in-area x o = let l = out-in_range e tags law.placing.covers x.block r.state r.cells h.sound.settled o in omega (arith, l, h.size)

  at-multiple : (x : Live) → Out x → x.block.place % e.alignment ≡ 0
  at-multiple x o = rest_of_multiple x.block.place e.alignment (law.placing.aligned x.block r.state r.cells h.sound.settled o)

  share-none : (x y : Live) → Out x → Out y → is_apart (e.extent x.block r.state) (e.extent y.block r.state) ≡ true → is_apart x.block y.block ≡ true
  share-none x y o p a = inner-apart x.block y.block (e.extent x.block r.state) (e.extent y.block r.state) (in-extent x o) (in-extent y p) a

pub run-has_blocks : RunHasBlocks
run-has_blocks e count leaves r h =
    let out : Live → Type 0 = λ x. e.is_out x.block r.state r.cells ≡ true in
    let law = h.made.lawful h.sound.distinct (record { least = h.sound.made.least }) in
    record {
      some = each-from out (λ (x : Live). 1 ≤ x.block.len) r.world (λ x o. law.keeping.out_some x.block r.state r.cells o) h.out;
      inside = each-from out (λ (x : Live). end_of x.block ≤ cell_size * count) r.world (in-area e count leaves r h) h.out;
      aligned = each-from out (λ (x : Live). x.block.place % e.alignment ≡ 0) r.world (at-multiple e count leaves r h) h.out;
      apart = each_pair-under out (λ (x y : Live). is_apart (e.extent x.block r.state) (e.extent y.block r.state) ≡ true) (λ (x y : Live). is_apart x.block y.block ≡ true) r.world
          (share-none e count leaves r h) h.out h.apart;
    }

pub run-finds_blocks : RunFindsBlocks
run-finds_blocks e count leaves r h = record { routes = h.found }

-- ---- by names

-- what is live under a name is one of the world, and has the name
found-by : (P : Live → Type 0) (x : Live) (rest : Option Live) (name : ℕ) (y : Live) (t : Bool) → nat_eq x.name name ≡ t → P x → (rest ≡ Some y → P y × (y.name ≡ name)) → (if t then Some x else rest) ≡ Some y → P y × (y.name ≡ name)
found-by P x rest name y true q p h e = let same : x ≡ y = cc in subst (λ (z : Live). P z × (z.name ≡ name)) same (p, grind (arith, nat_tests))
found-by P x rest name y false q p h e = h e

pub each-found : (P : Live → Type 0) (w : World) (name : ℕ) (y : Live) → Each P w → live_at w name ≡ Some y → P y × (y.name ≡ name)
each-found P [] name y h e = absurd (cc)
each-found P (x ∷ w) name y h e = found-by P x (live_at w name) name y (nat_eq x.name name) refl h.0 (each-found P w name y h.1) e

pub names-share_no_byte : NamesShareNoByte
names-share_no_byte e count leaves r h name other x y ne q p =
    let apart = (run-has_blocks e count leaves r h).apart in
    let others = each-live_other (λ b c. is_apart b c ≡ true) apart-flip r.world name x apart q in
    let found = each-found (λ (z : Live). z.name ≢ name → is_apart x.block z.block ≡ true) r.world other y others p in
    found.0 (λ (n : y.name ≡ name). let same = found.1 in ne (cc))

-- A tree has no flaw, wherever its tokens stand, exactly where its words keep their rules. So an accepted tree is buildable.
use Rattle.std.proofs.Common.{◌≡◌, refl, ◌∙◌, ap, ℕ, ◌+◌, ◌≤◌, Bool, true, false, nat_le, List, [], ◌∷◌, ◌++◌, drop, Option, None}
use Rattle.std.proofs.lemmas.Bool.{le-leb, leb-true}
use Rattle.expr_reader.specs.declared.fault.ExprFault.{ExprFault}
use Rattle.expr_reader.specs.declared.fault.ExprFault.TheVariants.{BadParameter, NeedsAlignment}
use Rattle.expr_reader.specs.declared.token.Name.{Name}
use Rattle.expr_reader.specs.Tokens.{tokens}
use Rattle.expr_reader.specs.Trees.{Tree, leaf, node, Args, last, number, choice, layer}
use Rattle.expr_reader.specs.Flaws.{heads, least_alignment, needs, keeps_ranges, unless, with_first, first_of, broken, gives, head_places, first_place, layer_flaws, flaws, flaws_in, size, starts}
use Rattle.expr_reader.specs.Answers.{IsAccepted}
use Rattle.expr_reader.specs.Buildable.{ArePassed, KeepsRules, AllKeepRules, AllKeepRulesIn, IsBuildable}

pub neither : (fs gs : List ExprFault) → fs ++ gs ≡ [] → (fs ≡ []) × (gs ≡ [])
neither [] gs e = (refl, e)
neither (f ∷ fs) gs e = absurd cc

kept-first : (b : Bool) (f : ExprFault) (fs : List ExprFault) → with_first (unless b f) fs ≡ [] → b ≡ true
kept-first true f fs e = refl
kept-first false f fs e = absurd cc

kept-rest : (b : Bool) (f : ExprFault) (fs : List ExprFault) → with_first (unless b f) fs ≡ [] → fs ≡ []
kept-rest true f fs e = e
kept-rest false f fs e = absurd cc

none-kept : (b : Bool) (f : ExprFault) (fs : List ExprFault) → b ≡ true → fs ≡ [] → with_first (unless b f) fs ≡ []
none-kept true f fs kept none = none
none-kept false f fs kept none = absurd cc

both_empty : (fs gs : List ExprFault) → fs ≡ [] → gs ≡ [] → fs ++ gs ≡ []
both_empty fs gs e h = ap (λ hs. hs ++ gs) e ∙ h

all-passed : (bs : List Bool) (ps : List ℕ) → broken bs ps ≡ [] → ArePassed bs
all-passed [] ps e = tt
all-passed (b ∷ bs) ps e =
    let f = BadParameter (first_of ps) in
    let more = broken bs (drop 1 ps) in
    (kept-first b f more e, all-passed bs (drop 1 ps) (kept-rest b f more e))

none-broken : (bs : List Bool) (ps : List ℕ) → ArePassed bs → broken bs ps ≡ []
none-broken [] ps passed = refl
none-broken (b ∷ bs) ps passed = none-kept b (BadParameter (first_of ps)) (broken bs (drop 1 ps)) passed.0 (none-broken bs (drop 1 ps) passed.1)

layer-keeps : (k : Name) (args : Args) (given : Option ℕ) (ps : List ℕ) → layer_flaws given k args ps ≡ [] → KeepsRules given k args
layer-keeps k args given ps h =
    let f = NeedsAlignment (first_place args) in
    let tests = keeps_ranges k given (heads args) in
    let more = broken tests (head_places args ps) in
    let enough = nat_le (needs k (heads args)) (least_alignment args) in
    record {
      in_range = all-passed tests (head_places args ps) (kept-rest enough f more h);
      aligned = leb-true (needs k (heads args)) (least_alignment args) (kept-first enough f more h);
    }

layer-flawless : (k : Name) (args : Args) (given : Option ℕ) (ps : List ℕ) → KeepsRules given k args → layer_flaws given k args ps ≡ []
layer-flawless k args given ps h =
    let tests = keeps_ranges k given (heads args) in
    none-kept (nat_le (needs k (heads args)) (least_alignment args)) (NeedsAlignment (first_place args)) (broken tests (head_places args ps)) (le-leb (needs k (heads args)) (least_alignment args) h.aligned)
    (none-broken tests (head_places args ps) h.in_range)

mutual
  flawless-keeps : (e : Tree) (given : Option ℕ) (ps : List ℕ) → flaws given e ps ≡ [] → AllKeepRules given e
  flawless-keeps (leaf at k) given ps h = tt
  flawless-keeps (node at k args) given ps h =
      let parts = neither (layer_flaws given k args (drop 2 ps)) (flaws_in (gives k (heads args)) args (drop 2 ps)) h in
      (layer-keeps k args given (drop 2 ps) parts.0, flawless-keeps_in args (gives k (heads args)) (drop 2 ps) parts.1)

  flawless-keeps_in : (args : Args) (given : Option ℕ) (ps : List ℕ) → flaws_in given args ps ≡ [] → AllKeepRulesIn given args
  flawless-keeps_in (last e) given ps h = flawless-keeps e given ps h
  flawless-keeps_in (number n args) given ps h = flawless-keeps_in args given (drop 2 ps) h
  flawless-keeps_in (choice c args) given ps h = flawless-keeps_in args given (drop 2 ps) h
  flawless-keeps_in (layer e args) given ps h =
      let parts = neither (flaws given e ps) (flaws_in given args (drop (size e + 1) ps)) h in
      (flawless-keeps e given ps parts.0, flawless-keeps_in args given (drop (size e + 1) ps) parts.1)

mutual
  pub keeps-flawless : (e : Tree) (given : Option ℕ) (ps : List ℕ) → AllKeepRules given e → flaws given e ps ≡ []
  keeps-flawless (leaf at k) given ps h = refl
  keeps-flawless (node at k args) given ps h =
      both_empty (layer_flaws given k args (drop 2 ps)) (flaws_in (gives k (heads args)) args (drop 2 ps)) (layer-flawless k args given (drop 2 ps) h.0)
      (keeps-flawless_in args (gives k (heads args)) (drop 2 ps) h.1)

  keeps-flawless_in : (args : Args) (given : Option ℕ) (ps : List ℕ) → AllKeepRulesIn given args → flaws_in given args ps ≡ []
  keeps-flawless_in (last e) given ps h = keeps-flawless e given ps h
  keeps-flawless_in (number n args) given ps h = keeps-flawless_in args given (drop 2 ps) h
  keeps-flawless_in (choice c args) given ps h = keeps-flawless_in args given (drop 2 ps) h
  keeps-flawless_in (layer e args) given ps h =
      both_empty (flaws given e ps) (flaws_in given args (drop (size e + 1) ps)) (keeps-flawless e given ps h.0) (keeps-flawless_in args given (drop (size e + 1) ps) h.1)

pub accepted-buildable : (text : List ℕ) (e : Tree) → IsAccepted text e → IsBuildable e
accepted-buildable text e a = record { fits = a.reads.fits; keeps = flawless-keeps e None (starts (tokens text)) a.flawless; shallow = a.reads.shallow }

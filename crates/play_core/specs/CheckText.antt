-- Check text: what is told of an expression.
use Rattle.std.specs.Prelude.{ℕ, ◌++◌, ◌||◌, ◌∷◌, Bool, List, [], codes, if◌then◌else◌}
use Rattle.std.specs.Fmt.{decimal}
use Rattle.layer_rules.specs.declared.Offers.{Offers}
use Rattle.layer_rules.specs.Rules.{Rules}
use Rattle.expr_reader.specs.Canonical.{canonical}
use Rattle.expr_reader.specs.Trees.{Tree as Expression}
use Rattle.play_core.specs.Asked.{root_of}

-- a word behind a space, where it is offered
abbrev pub offered : Bool → (word : List ℕ) → List ℕ
offered is_offered word = if is_offered then 32 ∷ word else []

-- each call that is offered, or none
abbrev pub offers_text : Offers → List ℕ
offers_text o =
    if o.owns || (o.expand || (o.aligned || o.all))
    then offered o.owns (codes "owns") ++ (offered o.expand (codes "expand") ++ (offered o.aligned (codes "aligned") ++ offered o.all (codes "all")))
    else codes " none"

-- the nodes of a composition, the alignment of its blocks, and what it offers, each on a line
unfoldable pub rules_text : Rules → List ℕ
rules_text s =
    codes "nodes " ++ (decimal s.nodes ++ (codes "\nalign " ++ (decimal s.alignment ++ (codes "\noffers" ++ (offers_text s.offers ++ codes "\n")))))

-- the canonical text of an expression on a line, and what is told of its layers
abbrev pub check_text : Expression → List ℕ
check_text e = canonical e ++ (codes "\n" ++ rules_text (root_of e))

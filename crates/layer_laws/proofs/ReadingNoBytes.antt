-- What is told of a block is read of the fields alone, and of no byte of the Space.
use Rattle.std.proofs.Common.{◌≡◌, sym, ◌∙◌, ap, ℕ, true, List}
use Rattle.layer_rules.specs.Fields.{Fields}
use Rattle.layer_rules.specs.Rules.{Rules}
use Rattle.layer_rules.specs.State.{State}
use Rattle.layer_rules.specs.Unread.{unread}
use Rattle.layer_laws.specs.Lawful.{ReadingLaws}
use Rattle.layer_laws.specs.RuleLaws.{HoldsReadsNoBytes, RouteReadsNoBytes, RoutedReadsNoBytes, ExtentReadsNoBytes, AskedAlongReadsNoBytes, OwnsReadsNoBytes, OwnsChangesByNoBytes}

-- what is told so of a state without what is read, is told so of the fields with any bytes
pub told-of_fields : {A : Type 0} (e : Rules) (f : State → A) (fs : Fields) (x y : List ℕ) → ReadingLaws e → ((s : State) → f (unread s) ≡ f s) → f (e.read fs x) ≡ f (e.read fs y)
told-of_fields e f fs x y r h = sym (h (e.read fs x)) ∙ ap f (r.read fs x y) ∙ h (e.read fs y)

pub holds-reads_no_bytes : HoldsReadsNoBytes
holds-reads_no_bytes e b fs x y r = told-of_fields e (e.holds b) fs x y r (r.holds b)

pub route-reads_no_bytes : RouteReadsNoBytes
route-reads_no_bytes e b fs x y r = told-of_fields e (e.route b) fs x y r (r.route b)

pub routed-reads_no_bytes : RoutedReadsNoBytes
routed-reads_no_bytes e b fs x y r = told-of_fields e (e.is_routed b) fs x y r (r.routed b)

pub extent-reads_no_bytes : ExtentReadsNoBytes
extent-reads_no_bytes e b fs x y r = told-of_fields e (e.extent b) fs x y r (r.extent b)

pub asked_along-reads_no_bytes : AskedAlongReadsNoBytes
asked_along-reads_no_bytes e path b fs x y r = told-of_fields e (λ s. e.owns_at path true b s) fs x y r (r.owns_at path true b)

pub owns-reads_no_bytes : OwnsReadsNoBytes
owns-reads_no_bytes e b fs x y r = told-of_fields e (λ s. (e.owns b s).owned) fs x y r (r.owned b)

pub owns-changes_by_no_bytes : OwnsChangesByNoBytes
owns-changes_by_no_bytes e b fs x y r = r.owns b (e.read fs x) ∙ ap (λ s. (e.owns b s).state) (r.read fs x y) ∙ sym (r.owns b (e.read fs y))

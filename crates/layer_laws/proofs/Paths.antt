-- Paths: where a layer on the way can't have the block a yes at the path's end is a no, and the block decides nothing, by the pieces
-- that rules are made of.
use Rattle.std.proofs.Common.{◌≡◌, refl, sym, ap, ◌∙◌, ℕ, zero, suc, Bool, true, false, ◌&&◌, List, [], ◌∷◌}
use Rattle.layer_rules.specs.declared.Asked.{Asked}
use Rattle.layer_rules.specs.declared.Asked.TheVariants.{Yes, No, NotServing, NotOffered, NoSuchLayer}
use Rattle.layer_rules.specs.Chunks.{at_chunk}
use Rattle.layer_rules.specs.Members.{into_member}
use Rattle.layer_rules.specs.NullRules.{at_no_child}
use Rattle.layer_rules.specs.Owning.{at_end, into_parent}
use Rattle.layer_rules.specs.Rules.{Rules}
use Rattle.layer_laws.specs.Lawful.{yes_if}

-- an answer goes by what is possible in no other way
abbrev pub IsYesIf : (Bool → Asked) → Type 0
IsYesIf answer = (possible : Bool) → answer possible ≡ yes_if possible (answer true)

yes_if-same : (possible : Bool) (answer : Asked) → (yes_if false answer ≡ answer) → answer ≡ yes_if possible answer
yes_if-same true answer q = refl
yes_if-same false answer q = sym q

yes_if-twice : (answer : Asked) → yes_if false (yes_if false answer) ≡ yes_if false answer
yes_if-twice Yes = refl
yes_if-twice No = refl
yes_if-twice NotServing = refl
yes_if-twice NotOffered = refl
yes_if-twice NoSuchLayer = refl

yes_if-both : (x y : Bool) (answer : Asked) → yes_if (x && y) answer ≡ yes_if x (yes_if y answer)
yes_if-both true y answer = refl
yes_if-both false true answer = refl
yes_if-both false false answer = sym (yes_if-twice answer)

-- ---- at the end

pub along-no_layer : IsYesIf (λ possible. NoSuchLayer)
along-no_layer possible = yes_if-same possible NoSuchLayer refl

pub along-at_end : (offered held : Bool) → IsYesIf (λ possible. at_end offered possible held)
along-at_end false held possible = yes_if-same possible NotOffered refl
along-at_end true held true = refl
along-at_end true true false = refl
along-at_end true false false = refl

pub along-at_no_child : (owns : Bool) (path : List ℕ) → IsYesIf (at_no_child owns path)
along-at_no_child owns [] possible = along-at_end owns false possible
along-at_no_child owns (i ∷ path) possible = along-no_layer possible

pub along-at_chunk : (path : List ℕ) (held : Bool) → IsYesIf (λ possible. at_chunk path possible held)
along-at_chunk [] held possible = along-at_end true held possible
along-at_chunk (zero ∷ path) held possible = yes_if-same possible NotServing refl
along-at_chunk (suc i ∷ path) held possible = along-no_layer possible

-- ---- a step on

-- a child that can have the block where this layer can
pub along-below : (fine : Bool) (answer : Bool → Asked) → IsYesIf answer → IsYesIf (λ possible. answer (possible && fine))
along-below fine answer k possible = k (possible && fine) ∙ (yes_if-both possible fine (answer true) ∙ ap (yes_if possible) (sym (k fine)))

pub along-into_parent : (i : ℕ) (answer : Bool → Asked) → IsYesIf answer → IsYesIf (λ possible. into_parent i (answer possible))
along-into_parent zero answer k possible = k possible
along-into_parent (suc i) answer k possible = along-no_layer possible

pub along-into_member : (es : List Rules) (i : ℕ) (answer : Bool → Asked) → IsYesIf answer → IsYesIf (λ possible. into_member es i (answer possible))
along-into_member [] i answer k possible = along-no_layer possible
along-into_member (e ∷ es) zero answer k possible = k possible
along-into_member (e ∷ es) (suc i) answer k possible = along-into_member es i answer k possible

-- ---- where a layer on the way can't have the block

pub by_path-at_end : (offered held held' : Bool) → at_end offered false held ≡ at_end offered false held'
by_path-at_end false held held' = refl
by_path-at_end true held held' = refl

pub by_path-at_chunk : (path : List ℕ) (held held' : Bool) → at_chunk path false held ≡ at_chunk path false held'
by_path-at_chunk [] held held' = refl
by_path-at_chunk (i ∷ path) held held' = refl

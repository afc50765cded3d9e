-- What is said at a path's end: by the layer that is asked itself, and of a layer that walks no further.
use Rattle.std.proofs.Common.{◌≡◌, ◌≢◌, refl, sym, ◌∙◌, ℕ, zero, suc, Bool, true, false, List, [], ◌∷◌}
use Rattle.space_core.specs.Cells.{Cells}
use Rattle.layer_rules.specs.declared.Asked.{Asked}
use Rattle.layer_rules.specs.declared.Asked.TheVariants.{Yes, No, NoSuchLayer}
use Rattle.layer_rules.specs.declared.Block.{Block}
use Rattle.layer_rules.specs.Offering.{is_served_size}
use Rattle.layer_rules.specs.Owning.{at_end, at_chunk_holder}
use Rattle.layer_rules.specs.Rules.{Rules, IsSettled, owns_along}
use Rattle.layer_rules.specs.State.{State}
use Rattle.layer_laws.specs.Lawful.{IsInOwnCells, HoldingLaws, AnswersRoute, SayingRoute, SayingOwn, PathLaws}

-- ---- the end of a path

-- here the layer answers by what it holds, which has a length that is served
pub record IsAskedItself (e : Rules) : Type 0 where
  pub asked : (b : Block) (s : State) → owns_along e [] b s ≡ at_end e.offers.owns true (e.holds b s)
  pub size : (b : Block) (s : State) → e.holds b s ≡ true → is_served_size b.len ≡ true

end-yes : (offered held : Bool) → at_end offered true held ≡ Yes → held ≡ true
end-yes true true q = refl
end-yes true false q = absurd (cc)
end-yes false held q = absurd (cc)

end-no : (offered held : Bool) → (offered ≡ true → held ≡ true) → at_end offered true held ≡ No → ⊥
end-no true true h q = cc
end-no true false h q = let z = h refl in cc
end-no false held h q = cc

pub end-held : (e : Rules) → IsAskedItself e → (b : Block) (s : State) → owns_along e [] b s ≡ Yes → e.holds b s ≡ true
end-held e w b s q = end-yes e.offers.owns (e.holds b s) (sym (w.asked b s) ∙ q)

pub end-own : (e : Rules) → IsAskedItself e → HoldingLaws e → (b : Block) (s : State) (cells : Cells) → IsSettled e s cells → owns_along e [] b s ≡ Yes → IsInOwnCells e b cells
end-own e w h b s cells z q = h.own b s cells z (end-held e w b s q)

pub end-route : (e : Rules) → IsAskedItself e → HoldingLaws e → (b : Block) (s : State) (cells : Cells) → IsSettled e s cells → e.is_out b s cells ≡ true → AnswersRoute [] (e.route b s) (owns_along e [] b s)
end-route e w h b s cells z o = record {
  yes = λ q. refl;
  no = λ q. absurd (end-no e.offers.owns (e.holds b s) (λ offered. h.out_held offered b s cells z o) (sym (w.asked b s) ∙ q));
}

-- ---- a layer that walks no further

-- neither yes nor no
pub record SaysNeither (said : Asked) : Type 0 where
  pub yes : said ≢ Yes
  pub no : said ≢ No

pub neither-chunk : (i : ℕ) → SaysNeither (at_chunk_holder i)
neither-chunk zero = record { yes = λ q. cc; no = λ q. cc }
neither-chunk (suc i) = record { yes = λ q. cc; no = λ q. cc }

pub neither-no_layer : SaysNeither NoSuchLayer
neither-no_layer = record { yes = λ q. cc; no = λ q. cc }

pub end-paths : (e : Rules) → IsAskedItself e → ((i : ℕ) (path : List ℕ) (b : Block) (s : State) → SaysNeither (owns_along e (i ∷ path) b s)) → HoldingLaws e → PathLaws e
end-paths e w n h = record { said_route = route; said_own = own; said_size = size }
  where
    route : SayingRoute e
    route [] b s cells z o = end-route e w h b s cells z o
    route (i ∷ path) b s cells z o = let k = n i path b s in record { yes = λ q. absurd (k.yes q); no = λ q. absurd (k.no q) }

    own : SayingOwn e
    own [] b s cells z q = end-own e w h b s cells z q
    own (i ∷ path) b s cells z q = absurd ((n i path b s).yes q)

    size : (path : List ℕ) (b : Block) (s : State) → owns_along e path b s ≡ Yes → is_served_size b.len ≡ true
    size [] b s q = w.size b s (end-held e w b s q)
    size (i ∷ path) b s q = absurd ((n i path b s).yes q)

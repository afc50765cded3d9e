-- What several puts leave together.
use Rattle.std.proofs.Common.{◌≡◌, ℕ, ◌+◌, ◌≤◌, List, [], ◌++◌, length, take, drop, Option, Some, None, refl, sym, ap, ◌∙◌, append_assoc, append-nil, arith, subst}
use Rattle.std.proofs.lemmas.List.{take-append-drop, length-take-le}
use Rattle.std.proofs.Math.Seq.{take-append-add}
use Rattle.source_sink.specs.Counts.{Rose}
use Rattle.source_sink.specs.Sinks.{Appends}
use Rattle.play_core.specs.Devices.{Writing, PutsAll, Fails}

pub take-add : (i k : ℕ) (xs : List ℕ) → i ≤ length xs → take (i + k) xs ≡ take i xs ++ take k (drop i xs)
take-add i k xs h =
    let e : length (take i xs) ≡ i = length-take-le i xs h in
    let f : take i xs ++ drop i xs ≡ xs = take-append-drop i xs in
    let t = take-append-add (take i xs) (drop i xs) k in
    cc

pub appends_more : (a b c : Option (List ℕ)) (x y : List ℕ) → Appends a b x → Appends b c y → Appends a c (x ++ y)
appends_more (Some a) (Some b) (Some c) x y h k = let e = append_assoc a x y in cc
appends_more None None None x y h k = tt
appends_more (Some a) None c x y h k = absurd h
appends_more None (Some b) c x y h k = absurd h
appends_more (Some a) (Some b) None x y h k = absurd k
appends_more None None (Some c) x y h k = absurd k

pub puts_more : (a b c : Writing) (x y : List ℕ) → PutsAll a b x → PutsAll b c y → PutsAll a c (x ++ y)
puts_more a b c x y h k = record { appended = appends_more a.holds b.holds c.holds x y h.appended k.appended; counted = cc }

pub fails_more : (a b c : Writing) (x y : List ℕ) → PutsAll a b x → Fails b c y → Fails a c (x ++ y)
fails_more a b c x y h k = record {
  appended = appends_more a.holds b.holds c.holds x y h.appended k.appended;
  later = omega (arith, h.counted, k.later);
  rose = omega (arith, h.counted, k.rose);
}

appends_none : (a : Option (List ℕ)) → Appends a a []
appends_none None = tt
appends_none (Some xs) = sym (append-nil xs)

-- the sink failed, and what it holds stays
pub fails_none : (a b : Writing) → b.holds ≡ a.holds → a.faults ≤ b.faults → Rose a.faults b.faults → Fails a b []
fails_none a b h later rose = record { appended = subst (λ (x : Option (List ℕ)). Appends a.holds x []) (sym h) (appends_none a.holds); later = later; rose = rose }

-- what is known of a sink stays
pub writing_same : (a b : Writing) → b.holds ≡ a.holds → b.faults ≡ a.faults → b ≡ a
writing_same a b h f = ap (λ (x : Option (List ℕ)). record { holds = x; faults = b.faults }) h ∙ ap (λ (n : ℕ). record { holds = a.holds; faults = n }) f

-- the sink failed behind what was put
pub fails_behind : (a b c : Writing) (x : List ℕ) → PutsAll a b x → Fails b c [] → Fails a c x
fails_behind a b c x h k = subst (λ xs. Fails a c xs) (append-nil x) (fails_more a b c x [] h k)

-- one more part of a text
pub puts_part : (a b c : Writing) (text rest : List ℕ) (i k : ℕ) → rest ≡ drop i text → i ≤ length text → PutsAll a b (take i text) → PutsAll b c (take k rest) → PutsAll a c (take (i + k) text)
puts_part a b c text rest i k e h p q = rw (take-add i k text h, ← e) (puts_more a b c _ _ p q)

pub puts_none : (w : Writing) → PutsAll w w []
puts_none w = record { appended = appends_none w.holds; counted = refl }

pub puts_none_at : (a b : Writing) → b ≡ a → PutsAll a b []
puts_none_at a b e = subst (λ w. PutsAll a w []) (sym e) (puts_none a)

-- the text may be given otherwise
pub puts_along : (a b : Writing) (x y : List ℕ) → x ≡ y → PutsAll a b x → PutsAll a b y
puts_along a b x y e h = subst (λ xs. PutsAll a b xs) e h

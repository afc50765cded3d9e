-- What a fallback tells: who owns a block, and what the report says of each node.
use Rattle.std.proofs.Common.{◌≡◌, refl, sym, ap, ap₂, subst, ◌∙◌, ℕ, zero, suc, ◌<◌, ◌≤◌, ◌+◌, ◌-◌, Bool, true, false, arith, List, [], ◌∷◌, ◌++◌, length, slice_get, get_or, cond}
use Rattle.std.proofs.lemmas.Bool.{and_from}
use Rattle.std.proofs.lemmas.List.{get_or_append_left, get_or-append-add}
use Rattle.space_core.specs.Memory.{Memory}
use Rattle.layer_rules.specs.declared.Block.{Block}
use Rattle.layer_rules.specs.declared.Fact.{Fact}
use Rattle.layer_rules.specs.After.{Reply, reply}
use Rattle.layer_rules.specs.Fields.{Fields, closed_fields, open_fields, fields_and, one_field, kept_nothing, are_open, child_fields}
use Rattle.layer_rules.specs.Layering.{LayerModel, state_of, kept_state, IsSetUp, Owns, IsFactOf, numbers_at}
use Rattle.layer_rules.specs.Offering.{is_served_size}
use Rattle.layer_rules.specs.Owning.{owns_child_if}
use Rattle.layer_rules.specs.Rules.{Rules}
use Rattle.layer_rules.specs.State.{State, child}
use Rattle.layer_laws.specs.Lawful.{IsMade}
use Rattle.layer_laws.proofs.ReadingNoBytes.{owns-reads_no_bytes}
use Rattle.layer_laws.proofs.StandingLaws.{made-shut}
use Rattle.fallback_rules.specs.FallbackRules.{reply_or, or_owns, fallback_owns, fallback_rules}
use Rattle.fallback.proofs.Holders.{pair_of}
use Rattle.fallback.specs.FallbackModel.{fallback_if, fallback_model}
use Rattle.fallback.proofs.Pairs.{open_pair, both-open, as-open, open-only}

-- ---- owning

owned-first : (p f : Rules) (b : Block) (a c : State) → is_served_size b.len ≡ true → (p.owns b a).owned ≡ true → fallback_owns p f b (pair_of a c) ≡ reply true (pair_of (p.owns b a).state c)
owned-first p f b a c size q =
    ap (λ x. or_owns (owns_child_if x 1 f.owns b) (owns_child_if x 0 p.owns b (pair_of a c))) size ∙ ap (λ x. reply_or x (owns_child_if true 1 f.owns b) (pair_of (p.owns b a).state c)) q

owned-second : (p f : Rules) (b : Block) (a c : State) → is_served_size b.len ≡ true → (p.owns b a).owned ≡ false → fallback_owns p f b (pair_of a c) ≡ reply (f.owns b c).owned (pair_of (p.owns b a).state (f.owns b c).state)
owned-second p f b a c size q =
    ap (λ x. or_owns (owns_child_if x 1 f.owns b) (owns_child_if x 0 p.owns b (pair_of a c))) size ∙ ap (λ x. reply_or x (owns_child_if true 1 f.owns b) (pair_of (p.owns b a).state c)) q

-- what `owns` answered is so whatever the bytes are
owned-now : (p p' : LayerModel) (b : Block) (r : Bool) (bytes : List ℕ) → IsMade p.rules → Owns p p' b r → (p.rules.owns b (p.rules.read p.fields bytes)).owned ≡ r
owned-now p p' b r bytes l a = owns-reads_no_bytes p.rules b p.fields bytes [] l.regular.reading ∙ sym a.answer

first-owns : (p p' f : LayerModel) (b : Block) → IsMade p.rules → IsMade f.rules → is_served_size b.len ≡ true → Owns p p' b true → Owns (open_pair p f) (open_pair p' f) b true
unfolding fallback_rules
first-owns p p' f b l k size a = record {
  rules = ap (λ e. fallback_rules e f.rules) a.rules;
  opened = refl;
  answer = sym (ap (λ (r : Reply). r.owned) (owned-first p.rules f.rules b (kept_state p) (kept_state f) size (owned-now p p' b true [] l a)));
  state = λ bytes. ap (λ s. pair_of s (f.rules.read f.fields bytes)) (a.state bytes)
      ∙ sym (ap (λ (r : Reply). r.state) (owned-first p.rules f.rules b (p.rules.read p.fields bytes) (f.rules.read f.fields bytes) size (owned-now p p' b true bytes l a)));
  image = λ m h. let both = both-open p f m l k h in and_from _ _ (a.image m both.0) both.1.image;
}

second-owns : (p p' f f' : LayerModel) (b : Block) (r : Bool) → IsMade p.rules → IsMade f.rules → is_served_size b.len ≡ true → Owns p p' b false → Owns f f' b r → Owns (open_pair p f) (open_pair p' f') b r
unfolding fallback_rules
second-owns p p' f f' b r l k size a c = record {
  rules = ap₂ fallback_rules a.rules c.rules;
  opened = refl;
  answer = c.answer ∙ sym (ap (λ (r : Reply). r.owned) (owned-second p.rules f.rules b (kept_state p) (kept_state f) size (owned-now p p' b false [] l a)));
  state = λ bytes. ap₂ pair_of (a.state bytes) (c.state bytes)
      ∙ sym (ap (λ (r : Reply). r.state) (owned-second p.rules f.rules b (p.rules.read p.fields bytes) (f.rules.read f.fields bytes) size (owned-now p p' b false bytes l a)));
  image = λ m h. let both = both-open p f m l k h in and_from _ _ (a.image m both.0) (c.image m both.1);
}

pub owned-by_first : (p p' f : LayerModel) (b : Block) (r : Bool) → IsMade p.rules → IsMade f.rules → IsSetUp (fallback_model p f) → is_served_size b.len ≡ true → r ≡ true → Owns p p' b r → Owns (fallback_model p f) (fallback_model p' f) b r
owned-by_first p p' f b r l k u size q a =
    let o = open-only p f u in
    subst (λ r. Owns (fallback_model p f) (fallback_model p' f) b r) (sym q)
    (as-open (λ t t'. Owns t t' b true) p p' f f o (a.opened ∙ o) (first-owns p p' f b l k size (subst (λ r. Owns p p' b r) q a)))

pub owned-by_second : (p p' f f' : LayerModel) (b : Block) (q r : Bool) → IsMade p.rules → IsMade f.rules → IsSetUp (fallback_model p f) → is_served_size b.len ≡ true → q ≡ false → Owns p p' b q → Owns f f' b r → Owns (fallback_model p f) (fallback_model p' f') b r
owned-by_second p p' f f' b q r l k u size e a c =
    let o = open-only p f u in as-open (λ t t'. Owns t t' b r) p p' f f' o (a.opened ∙ o) (second-owns p p' f f' b r l k size (subst (λ q. Owns p p' b q) e a) c)

-- ---- the states of the two, whether they are open or not

first-state : (p f : LayerModel) (m : Memory) → IsMade p.rules → child (state_of (fallback_model p f) m) 0 ≡ state_of p m
unfolding fallback_rules
first-state p f m l = go (are_open p.fields) refl
  where
    go : (q : Bool) → are_open p.fields ≡ q → child (state_of (fallback_if q p f) m) 0 ≡ state_of p m
    go true e = refl
    go false e = sym (made-shut p.rules l p.fields m.bytes e)

second-state : (p f : LayerModel) (m : Memory) → IsMade f.rules → are_open f.fields ≡ are_open p.fields → child (state_of (fallback_model p f) m) 1 ≡ state_of f m
unfolding fallback_rules
second-state p f m l together = go (are_open p.fields) refl
  where
    go : (q : Bool) → are_open p.fields ≡ q → child (state_of (fallback_if q p f) m) 1 ≡ state_of f m
    go true e = refl
    go false e = sym (made-shut f.rules l f.fields m.bytes (together ∙ e))

-- ---- facts

-- an item of the first of two rows, and of the second
within : {A : Type 0} (xs ys : List A) (i : ℕ) → i < length xs → slice_get (xs ++ ys) i ≡ slice_get xs i
within [] ys i l = absurd (omega (arith, l))
within (x ∷ xs) ys zero l = refl
within (x ∷ xs) ys (suc i) l = within xs ys i (omega (arith, l))

past : {A : Type 0} (xs ys : List A) (i : ℕ) → slice_get (xs ++ ys) (length xs + i) ≡ slice_get ys i
past [] ys i = let e : 0 + i ≡ i = omega arith in ap (slice_get ys) e
past (x ∷ xs) ys i = let e : suc (length xs) + i ≡ suc (length xs + i) = omega arith in ap (slice_get (x ∷ (xs ++ ys))) e ∙ past xs ys i

before : {A : Type 0} (x : A) (xs ys : List A) (node : ℕ) → 1 ≤ node → node ≤ length xs → slice_get (x ∷ (xs ++ ys)) node ≡ slice_get xs (node - 1)
before x xs ys node l k = let e : node ≡ suc (node - 1) = omega arith in ap (slice_get (x ∷ (xs ++ ys))) e ∙ within xs ys (node - 1) (omega arith)

behind : {A : Type 0} (x : A) (xs ys : List A) (node : ℕ) → length xs < node → slice_get (x ∷ (xs ++ ys)) node ≡ slice_get ys (node - 1 - length xs)
behind x xs ys node l = let e : node ≡ suc (length xs + (node - 1 - length xs)) = omega arith in ap (slice_get (x ∷ (xs ++ ys))) e ∙ past xs ys (node - 1 - length xs)

pub fact-first : (p f : LayerModel) (m : Memory) (node : ℕ) (said : Fact) → IsMade p.rules → IsMade f.rules → are_open f.fields ≡ are_open p.fields → 1 ≤ node → node ≤ p.rules.nodes → IsFactOf p m (node - 1) said → IsFactOf (fallback_model p f) m node said
unfolding fallback_rules
fact-first p f m node said l k together some most a =
    let count = l.regular.telling.facts_count (state_of p m) m.cells in
    let q = first-state p f m l in
    let own = p.rules.facts (state_of p m) m.cells in
    before _ (p.rules.facts (child (state_of (fallback_model p f) m) 0) m.cells) _ node some (rw (q, count) most)
    ∙ ap (λ s. slice_get (p.rules.facts s m.cells) (node - 1)) q ∙ a

pub fact-second : (p f : LayerModel) (m : Memory) (node nodes : ℕ) (said : Fact) → IsMade p.rules → IsMade f.rules → are_open f.fields ≡ are_open p.fields → nodes ≡ p.rules.nodes → nodes < node → IsFactOf f m (node - 1 - nodes) said
    → IsFactOf (fallback_model p f) m node said
unfolding fallback_rules
fact-second p f m node nodes said l k together q less a =
    let more : p.rules.nodes < node = omega (arith, q, less) in
    let s = state_of (fallback_model p f) m in
    let count = l.regular.telling.facts_count (child s 0) m.cells in
    behind _ (p.rules.facts (child s 0) m.cells) (f.rules.facts (child s 1) m.cells) node (rw count more)
    ∙ ap (λ n. slice_get (f.rules.facts (child s 1) m.cells) (node - 1 - n)) count ∙ ap (λ s. slice_get (f.rules.facts s m.cells) (node - 1 - p.rules.nodes)) (second-state p f m k together)
    ∙ ap (λ n. slice_get (f.rules.facts (state_of f m) m.cells) (node - 1 - n)) (sym q) ∙ a

-- ---- numbers

-- the fields of the two, whether they are open or not
first-fields : (p f : Fields) → child_fields (cond (are_open p) (open_fields kept_nothing (fields_and p (one_field f))) closed_fields) 0 ≡ p
first-fields closed_fields f = refl
first-fields (open_fields kept fss) f = refl

second-fields : (p f : Fields) → are_open f ≡ are_open p → child_fields (cond (are_open p) (open_fields kept_nothing (fields_and p (one_field f))) closed_fields) 1 ≡ f
second-fields closed_fields closed_fields e = refl
second-fields closed_fields (open_fields kept fss) e = absurd (cc)
second-fields (open_fields kept fss) f e = refl

-- the row of a node of either
row-before : (x : List ℕ) (xs ys : List (List ℕ)) (node : ℕ) → 1 ≤ node → node ≤ length xs → get_or (x ∷ (xs ++ ys)) node [] ≡ get_or xs (node - 1) []
row-before x xs ys node l k = let e : node ≡ suc (node - 1) = omega arith in ap (λ n. get_or (x ∷ (xs ++ ys)) n []) e ∙ get_or_append_left xs ys [] (node - 1) (omega arith)

row-behind : (x : List ℕ) (xs ys : List (List ℕ)) (node : ℕ) → length xs < node → get_or (x ∷ (xs ++ ys)) node [] ≡ get_or ys (node - 1 - length xs) []
row-behind x xs ys node l =
    let e : node ≡ suc (length xs + (node - 1 - length xs)) = omega arith in ap (λ n. get_or (x ∷ (xs ++ ys)) n []) e ∙ get_or-append-add xs ys (node - 1 - length xs) []

pub numbers-first : (p f : LayerModel) (node : ℕ) → IsMade p.rules → 1 ≤ node → node ≤ p.rules.nodes → numbers_at (fallback_model p f) node ≡ numbers_at p (node - 1)
unfolding fallback_rules
numbers-first p f node l some most =
    let q = first-fields p.fields f.fields in
    let fs = child_fields (fallback_model p f).fields 0 in
    row-before _ (p.rules.state_numbers fs) _ node some (rw (l.regular.telling.numbers_count fs) most) ∙ ap (λ fs. get_or (p.rules.state_numbers fs) (node - 1) []) q

pub numbers-second : (p f : LayerModel) (node nodes : ℕ) → IsMade p.rules → are_open f.fields ≡ are_open p.fields → nodes ≡ p.rules.nodes → nodes < node → numbers_at (fallback_model p f) node ≡ numbers_at f (node - 1 - nodes)
unfolding fallback_rules
numbers-second p f node nodes l together q less =
    let fs = (fallback_model p f).fields in
    let more : p.rules.nodes < node = omega (arith, q, less) in
    let count = l.regular.telling.numbers_count (child_fields fs 0) in
    row-behind _ (p.rules.state_numbers (child_fields fs 0)) (f.rules.state_numbers (child_fields fs 1)) node (rw count more)
    ∙ ap (λ n. get_or (f.rules.state_numbers (child_fields fs 1)) (node - 1 - n) []) (count ∙ sym q) ∙ ap (λ fs. get_or (f.rules.state_numbers fs) (node - 1 - nodes) []) (second-fields p.fields f.fields together)

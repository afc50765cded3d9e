-- Flaws of an expression that reads: numbers that break their rule, and parents with too little alignment.
-- Alignment goes by the numbers as they are written.
use Rattle.std.specs.Prelude.{ℕ, ◌+◌, Bool, ◌&&◌, ◌==◌, nat_eq, nat_le, nat_lt, if◌then◌else◌, min, List, [], ◌∷◌, ◌++◌, drop, map, slice_get, Option, Some, None}
use Rattle.size_round.specs.Sizes.{is_between, is_multiple, is_power_of_two}
use Rattle.expr_reader.specs.declared.fault.ExprFault.{ExprFault}
use Rattle.expr_reader.specs.declared.fault.ExprFault.TheVariants.{Syntax, NumberTooLarge, TooDeep, BadParameter, NeedsAlignment, NoMemory}
use Rattle.expr_reader.specs.declared.token.Name.{Name}
use Rattle.expr_reader.specs.declared.node.Head.{Head}
use Rattle.expr_reader.specs.declared.node.Head.TheVariants.{Number, Chosen}
use Rattle.expr_reader.specs.declared.table.Allowed.{Allowed}
use Rattle.expr_reader.specs.declared.table.Allowed.TheVariants.{Between, PowerOfTwo, MultipleOf, AtMostNumber}
use Rattle.expr_reader.specs.declared.table.Alignment.{Alignment}
use Rattle.expr_reader.specs.declared.table.Alignment.TheVariants.{AsBelow, Fixed, OfNumber, Behind}
use Rattle.affix_rules.specs.AffixRules.{alignment_behind}
use Rattle.expr_reader.specs.Table.{profile_of}
use Rattle.expr_reader.specs.Tokens.{Placed}
use Rattle.expr_reader.specs.Trees.{Tree, leaf, node, Args, last, number, choice, layer, place_of}

-- the numbers, and the words in their place, in order
abbrev pub heads : Args → List Head
heads (last e) = []
heads (number n args) = Number n ∷ heads args
heads (choice c args) = Chosen c ∷ heads args
heads (layer e args) = heads args

-- ---- what the table says of a word

-- the number that stands there, and else another
abbrev pub number_or : (other : ℕ) → Option Head → ℕ
number_or other (Some (Number n)) = n
number_or other h = other

-- an alignment, from the word's numbers and the alignment below it
abbrev pub own_alignment : Alignment → List Head → (below : ℕ) → ℕ
own_alignment AsBelow hs below = below
own_alignment (Fixed bytes) hs below = bytes
own_alignment (OfNumber i) hs below = number_or below (slice_get hs i)
own_alignment (Behind i) hs below = alignment_behind (number_or 0 (slice_get hs i)) below

-- the alignment that is needed below: what the word has by itself, and 8 where there are bytes in front of its blocks
abbrev pub own_need : Alignment → List Head → ℕ
own_need AsBelow hs = 0
own_need (Fixed bytes) hs = bytes
own_need (OfNumber i) hs = number_or 0 (slice_get hs i)
own_need (Behind i) hs = if nat_eq (number_or 0 (slice_get hs i)) 0 then 0 else 8

-- the alignment of a word, from its numbers and the least alignment below it
abbrev pub word_alignment : Name → List Head → (below : ℕ) → ℕ
word_alignment k hs below = own_alignment (profile_of k).alignment hs below

-- the alignment that a layer needs below it
abbrev pub needs : Name → List Head → ℕ
needs k hs = own_need (profile_of k).alignment hs

-- whether the number is allowed, among all that its word has
abbrev pub is_allowed : (all : List Head) → Allowed → ℕ → Bool
is_allowed all (Between least most) n = is_between least most n
is_allowed all (PowerOfTwo most) n = is_between 1 most n && is_power_of_two n
is_allowed all (MultipleOf step most) n = nat_le n most && is_multiple n step
is_allowed all (AtMostNumber i) n = nat_le n (number_or n (slice_get all i))

-- The same of each number, in order. What the layer above gives to a word in place of numbers is the first argument.
abbrev pub are_allowed : (given : Option ℕ) → (all : List Head) → List Allowed → List Head → List Bool
are_allowed given all (a ∷ more) (Number n ∷ hs) = is_allowed all a n ∷ are_allowed given all more hs
are_allowed given all allowed hs = []

-- whether each number of a word keeps its range
abbrev pub keeps_ranges : Name → (given : Option ℕ) → List Head → List Bool
keeps_ranges k given hs = are_allowed given hs (profile_of k).allowed hs

-- what a layer gives to a word in place of numbers directly below it: no layer gives anything yet
abbrev pub gives : Name → List Head → Option ℕ
gives k hs = None

-- ---- all else goes by the arguments

-- the number of which each block's place is a multiple
abbrev mutual
  pub alignment : Tree → ℕ
  alignment (leaf at k) = word_alignment k [] 0
  alignment (node at k args) = word_alignment k (heads args) (least_alignment args)

  -- the least alignment of the layers
  pub least_alignment : Args → ℕ
  least_alignment (last e) = alignment e
  least_alignment (number n args) = least_alignment args
  least_alignment (choice c args) = least_alignment args
  least_alignment (layer e args) = min (alignment e) (least_alignment args)

-- the place of the first layer
abbrev pub first_place : Args → ℕ
first_place (last e) = place_of e
first_place (number n args) = first_place args
first_place (choice c args) = first_place args
first_place (layer e args) = place_of e

-- where the tokens of a row begin
abbrev pub starts : List Placed → List ℕ
starts row = map (λ t. t.at) row

-- the first of some places, and 0 where there is none
abbrev pub first_of : List ℕ → ℕ
first_of [] = 0
first_of (p ∷ ps) = p

-- how many tokens spell the tree
abbrev mutual
  pub size : Tree → ℕ
  size (leaf at k) = 1
  size (node at k args) = size_in args + 2

  -- how many tokens spell the arguments, with the parenthesis that closes
  pub size_in : Args → ℕ
  size_in (last e) = size e + 1
  size_in (number n args) = size_in args + 2
  size_in (choice c args) = size_in args + 2
  size_in (layer e args) = size e + 1 + size_in args

-- the places of the numbers, and of the words in their place, among those of the tokens that spell the arguments
abbrev pub head_places : Args → List ℕ → List ℕ
head_places (last e) ps = []
head_places (number n args) ps = first_of ps ∷ head_places args (drop 2 ps)
head_places (choice c args) ps = first_of ps ∷ head_places args (drop 2 ps)
head_places (layer e args) ps = head_places args (drop (size e + 1) ps)

-- this fault, where the rule is broken
abbrev pub unless : Bool → ExprFault → Option ExprFault
unless is_kept f = if is_kept then None else Some f

-- a fault that there may be, before others
abbrev pub with_first : Option ExprFault → List ExprFault → List ExprFault
with_first None fs = fs
with_first (Some f) fs = f ∷ fs

-- the faults of the rules that are broken, each at its place
abbrev pub broken : List Bool → List ℕ → List ExprFault
broken [] ps = []
broken (is_kept ∷ more) ps = with_first (unless is_kept (BadParameter (first_of ps))) (broken more (drop 1 ps))

-- the flaws of a layer itself
abbrev pub layer_flaws : (given : Option ℕ) → Name → Args → List ℕ → List ExprFault
layer_flaws given k args ps =
    with_first (unless (nat_le (needs k (heads args)) (least_alignment args)) (NeedsAlignment (first_place args)))
    (broken (keeps_ranges k given (heads args)) (head_places args ps))

-- The flaws of a tree whose tokens begin at these places, the first of them, below a layer that gives this.
abbrev mutual
  pub flaws : (given : Option ℕ) → Tree → List ℕ → List ExprFault
  flaws given (leaf at k) ps = []
  flaws given (node at k args) ps = layer_flaws given k args (drop 2 ps) ++ flaws_in (gives k (heads args)) args (drop 2 ps)

  -- the flaws of the layers of some arguments, whose tokens begin at these places
  pub flaws_in : (given : Option ℕ) → Args → List ℕ → List ExprFault
  flaws_in given (last e) ps = flaws given e ps
  flaws_in given (number n args) ps = flaws_in given args (drop 2 ps)
  flaws_in given (choice c args) ps = flaws_in given args (drop 2 ps)
  flaws_in given (layer e args) ps = flaws given e ps ++ flaws_in given args (drop (size e + 1) ps)

-- the place of a fault
abbrev pub fault_place : ExprFault → ℕ
fault_place (Syntax at) = at
fault_place (NumberTooLarge at) = at
fault_place (TooDeep at) = at
fault_place (BadParameter at) = at
fault_place (NeedsAlignment at) = at
fault_place NoMemory = 0

-- the order of flaws at one place
abbrev pub fault_rank : ExprFault → ℕ
fault_rank (Syntax at) = 0
fault_rank (NumberTooLarge at) = 1
fault_rank (TooDeep at) = 2
fault_rank (BadParameter at) = 3
fault_rank (NeedsAlignment at) = 4
fault_rank NoMemory = 5

-- whether g is told in place of f: it stands before it, or at its place and first in that order
abbrev pub goes_before : (g f : ExprFault) → Bool
goes_before g f =
    if fault_place g == fault_place f then nat_lt (fault_rank g) (fault_rank f)
    else nat_lt (fault_place g) (fault_place f)

-- the one that is told of two faults that there may be
abbrev pub first_of_two : (f g : Option ExprFault) → Option ExprFault
first_of_two None g = g
first_of_two (Some f) None = Some f
first_of_two (Some f) (Some g) = if goes_before g f then Some g else Some f

-- the one that is told of all
abbrev pub first_told : List ExprFault → Option ExprFault
first_told [] = None
first_told (f ∷ fs) = first_of_two (Some f) (first_told fs)

-- What each word takes, and how a signature goes on behind what has come.
use Rattle.std.specs.Prelude.{ℕ, zero, suc, Bool, true, false, if◌then◌else◌, Option, Some, None}
use Rattle.expr_reader.specs.declared.token.Name.{Name}
use Rattle.expr_reader.specs.declared.token.Choice.{Choice}
use Rattle.expr_reader.specs.declared.token.Choice.TheVariants.{Any, Pow2}
use Rattle.expr_reader.specs.declared.signature.Signature.{Signature}
use Rattle.expr_reader.specs.declared.signature.Entry.{Entry}
use Rattle.expr_reader.specs.declared.signature.Entry.TheVariants.{Missing, Alone, Takes}
use Rattle.expr_reader.specs.Table.{profile_of}

-- what is written behind a name, by the table
abbrev pub takes : Name → Entry
takes k = (profile_of k).entry

-- what stands between the parentheses, where some may
abbrev pub inner : Entry → Option Signature
inner Missing = None
inner Alone = None
inner (Takes g) = Some g

-- what is to come, where no word may stand in place of the numbers any more
abbrev pub left : (numbers layers : ℕ) → Bool → Option Signature
left numbers layers pairs = Some (record { choice = None; numbers = numbers; layers = layers; pairs = pairs })

-- what is to come behind a number: fewer numbers, or a layer where a further pair may come
abbrev pub behind_number : (numbers layers : ℕ) → Bool → Option Signature
behind_number (suc n) layers pairs = left n layers pairs
behind_number zero zero true = left 0 1 true
behind_number zero zero false = None
behind_number zero (suc l) pairs = None

-- what is to come behind a number and its comma
abbrev pub after_number : Option Signature → Option Signature
after_number None = None
after_number (Some g) = behind_number g.numbers g.layers g.pairs

-- one word in place of numbers
abbrev pub same_choice : Choice → Choice → Bool
same_choice Any Any = true
same_choice Any Pow2 = false
same_choice Pow2 Any = false
same_choice Pow2 Pow2 = true

-- what is to come behind this word, where that one may stand
abbrev pub behind_choice : Option Choice → Choice → (layers : ℕ) → Bool → Option Signature
behind_choice None c layers pairs = None
behind_choice (Some d) c layers pairs = if same_choice d c then left 0 layers pairs else None

-- what is to come behind a word in place of numbers and its comma
abbrev pub after_choice : Choice → Option Signature → Option Signature
after_choice c None = None
after_choice c (Some g) = behind_choice g.choice c g.layers g.pairs

-- what is to come behind a layer that is not the last
abbrev pub behind_layer : (numbers layers : ℕ) → Bool → Option Signature
behind_layer (suc n) layers pairs = None
behind_layer zero zero pairs = None
behind_layer zero (suc l) pairs = left 0 l pairs

-- what is to come behind a layer and its comma
abbrev pub after_layer : Option Signature → Option Signature
after_layer None = None
after_layer (Some g) = behind_layer g.numbers g.layers g.pairs

-- no number and no layer but the last is to come
abbrev pub no_more : (numbers layers : ℕ) → Bool
no_more zero zero = true
no_more zero (suc l) = false
no_more (suc n) layers = false

-- only the last layer is to come
abbrev pub ends : Option Signature → Bool
ends None = false
ends (Some g) = no_more g.numbers g.layers

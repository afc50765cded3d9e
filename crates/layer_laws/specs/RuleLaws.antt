-- Laws of single calls, over any rules of which a family of laws holds.
use Rattle.std.specs.Prelude.{ℕ, ◌≡◌, List, Ok}
use Rattle.space_core.specs.Cells.{Cells}
use Rattle.layer_rules.specs.declared.Block.{Block}
use Rattle.layer_rules.specs.After.{Opened}
use Rattle.layer_rules.specs.Fields.{Fields}
use Rattle.layer_rules.specs.Rules.{Rules, HasNoCells, owns_along, without_leaves}
use Rattle.layer_rules.specs.State.{State, closed, child, with_child}
use Rattle.layer_rules.specs.Unread.{unread}
use Rattle.layer_laws.specs.Lawful.{ReadingLaws, TakingLaws}

-- ---- what was set up is undone

-- what was set up is gone when it is torn down
abbrev pub OpenedTornDown : Type 0
OpenedTornDown =
    (e : Rules) (need : ℕ) (cells : Cells) (o : Opened) → TakingLaws e → HasNoCells e cells → e.set_up need cells ≡ Ok o → without_leaves e o.cells ≡ cells

-- and so after a request was asked of it, granted or refused
abbrev pub AskedTornDown : Type 0
AskedTornDown =
    (e : Rules) (need n : ℕ) (cells : Cells) (o : Opened) → TakingLaws e → HasNoCells e cells → e.set_up need cells ≡ Ok o
    → without_leaves e (e.allocate n o.state o.cells).cells ≡ cells

-- the same at a multiple of a
abbrev pub AskedAtTornDown : Type 0
AskedAtTornDown =
    (e : Rules) (need n a : ℕ) (cells : Cells) (o : Opened) → TakingLaws e → HasNoCells e cells → e.set_up need cells ≡ Ok o
    → without_leaves e (e.aligned_allocate n a o.state o.cells).cells ≡ cells

-- where a child that was closed is closed again, the state is as before
abbrev pub ClosedAgain : Type 0
ClosedAgain = (s : State) (i : ℕ) (t : State) → child s i ≡ closed → with_child (with_child s i t) i closed ≡ s

-- ---- what is told of a block without the bytes of the Space

-- whether it is held
abbrev pub HoldsReadsNoBytes : Type 0
HoldsReadsNoBytes = (e : Rules) (b : Block) (fs : Fields) (x y : List ℕ) → ReadingLaws e → e.holds b (e.read fs x) ≡ e.holds b (e.read fs y)

-- the way to the layer that serves it
abbrev pub RouteReadsNoBytes : Type 0
RouteReadsNoBytes = (e : Rules) (b : Block) (fs : Fields) (x y : List ℕ) → ReadingLaws e → e.route b (e.read fs x) ≡ e.route b (e.read fs y)

-- whether each layer on that way can name it
abbrev pub RoutedReadsNoBytes : Type 0
RoutedReadsNoBytes = (e : Rules) (b : Block) (fs : Fields) (x y : List ℕ) → ReadingLaws e → e.is_routed b (e.read fs x) ≡ e.is_routed b (e.read fs y)

-- the bytes that it takes up there
abbrev pub ExtentReadsNoBytes : Type 0
ExtentReadsNoBytes = (e : Rules) (b : Block) (fs : Fields) (x y : List ℕ) → ReadingLaws e → e.extent b (e.read fs x) ≡ e.extent b (e.read fs y)

-- who owns it, along a path
abbrev pub AskedAlongReadsNoBytes : Type 0
AskedAlongReadsNoBytes =
    (e : Rules) (path : List ℕ) (b : Block) (fs : Fields) (x y : List ℕ) → ReadingLaws e
    → owns_along e path b (e.read fs x) ≡ owns_along e path b (e.read fs y)

-- whether it is owned
abbrev pub OwnsReadsNoBytes : Type 0
OwnsReadsNoBytes = (e : Rules) (b : Block) (fs : Fields) (x y : List ℕ) → ReadingLaws e → (e.owns b (e.read fs x)).owned ≡ (e.owns b (e.read fs y)).owned

-- all that `owns` changes, orders and statistics, and all else that is not read from the bytes
abbrev pub OwnsChangesByNoBytes : Type 0
OwnsChangesByNoBytes =
    (e : Rules) (b : Block) (fs : Fields) (x y : List ℕ) → ReadingLaws e
    → unread (e.owns b (e.read fs x)).state ≡ unread (e.owns b (e.read fs y)).state

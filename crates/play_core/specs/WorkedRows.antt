-- Worked rows: some words and inputs, and what they are told.
use Rattle.std.specs.Prelude.{ℕ, ◌≡◌, List, [], ◌∷◌, ◌++◌, codes}
use Rattle.std.specs.List.{flat_map}
use Rattle.play_core.specs.declared.Status.{Status}
use Rattle.play_core.specs.declared.Status.TheVariants.{Good, Usage, Expression, Trace, OpeningRefused}
use Rattle.play_core.specs.Asked.{Asked, Asks}
use Rattle.play_core.specs.Told.{text_of}
use Rattle.play_core.specs.Telling.{Telling, Only, Plays, status_of, telling}

-- the whole text
abbrev pub telling_text : Telling → List ℕ
telling_text (Only status text) = text
telling_text (Plays root all) = text_of all.pieces

-- lines, each with its newline
abbrev pub lines : List (List ℕ) → List ℕ
lines all = flat_map (λ line. line ++ 10 ∷ []) all

-- the words are told this on these lines
pub record AreTold (words : List (List ℕ)) (trace : List (List ℕ)) (status : Status) (text : List (List ℕ)) : Type 0 where
  pub asked : Asked
  pub asks : Asks words asked
  pub ends : status_of (telling asked (lines trace)) ≡ status
  pub says : telling_text (telling asked (lines trace)) ≡ lines text

-- `replay` over so many cells, and `check`
abbrev pub Tells : (expression cells : List ℕ) (trace : List (List ℕ)) (status : Status) (text : List (List ℕ)) → Type 0
Tells expression cells trace status text = AreTold (codes "replay" ∷ expression ∷ cells ∷ []) trace status text

abbrev pub Shows : (expression : List ℕ) (status : Status) (text : List (List ℕ)) → Type 0
Shows expression status text = AreTold (codes "check" ∷ expression ∷ []) [] status text

-- a region takes back its last block alone
abbrev pub FirstTrace : Type 0
FirstTrace =
    Tells (codes "region(1024,16,mem)") (codes "64") (codes "a 1 100" ∷ codes "a 2 1" ∷ codes "f 1" ∷ codes "f 2" ∷ codes "a 3 16" ∷ []) Good
    (codes "a 1 0" ∷ codes "a 2 112" ∷ codes "f 1 false" ∷ codes "f 2 true" ∷ codes "a 3 112" ∷ codes "live 1" ∷ codes "asked 16" ∷ codes "extent 16" ∷ codes "slack 0"
    ∷ codes "node 0 region room 896 longest 896" ∷ codes "node 1 mem cells 16" ∷ [])

-- an empty trace gets the report alone
abbrev pub EmptyTrace : Type 0
EmptyTrace =
    Tells (codes "region(1024,16,mem)") (codes "64") [] Good
    (codes "live 0" ∷ codes "asked 0" ∷ codes "extent 0" ∷ codes "slack 0" ∷ codes "node 0 region room 1024 longest 1024" ∷ codes "node 1 mem cells 16" ∷ [])

-- 0 bytes get no block, and the name isn't live
abbrev pub NoBytes : Type 0
NoBytes =
    Tells (codes "region(1024,16,mem)") (codes "64") (codes "a 1 0" ∷ codes "f 1" ∷ []) Trace
    (codes "a 1 null" ∷ codes "line 2: name is not live" ∷ [])

-- a full region refuses
abbrev pub FullRegion : Type 0
FullRegion =
    Tells (codes "region(1024,16,mem)") (codes "64") (codes "a 1 1024" ∷ codes "a 2 1" ∷ []) Good
    (codes "a 1 0" ∷ codes "a 2 null" ∷ codes "live 1" ∷ codes "asked 1024" ∷ codes "extent 1024" ∷ codes "slack 0" ∷ codes "node 0 region room 0 longest 0" ∷ codes "node 1 mem cells 16" ∷ [])

-- cells serve in any order, and take each block back
abbrev pub CellsAlone : Type 0
CellsAlone =
    Tells (codes "mem") (codes "4") (codes "a 1 100" ∷ codes "a 2 64" ∷ codes "f 1" ∷ codes "a 3 1" ∷ codes "a 4 129" ∷ []) Good
    (codes "a 1 0" ∷ codes "a 2 128" ∷ codes "f 1 true" ∷ codes "a 3 0" ∷ codes "a 4 null" ∷ codes "live 2" ∷ codes "asked 65" ∷ codes "extent 128" ∷ codes "slack 63" ∷ codes "node 0 mem cells 2" ∷ [])

-- a region is opened within the chunk of the region below it
abbrev pub RegionOverRegion : Type 0
RegionOverRegion =
    Tells (codes "region(100, 8, region(1000, 16, mem))") (codes "64") (codes "a 1 5" ∷ []) Good
    (codes "a 1 0" ∷ codes "live 1" ∷ codes "asked 5" ∷ codes "extent 8" ∷ codes "slack 3" ∷ codes "node 0 region room 96 longest 96" ∷ codes "node 1 region room 896 longest 896" ∷ codes "node 2 mem cells 16" ∷ [])

-- a region that is longer than what stands below it isn't opened
abbrev pub OpeningTooLong : Type 0
OpeningTooLong = Tells (codes "region(8192,16,mem)") (codes "64") [] OpeningRefused (codes "opening refused at node 0" ∷ [])

abbrev pub OpeningOfTheOuter : Type 0
OpeningOfTheOuter = Tells (codes "region(1024,16,region(64,16,mem))") (codes "64") [] OpeningRefused (codes "opening refused at node 0" ∷ [])

abbrev pub OpeningOfTheInner : Type 0
OpeningOfTheInner = Tells (codes "region(64,16,region(8192,16,mem))") (codes "64") [] OpeningRefused (codes "opening refused at node 1" ∷ [])

-- an expression with a fault
abbrev pub ExpressionFault : Type 0
ExpressionFault = Tells (codes "region(64,16)") (codes "64") [] Expression (codes "expression: syntax at 12" ∷ [])

-- no cells, asked before the expression is looked at
abbrev pub NoCells : Type 0
NoCells = Tells (codes "mem") (codes "0") [] Usage (codes "usage: heaplay check EXPR" ∷ codes "       heaplay replay EXPR CELLS" ∷ [])

-- what stands in an expression
abbrev pub CheckRegion : Type 0
CheckRegion =
    Shows (codes "region(1024, 16, mem)") Good
    (codes "region(1024,16,mem)" ∷ codes "nodes 2" ∷ codes "align 16" ∷ codes "offers owns expand aligned all" ∷ [])

abbrev pub CheckCells : Type 0
CheckCells = Shows (codes "mem") Good (codes "mem" ∷ codes "nodes 1" ∷ codes "align 64" ∷ codes "offers expand aligned all" ∷ [])

-- a number of 2^64, and a parent with too little alignment
abbrev pub CheckTooLarge : Type 0
CheckTooLarge = Shows (codes "region(18446744073709551616,16,mem)") Expression (codes "expression: number too large at 7" ∷ [])

abbrev pub CheckAlignment : Type 0
CheckAlignment = Shows (codes "region(64,128,mem)") Expression (codes "expression: needs alignment at 14" ∷ [])

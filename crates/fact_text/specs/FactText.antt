-- Fact text: the lines that tell what each node of a composition says of itself.
use Rattle.std.specs.Prelude.{ℕ, ◌+◌, List, [], ◌∷◌, ◌++◌, Option, Some, None, nat_eq, codes, if◌then◌else◌}
use Rattle.std.specs.Fmt.{decimal}
use Rattle.std.specs.List.{flat_map}
use Rattle.layer_rules.specs.declared.Fact.{Fact}
use Rattle.layer_rules.specs.declared.Stats.{Stats}
use Rattle.layer_rules.specs.Fields.{stats_numbers}
use Rattle.layer_rules.specs.declared.Fact.TheVariants as said

-- a node, and what it is
abbrev pub node_words : (node : ℕ) (words : List ℕ) → List ℕ
node_words node words = codes "node " ++ decimal node ++ 32 ∷ words

-- a layer with a chunk: how many bytes of it are free, and in the longest run of free ones
abbrev pub room_line : (node : ℕ) (word : List ℕ) (room longest : ℕ) → List ℕ
room_line node word room longest = node_words node word ++ codes " room " ++ decimal room ++ codes " longest " ++ decimal longest ++ 10 ∷ []

-- how many there are, where there are any
abbrev pub count_line : (node : ℕ) (words : List ℕ) (count : ℕ) → Option (List ℕ)
count_line node words count = if nat_eq count 0 then None else Some (node_words node words ++ 32 ∷ decimal count ++ 10 ∷ [])

-- numbers with a space before each
abbrev pub spaced : (numbers : List ℕ) → List ℕ
spaced numbers = flat_map (λ number. 32 ∷ decimal number) numbers

-- a statistics layer: its counters
abbrev pub stats_line : (node : ℕ) → Stats → List ℕ
stats_line node stats = node_words node (codes "stats") ++ spaced (stats_numbers stats) ++ 10 ∷ []

-- the line of a node, counted in preorder from the root as 0, where it has one
abbrev pub fact_line : (node : ℕ) → Fact → Option (List ℕ)
fact_line node (said.Cells count) = count_line node (codes "mem cells") count
fact_line node (said.Region room) = Some (room_line node (codes "region") room room)
fact_line node (said.Bitmap room longest) = Some (room_line node (codes "bitmap") room longest)
fact_line node (said.Kr room longest) = Some (room_line node (codes "kr") room longest)
fact_line node (said.Cached count) = count_line node (codes "freelist cached") count
fact_line node (said.Members count) = count_line node (codes "list open") count
fact_line node (said.Counters stats) = Some (stats_line node stats)
fact_line node _ = None

-- a line before these, where there is one
abbrev pub and_lines : Option (List ℕ) → List (List ℕ) → List (List ℕ)
and_lines None lines = lines
and_lines (Some line) lines = line ∷ lines

-- the lines of these facts, the first of which is that of this node
abbrev pub node_lines : (node : ℕ) → List Fact → List (List ℕ)
node_lines node [] = []
node_lines node (fact ∷ facts) = and_lines (fact_line node fact) (node_lines (node + 1) facts)

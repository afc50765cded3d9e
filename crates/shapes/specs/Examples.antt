-- Worked examples: what a replay of calls answers, its totals (live blocks, bytes asked, bytes taken up) and the fact of each node.
use Rattle.std.specs.Prelude.{◌≡◌, ℕ, List, [], ◌∷◌, ◌++◌, true, false, Err, map, replicate}
use Rattle.std.specs.Int.{to_le_bytes, w64}
use Rattle.layer_rules.specs.declared.Asked.TheVariants as Ans
use Rattle.layer_rules.specs.declared.Fact.TheVariants as Said
use Rattle.size_round.specs.Sizes.{power_of_two}
use Rattle.layer_rules.specs.Blocks.{block}
use Rattle.layer_rules.specs.Fields.{Fields, open_fields, kept_nothing, kept_region, kept_bitmap, kept_kr, kept_cache, no_fields, one_field, chain_end}
use Rattle.layer_rules.specs.State.{State, list_mode, units_of}
use Rattle.bitmap_rules.specs.BitmapRules.{bits_number}
use Rattle.kr_rules.specs.KrRules.{holes_of}
use Rattle.shapes.specs.Replay.{Call, at, none, said, asked, size, done, replay, empty_table, state_after, answers_and_totals}
use Rattle.shapes.specs.RulesOf.{rules_of}
use Rattle.shapes.specs.Shape.{Shape, null, mem, region, bitmap, kr, freelist, quantize, stats, affix, segregate, buckets, fallback, list, members}

-- a region takes back its last block alone
abbrev pub RegionKeepsTheLast : Type 0
RegionKeepsTheLast =
    replay (rules_of (region 1024 16 (mem 1))) 64 (Call.allocate 1 100 ∷ Call.allocate 2 1 ∷ Call.deallocate 1 ∷ Call.deallocate 2 ∷ Call.allocate 3 16 ∷ [])
    ≡ ((at 0 ∷ at 112 ∷ said false ∷ said true ∷ at 112 ∷ []), (1 ∷ 16 ∷ 16 ∷ []), (Said.Region 896 ∷ Said.Cells 16 ∷ []))

-- a region is as long as it was made for
abbrev pub RegionUntouched : Type 0
RegionUntouched =
    replay (rules_of (region 1024 16 (mem 1))) 64 []
    ≡ ([], (0 ∷ 0 ∷ 0 ∷ []), (Said.Region 1024 ∷ Said.Cells 16 ∷ []))

-- a full region refuses
abbrev pub RegionFull : Type 0
RegionFull =
    replay (rules_of (region 1024 16 (mem 1))) 64 (Call.allocate 1 1024 ∷ Call.allocate 2 1 ∷ [])
    ≡ ((at 0 ∷ none ∷ []), (1 ∷ 1024 ∷ 1024 ∷ []), (Said.Region 0 ∷ Said.Cells 16 ∷ []))

-- the last block of a region grows up to the chunk's end
abbrev pub RegionExpand : Type 0
RegionExpand =
    replay (rules_of (region 1024 16 (mem 1))) 64 (Call.allocate 1 1000 ∷ Call.expand 1 24 ∷ Call.expand 1 1 ∷ [])
    ≡ ((at 0 ∷ said true ∷ said false ∷ []), (1 ∷ 1024 ∷ 1024 ∷ []), (Said.Region 0 ∷ Said.Cells 16 ∷ []))

-- a bitmap serves the least run of free units
abbrev pub BitmapFirstFit : Type 0
BitmapFirstFit =
    replay (rules_of (bitmap 32 8 (mem 1))) 64 (Call.allocate 1 32 ∷ Call.allocate 2 32 ∷ Call.allocate 3 32 ∷ Call.allocate 4 32 ∷ Call.allocate 5 32 ∷ Call.allocate 6 32 ∷ Call.allocate 7 32 ∷ Call.allocate 8 32 ∷ Call.deallocate 3 ∷ Call.deallocate 5 ∷ Call.allocate 9 64 ∷ Call.deallocate 4 ∷ Call.allocate 10 64 ∷ [])
    ≡ ((at 16 ∷ at 48 ∷ at 80 ∷ at 112 ∷ at 144 ∷ at 176 ∷ at 208 ∷ at 240 ∷ said true ∷ said true ∷ none ∷ said true ∷ at 80 ∷ []), (6 ∷ 224 ∷ 224 ∷ []), (Said.Bitmap 32 32 ∷ Said.Cells 5 ∷ []))

-- a free list serves the block that was given back last
abbrev pub FreelistFront : Type 0
FreelistFront =
    replay (rules_of (freelist 16 64 (region 256 16 (mem 1)))) 64 (Call.allocate 1 20 ∷ Call.deallocate 1 ∷ Call.allocate 2 60 ∷ Call.deallocate 2 ∷ [])
    ≡ ((at 0 ∷ said true ∷ at 0 ∷ said true ∷ []), (0 ∷ 0 ∷ 0 ∷ []), (Said.Cached 1 ∷ Said.Region 192 ∷ Said.Cells 4 ∷ []))

-- a block that grew out of the range goes to the parent
abbrev pub FreelistGrowsPast : Type 0
FreelistGrowsPast =
    replay (rules_of (freelist 16 64 (region 256 16 (mem 1)))) 64 (Call.allocate 1 60 ∷ Call.expand 1 10 ∷ Call.deallocate 1 ∷ Call.allocate 2 200 ∷ [])
    ≡ ((at 0 ∷ said true ∷ said true ∷ at 0 ∷ []), (1 ∷ 200 ∷ 208 ∷ []), (Said.Cached 0 ∷ Said.Region 48 ∷ Said.Cells 4 ∷ []))

-- a rounded block grows within its length at no cost
abbrev pub QuantizePowers : Type 0
QuantizePowers =
    replay (rules_of (quantize power_of_two (mem 1))) 64 (Call.allocate 1 100 ∷ Call.expand 1 28 ∷ Call.expand 1 1 ∷ Call.reallocate 1 140 ∷ [])
    ≡ ((at 0 ∷ said true ∷ said true ∷ at 0 ∷ []), (1 ∷ 140 ∷ 256 ∷ []), (Said.Plain ∷ Said.Cells 4 ∷ []))

-- a block that outgrows its member's lengths moves to the other member
abbrev pub SegregateMoves : Type 0
SegregateMoves =
    replay (rules_of (segregate (64 ∷ []) (members (region 256 16 (mem 1) ∷ mem 2 ∷ [])))) 64 (Call.allocate 1 64 ∷ Call.allocate 2 65 ∷ Call.expand 1 1 ∷ Call.reallocate 1 100 ∷ [])
    ≡ ((at 0 ∷ at 256 ∷ said false ∷ at 384 ∷ []), (2 ∷ 165 ∷ 256 ∷ []), (Said.Plain ∷ Said.Region 256 ∷ Said.Cells 4 ∷ Said.Cells 4 ∷ []))

-- each length has its bucket, and one out of range is refused
abbrev pub BucketsBySize : Type 0
BucketsBySize =
    replay (rules_of (buckets 1 128 16 (members (freelist 16 16 (mem 1) ∷ freelist 32 32 (mem 2) ∷ freelist 48 48 (mem 3) ∷ freelist 64 64 (mem 4) ∷ freelist 80 80 (mem 5) ∷ freelist 96 96 (mem 6) ∷ freelist 112 112 (mem 7) ∷ freelist 128 128 (mem 8) ∷ [])))) 64 (Call.allocate 1 16 ∷ Call.allocate 2 17 ∷ Call.allocate 3 128 ∷ Call.allocate 4 129 ∷ Call.good_alloc_size 17 ∷ Call.good_alloc_size 129 ∷ [])
    ≡ ((at 0 ∷ at 64 ∷ at 128 ∷ none ∷ size 32 ∷ size 129 ∷ []), (3 ∷ 161 ∷ 256 ∷ []), (Said.Plain ∷ Said.Cached 0 ∷ Said.Cells 1 ∷ Said.Cached 0 ∷ Said.Cells 1 ∷ Said.Cached 0 ∷ Said.Cells 0 ∷ Said.Cached 0 ∷ Said.Cells 0 ∷ Said.Cached 0 ∷ Said.Cells 0 ∷ Said.Cached 0 ∷ Said.Cells 0 ∷ Said.Cached 0 ∷ Said.Cells 0 ∷ Said.Cached 0 ∷ Said.Cells 2 ∷ []))

-- the second serves what the primary has no room for, and each owns its blocks
abbrev pub FallbackRoutes : Type 0
FallbackRoutes =
    replay (rules_of (fallback (region 64 16 (mem 1)) (bitmap 16 4 (mem 2)))) 64 (Call.allocate 1 16 ∷ Call.allocate 2 16 ∷ Call.allocate 3 16 ∷ Call.allocate 4 16 ∷ Call.allocate 5 16 ∷ Call.allocate 6 16 ∷ Call.allocate 7 16 ∷ Call.allocate 8 16 ∷ Call.allocate 9 16 ∷ Call.owns_at 1 (0 ∷ []) ∷ Call.owns_at 5 (0 ∷ []) ∷ Call.owns_at 5 (1 ∷ []) ∷ Call.owns 5 ∷ Call.owns_at 1 (0 ∷ 0 ∷ []) ∷ Call.owns_at 1 (2 ∷ []) ∷ [])
    ≡ ((at 0 ∷ at 16 ∷ at 32 ∷ at 48 ∷ at 80 ∷ at 96 ∷ at 112 ∷ at 128 ∷ none ∷ asked Ans.Yes ∷ asked Ans.No ∷ asked Ans.Yes ∷ said true ∷ asked Ans.NotServing ∷ asked Ans.NoSuchLayer ∷ []), (8 ∷ 128 ∷ 128 ∷ []), (Said.Plain ∷ Said.Region 0 ∷ Said.Cells 1 ∷ Said.Bitmap 0 0 ∷ Said.Cells 2 ∷ []))

-- a block begins behind its prefix
abbrev pub AffixPlaces : Type 0
AffixPlaces =
    replay (rules_of (affix 8 8 (region 1024 16 (mem 1)))) 64 (Call.allocate 1 20 ∷ Call.expand 1 10 ∷ [])
    ≡ ((at 8 ∷ said true ∷ []), (1 ∷ 30 ∷ 48 ∷ []), (Said.Plain ∷ Said.Region 976 ∷ Said.Cells 16 ∷ []))

-- a kr serves its tail and then the least run of free units
abbrev pub KrHoles : Type 0
KrHoles =
    replay (rules_of (kr 128 (mem 1))) 64 (Call.allocate 1 16 ∷ Call.allocate 2 16 ∷ Call.allocate 3 16 ∷ Call.allocate 4 16 ∷ Call.allocate 5 16 ∷ Call.allocate 6 16 ∷ Call.allocate 7 16 ∷ Call.allocate 8 16 ∷ Call.deallocate 2 ∷ Call.deallocate 4 ∷ Call.deallocate 6 ∷ Call.deallocate 8 ∷ Call.allocate 9 32 ∷ Call.deallocate 3 ∷ Call.allocate 10 32 ∷ [])
    ≡ ((at 0 ∷ at 16 ∷ at 32 ∷ at 48 ∷ at 64 ∷ at 80 ∷ at 96 ∷ at 112 ∷ said true ∷ said true ∷ said true ∷ said true ∷ none ∷ said true ∷ at 16 ∷ []), (4 ∷ 80 ∷ 80 ∷ []), (Said.Kr 48 16 ∷ Said.Cells 2 ∷ []))

-- a list opens its members one by one, each as long as is asked
abbrev pub ListOpensMembers : Type 0
ListOpensMembers =
    replay (rules_of (list (members (region 128 16 (mem 1) ∷ region 128 16 (mem 2) ∷ [])))) 64 (Call.allocate 1 200 ∷ Call.allocate 2 100 ∷ Call.allocate 3 100 ∷ [])
    ≡ ((at 0 ∷ at 256 ∷ none ∷ []), (2 ∷ 300 ∷ 320 ∷ []), (Said.Members 2 ∷ Said.Region 0 ∷ Said.Cells 4 ∷ Said.Region 16 ∷ Said.Cells 2 ∷ []))

-- a failed reallocation counts as one reallocation alone
abbrev pub StatsOfAFailedMove : Type 0
StatsOfAFailedMove =
    replay (rules_of (stats (bitmap 16 2 (mem 1)))) 64 (Call.allocate 1 32 ∷ Call.reallocate 1 33 ∷ [])
    ≡ ((at 16 ∷ said false ∷ []), (1 ∷ 32 ∷ 32 ∷ []), (Said.Counters (record { num_owns = 0; num_allocate = 1; num_allocate_ok = 1; num_expand = 0; num_expand_ok = 0; num_reallocate = 1; num_reallocate_ok = 0; num_reallocate_in_place = 0; num_deallocate = 0; num_deallocate_all = 0; bytes_used = 32; bytes_allocated = 32; bytes_moved = 0; bytes_slack = 0; bytes_high_tide = 32 }) ∷ Said.Bitmap 0 0 ∷ Said.Cells 1 ∷ []))

-- an aligned block of a bitmap takes the units that it touches
abbrev pub BitmapAligned : Type 0
BitmapAligned =
    replay (rules_of (bitmap 32 8 (mem 1))) 64 (Call.aligned_allocate 1 32 64 ∷ Call.allocate 2 32 ∷ Call.allocate 3 32 ∷ Call.deallocate 1 ∷ Call.allocate 4 64 ∷ [])
    ≡ ((at 64 ∷ at 16 ∷ at 112 ∷ said true ∷ at 48 ∷ []), (3 ∷ 128 ∷ 128 ∷ []), (Said.Bitmap 128 128 ∷ Said.Cells 5 ∷ []))

-- a list has none of a member's cells once all is given back
abbrev pub ListClosesWhatRefused : Type 0
ListClosesWhatRefused =
    replay (rules_of (list (members (region 128 16 (mem 1) ∷ region 128 16 (mem 2) ∷ region 128 16 (mem 3) ∷ [])))) 4 (Call.allocate 1 100 ∷ Call.allocate 2 200 ∷ Call.allocate 3 100 ∷ Call.deallocate_all ∷ [])
    ≡ ((at 0 ∷ none ∷ at 128 ∷ done ∷ []), (0 ∷ 0 ∷ 0 ∷ []), (Said.Members 0 ∷ Said.Closed ∷ Said.Closed ∷ Said.Closed ∷ Said.Closed ∷ Said.Closed ∷ Said.Closed ∷ []))

-- a member that was opened and refused is closed again
abbrev pub ListFreshRefuses : Type 0
ListFreshRefuses =
    replay (rules_of (list (members (fallback null (region 64 16 (mem 1)) ∷ fallback null (region 64 16 (mem 2)) ∷ [])))) 4 (Call.allocate 1 100 ∷ [])
    ≡ ((none ∷ []), (0 ∷ 0 ∷ 0 ∷ []), (Said.Members 0 ∷ Said.Closed ∷ Said.Closed ∷ Said.Closed ∷ Said.Closed ∷ Said.Closed ∷ Said.Closed ∷ Said.Closed ∷ Said.Closed ∷ []))

-- the chunk of the outer region does not fit in the inner one
abbrev pub OpeningRefusedAtTheRoot : Type 0
OpeningRefusedAtTheRoot =
    (rules_of (region 1024 16 (region 64 16 (mem 1)))).set_up 0 (empty_table 64) ≡ Err 0

-- nor does the second member's chunk in the Space
abbrev pub OpeningRefusedAtTheSecond : Type 0
OpeningRefusedAtTheSecond =
    (rules_of (fallback (region 64 16 (mem 1)) (region 8192 16 (mem 2)))).set_up 0 (empty_table 64) ≡ Err 3

-- ---- a composition of 71 nodes

-- a general allocator: small lengths in buckets, middle ones in lists of bitmaps, the rest in cells
abbrev pub large_shape : Shape
large_shape = segregate (8 ∷ 128 ∷ 256 ∷ 512 ∷ 1024 ∷ 2048 ∷ 3584 ∷ 4169728 ∷ []) (members ((freelist 0 8 (mem 1)) ∷ (buckets 1 128 16 (members (freelist 16 16 (mem 2) ∷ freelist 32 32 (mem 3) ∷ freelist 48 48 (mem 4) ∷ freelist 64 64 (mem 5) ∷ freelist 80 80 (mem 6) ∷ freelist 96 96 (mem 7) ∷ freelist 112 112 (mem 8) ∷ freelist 128 128 (mem 9) ∷ []))) ∷ (buckets 129 256 32 (members (freelist 160 160 (mem 10) ∷ freelist 192 192 (mem 11) ∷ freelist 224 224 (mem 12) ∷ freelist 256 256 (mem 13) ∷ []))) ∷ (buckets 257 512 64 (members (freelist 320 320 (mem 14) ∷ freelist 384 384 (mem 15) ∷ freelist 448 448 (mem 16) ∷ freelist 512 512 (mem 17) ∷ []))) ∷ (buckets 513 1024 128 (members (freelist 640 640 (mem 18) ∷ freelist 768 768 (mem 19) ∷ freelist 896 896 (mem 20) ∷ freelist 1024 1024 (mem 21) ∷ []))) ∷ (buckets 1025 2048 256 (members (freelist 1280 1280 (mem 22) ∷ freelist 1536 1536 (mem 23) ∷ freelist 1792 1792 (mem 24) ∷ freelist 2048 2048 (mem 25) ∷ []))) ∷ (buckets 2049 3584 512 (members (freelist 2560 2560 (mem 26) ∷ freelist 3072 3072 (mem 27) ∷ freelist 3584 3584 (mem 28) ∷ []))) ∷ (list (members (bitmap 4096 1017 (mem 29) ∷ bitmap 4096 1017 (mem 30) ∷ bitmap 4096 1017 (mem 31) ∷ []))) ∷ (mem 32) ∷ []))

-- it has 71 nodes
abbrev pub LargeNodes : Type 0
LargeNodes = (rules_of large_shape).nodes ≡ 71

-- answers and totals of seven calls
abbrev pub LargeReplay : Type 0
LargeReplay =
    answers_and_totals (replay (rules_of large_shape) 262144 (Call.allocate 1 8 ∷ Call.allocate 2 100 ∷ Call.allocate 3 3584 ∷ Call.allocate 4 3585 ∷ Call.allocate 5 5242880 ∷ Call.deallocate 2 ∷ Call.allocate 6 97 ∷ []))
    ≡ ((at 0 ∷ at 64 ∷ at 192 ∷ at 3904 ∷ at 4169536 ∷ said true ∷ at 64 ∷ []), (5 ∷ 5250154 ∷ 5250752 ∷ []))

-- ---- what stands in the Space's bytes

-- an open leaf keeps nothing outside the Space
abbrev pub leaf_fields : Fields
leaf_fields = open_fields kept_nothing no_fields

-- so many bytes 0
abbrev pub zeros : ℕ → List ℕ
zeros n = replicate n 0

-- the image of the state that is read of fields and bytes
abbrev pub HasImage : Shape → Fields → (bytes : List ℕ) → Type 0
HasImage e fs bytes = (rules_of e).is_image fs ((rules_of e).read fs bytes) bytes ≡ true

-- a bitmap of eight units over a leaf
abbrev pub bitmap_shape : Shape
bitmap_shape = bitmap 32 8 (mem 1)

-- a bitmap of eight units, where all but the one with number 4 are taken
abbrev pub bitmap_state : State
bitmap_state =
    state_after (rules_of bitmap_shape) 64 (Call.allocate 1 32 ∷ Call.allocate 2 32 ∷ Call.allocate 3 32 ∷ Call.allocate 4 32 ∷ Call.allocate 5 32 ∷ Call.allocate 6 32 ∷ Call.allocate 7 32 ∷ Call.allocate 8 32 ∷ Call.deallocate 3 ∷ Call.deallocate 5 ∷ Call.allocate 9 64 ∷ Call.deallocate 4 ∷ Call.allocate 10 64 ∷ [])

-- as a number the units are 239
abbrev pub BitmapWord : Type 0
BitmapWord = bits_number (units_of bitmap_state) ≡ 239

-- its one word is the byte 239 and zeros behind it
abbrev pub bitmap_bytes : List ℕ
bitmap_bytes = 239 ∷ zeros 319

-- what the layers keep outside the Space
abbrev pub bitmap_fields : Fields
bitmap_fields = open_fields (kept_bitmap (block 0 272)) (one_field leaf_fields)

-- the state is read of these bytes
abbrev pub BitmapBytes : Type 0
BitmapBytes = (rules_of bitmap_shape).read bitmap_fields bitmap_bytes ≡ bitmap_state

-- they are the image of what is read
abbrev pub BitmapImage : Type 0
BitmapImage = HasImage bitmap_shape bitmap_fields bitmap_bytes

-- the bytes of the word are the bitmap's own, and neither those behind it nor its units are
abbrev pub BitmapOwnBytes : Type 0
BitmapOwnBytes = map ((rules_of bitmap_shape).is_meta bitmap_state) (0 ∷ 7 ∷ 8 ∷ 16 ∷ []) ≡ true ∷ true ∷ false ∷ false ∷ []

-- its taken units are occupied, and neither its word nor its free unit is
abbrev pub BitmapOccupied : Type 0
BitmapOccupied =
    map ((rules_of bitmap_shape).is_occupied bitmap_state (empty_table 0)) (15 ∷ 16 ∷ 143 ∷ 144 ∷ 175 ∷ 176 ∷ 271 ∷ 272 ∷ [])
    ≡ false ∷ true ∷ true ∷ false ∷ false ∷ true ∷ true ∷ false ∷ []

-- a free list with one cached block: the block's first word is the chain's end
abbrev pub chain_shape : Shape
chain_shape = freelist 16 64 (region 256 16 (mem 1))

-- what the layers keep outside the Space
abbrev pub chain_fields : Fields
chain_fields = open_fields (kept_cache 1 0) (one_field (open_fields (kept_region (block 0 256) 64) (one_field leaf_fields)))

-- the block's bytes and those behind it
abbrev pub chain_bytes : List ℕ
chain_bytes = to_le_bytes w64 chain_end ++ zeros 248

-- the state is read of these bytes
abbrev pub ChainBytes : Type 0
ChainBytes =
    (rules_of chain_shape).read chain_fields chain_bytes
    ≡ state_after (rules_of chain_shape) 64 (Call.allocate 1 20 ∷ Call.deallocate 1 ∷ Call.allocate 2 60 ∷ Call.deallocate 2 ∷ [])

-- they are the image of what is read
abbrev pub ChainImage : Type 0
ChainImage = HasImage chain_shape chain_fields chain_bytes

-- a kr over a leaf
abbrev pub kr_shape : Shape
kr_shape = kr 128 (mem 1)

-- a kr with three holes of one unit each
abbrev pub kr_state : State
kr_state =
    state_after (rules_of kr_shape) 64 (Call.allocate 1 16 ∷ Call.allocate 2 16 ∷ Call.allocate 3 16 ∷ Call.allocate 4 16 ∷ Call.allocate 5 16 ∷ Call.allocate 6 16 ∷ Call.allocate 7 16 ∷ Call.allocate 8 16 ∷ Call.deallocate 2 ∷ Call.deallocate 4 ∷ Call.deallocate 6 ∷ Call.deallocate 8 ∷ Call.allocate 9 32 ∷ Call.deallocate 3 ∷ Call.allocate 10 32 ∷ [])

-- they are the holes
abbrev pub KrHolePlaces : Type 0
KrHolePlaces = holes_of kr_state ≡ block 48 16 ∷ block 80 16 ∷ block 112 16 ∷ []

-- a hole's two words: its length and the place of the next one
abbrev pub hole_bytes : (len next : ℕ) → List ℕ
hole_bytes len next = to_le_bytes w64 len ++ to_le_bytes w64 next

-- what the layers keep outside the Space
abbrev pub kr_fields : Fields
kr_fields = open_fields (kept_kr (block 0 128) list_mode 128 48) (one_field leaf_fields)

-- the holes between blocks of zeros
abbrev pub kr_bytes : List ℕ
kr_bytes = zeros 48 ++ hole_bytes 16 80 ++ zeros 16 ++ hole_bytes 16 112 ++ zeros 16 ++ hole_bytes 16 chain_end

-- the state is read of these bytes
abbrev pub KrBytes : Type 0
KrBytes = (rules_of kr_shape).read kr_fields kr_bytes ≡ kr_state

-- they are the image of what is read
abbrev pub KrImage : Type 0
KrImage = HasImage kr_shape kr_fields kr_bytes

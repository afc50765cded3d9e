-- The words and their letters.
use Rattle.std.specs.Prelude.{ℕ, if◌then◌else◌, List, [], ◌∷◌, codes}
use Rattle.std.specs.Str.{bytes_eq}
use Rattle.expr_reader.specs.declared.token.Word.{Word}
use Rattle.expr_reader.specs.declared.token.Word.TheVariants.{Named, Chosen, Unknown}
use Rattle.expr_reader.specs.declared.token.Name.TheVariants as name
use Rattle.expr_reader.specs.declared.token.Choice.TheVariants.{Any, Pow2}

-- the letters of a word
abbrev pub letters : Word → List ℕ
letters (Named name.Null) = codes "null"
letters (Named name.Mem) = codes "mem"
letters (Named name.Region) = codes "region"
letters (Named name.Bitmap) = codes "bitmap"
letters (Named name.Kr) = codes "kr"
letters (Named name.FreeList) = codes "freelist"
letters (Named name.Quantize) = codes "quantize"
letters (Named name.Stats) = codes "stats"
letters (Named name.Affix) = codes "affix"
letters (Named name.Segregate) = codes "segregate"
letters (Named name.Buckets) = codes "buckets"
letters (Named name.Fallback) = codes "fallback"
letters (Named name.List) = codes "list"
letters (Chosen Any) = codes "any"
letters (Chosen Pow2) = codes "pow2"
letters Unknown = []

-- the words that have letters
abbrev pub words : List Word
words =
    Named name.Null
    ∷ Named name.Mem
    ∷ Named name.Region
    ∷ Named name.Bitmap
    ∷ Named name.Kr
    ∷ Named name.FreeList
    ∷ Named name.Quantize
    ∷ Named name.Stats
    ∷ Named name.Affix
    ∷ Named name.Segregate
    ∷ Named name.Buckets
    ∷ Named name.Fallback
    ∷ Named name.List
    ∷ Chosen Any
    ∷ Chosen Pow2
    ∷ []

-- the first of these words that has the letters
abbrev pub found_in : List Word → List ℕ → Word
found_in [] bytes = Unknown
found_in (w ∷ ws) bytes = if bytes_eq bytes (letters w) then w else found_in ws bytes

-- the word with these letters
abbrev pub word_of : List ℕ → Word
word_of bytes = found_in words bytes

use Rattle.bitmap_rules.proofs.BitmapParts.{out_of_bitmap}
use Rattle.bitmap_rules.proofs.out_of_bitmap.Goals as goal

pub returns : goal.returns
returns c = out_of_bitmap

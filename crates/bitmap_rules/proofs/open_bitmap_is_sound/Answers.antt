use Rattle.bitmap_rules.proofs.BitmapParts.{open_bitmap_has_image, open_bitmap_is_sound}
use Rattle.bitmap_rules.proofs.open_bitmap_is_sound.Goals as goal

pub returns-clause-sound : goal.returns-clause-sound
returns-clause-sound c = open_bitmap_is_sound

pub returns-clause-image : goal.returns-clause-image
returns-clause-image c = open_bitmap_has_image

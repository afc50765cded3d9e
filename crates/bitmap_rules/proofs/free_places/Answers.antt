use Rattle.bitmap_rules.proofs.BitmapPlaces.{bitmap_place_is_least, free_place_is_least, no_bitmap_place, no_free_place, units_free_by_bytes}
use Rattle.bitmap_rules.proofs.free_places.Goals as goal

pub returns-clause-bytes : goal.returns-clause-bytes
returns-clause-bytes c = units_free_by_bytes

pub returns-clause-found : goal.returns-clause-found
returns-clause-found c = free_place_is_least

pub returns-clause-none : goal.returns-clause-none
returns-clause-none c = no_free_place

pub returns-clause-found_in_bitmap : goal.returns-clause-found_in_bitmap
returns-clause-found_in_bitmap c = bitmap_place_is_least

pub returns-clause-none_in_bitmap : goal.returns-clause-none_in_bitmap
returns-clause-none_in_bitmap c = no_bitmap_place

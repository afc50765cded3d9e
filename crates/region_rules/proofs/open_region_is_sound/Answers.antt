use Rattle.region_rules.proofs.RegionLawful.{open_region_is_sound}
use Rattle.region_rules.proofs.open_region_is_sound.Goals as goal

pub returns : goal.returns
returns c = open_region_is_sound

use Rattle.region_rules.proofs.RegionLawful.{out_of_region}
use Rattle.region_rules.proofs.out_of_region.Goals as goal

pub returns : goal.returns
returns c = out_of_region

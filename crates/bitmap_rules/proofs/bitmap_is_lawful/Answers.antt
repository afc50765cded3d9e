use Rattle.bitmap_rules.proofs.BitmapLawful.{bitmap-lawful}
use Rattle.bitmap_rules.proofs.BitmapRegular.{bitmap_is_regular}
use Rattle.bitmap_rules.proofs.bitmap_is_lawful.Goals as goal

pub returns-clause-regular : goal.returns-clause-regular
returns-clause-regular c = bitmap_is_regular

pub returns-clause-lawful : goal.returns-clause-lawful
returns-clause-lawful c = bitmap-lawful

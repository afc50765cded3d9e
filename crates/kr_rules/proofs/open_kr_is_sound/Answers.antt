use Rattle.kr_rules.proofs.KrParts.{open_kr_has_image, open_kr_is_sound}
use Rattle.kr_rules.proofs.open_kr_is_sound.Goals as goal

pub returns-clause-sound : goal.returns-clause-sound
returns-clause-sound c = open_kr_is_sound

pub returns-clause-image : goal.returns-clause-image
returns-clause-image c = open_kr_has_image

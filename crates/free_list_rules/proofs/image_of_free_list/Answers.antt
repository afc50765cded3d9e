use Rattle.free_list_rules.proofs.CacheImage.{image-free_list, free_list-image}
use Rattle.free_list_rules.proofs.image_of_free_list.Goals as goal

pub returns : goal.returns
returns c least greatest e fs s bytes o = (image-free_list least greatest e fs s bytes o, free_list-image least greatest e fs s bytes)

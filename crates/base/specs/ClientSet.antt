-- Sets of clients as two masks, since there are 96: of 64 bits for the writers, 1 to 64, and of 32 for the viewing clients, 65 to 96.
use Rattle.std.specs.Prelude.{Bool, ◌||◌}
use Rattle.base.specs.Mask.{in_mask, put_in}
use Rattle.base.specs.declared.client_set.ClientSet.{ClientSet}
use Rattle.base.specs.declared.party.ClientId.{ClientId}

abbrev pub nobody : ClientSet
nobody = record { writers = 0; viewers = 0 }

-- No number outside 1 to 96 is a member.
unfoldable pub has : ClientSet → ClientId → Bool
has set id = in_mask 1 64 set.writers id.0 || in_mask 65 96 set.viewers id.0

-- A number outside 1 to 96 leaves the set as it is.
unfoldable pub with : ClientSet → ClientId → ClientSet
with set id = record { writers = put_in 1 64 set.writers id.0; viewers = put_in 65 96 set.viewers id.0 }

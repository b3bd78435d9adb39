use Rattle.std.proofs.Common.{◌∷◌, refl}
use Rattle.map_guards.proofs.traits.primary.slot_freed_last_is_offered.Goals as goal

pub returns : goal.returns
returns g c index rest below is = (c.len.ensures.valid.stacked (index ∷ rest) is).top below index rest refl

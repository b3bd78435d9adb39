use Rattle.std.proofs.Common.{true, ◌+◌, sym, ap, ◌∙◌}
use Rattle.slotmap.specs.KeysAlone.{keys_of}
use Rattle.slotmap_bounded.specs.Mapped.{map_values}
use Rattle.slotmap_bounded.proofs.{Alone.used_alone, Mapped.content-mapped}
use Rattle.slotmap_lists.proofs.StableLists.capacity.Goals as goal

pub returns-clause-valid : goal.returns-clause-valid
unfolding keys_of map_values
returns-clause-valid g c = rw (← c.self.view_is) (content-mapped (λ _. tt) c.self.inside.values true c.capacity.ensures.valid)

pub returns-clause-value : goal.returns-clause-value
returns-clause-value g c = rw (← c.self.view_is) (c.capacity.ensures.exact ∙ sym (ap (λ n. n + c.self.inside.values.room) (used_alone c.self.inside.values)))

pub returns-clause-exact : goal.returns-clause-exact
returns-clause-exact g c = returns-clause-value g c

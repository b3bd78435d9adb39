use Rattle.slotmap_lists.proofs.Common.{sym, ◌∙◌, contains-keys_of, len-keys_of}
use Rattle.slotmap_lists.proofs.Listed.{live_long, no_key_twice, stands_if}
use Rattle.slotmap_lists.proofs.StableLists.len.Goals as goal

pub returns : goal.returns
returns g c = record {
  value = rw (← c.self.view_is) (c.len.ensures.value ∙ live_long c.self.invariant);
  once = rw (← c.self.view_is) (no_key_twice c.self.invariant);
  live = rw (← c.self.view_is) (c.len.ensures.value ∙ sym (len-keys_of c.self.inside.values.live));
  same_keys = λ k. rw (← c.self.view_is) (contains-keys_of c.self.inside.values.live k ∙ stands_if c.self.invariant k);
}

use Rattle.std.proofs.Common.{◌≡◌, true}
use Rattle.slotmap.specs.Words.{ReadsAs, Restores}
use Rattle.slotmap_examples.proofs.json.map_through_json.Goals as goal

pub returns : goal.returns
returns c =
    let read : ReadsAs true c.in-Ok.list.items c.in-Ok-from_slots.made = rw (← c.deref.ensures.value, ← c.in_ok-read.ensures.same) c.in-Ok-from_slots.ensures.reads in
    let restored : Restores c.args.store.now c.in-Ok-from_slots.made = read.restores true c.args.store.now c.to_slots.ensures.valid (c.in-Ok.ensures.writes_if_clones_equal (λ _ _ same. same)) in
    record { live = restored.live; restores = restored }

use Rattle.std.specs.FinMap as map
use Rattle.slotmap_hop.proofs.Common.{ap, keys_total, exact_keys, len_removed, common_steps, IsHopContent, clearing_starts, clearing_removed, next_is_least, clearing_ends, refl, arith, IsNextLive}
use Rattle.slotmap_hop.proofs.Common.{Leaves-removes, Leaves-trans, true}
use Rattle.slotmap_hop.proofs.drain.DrainIterator.next.Goals as goal

pub returns-in_default-clause-steps : goal.returns-in_default-clause-steps
returns-in_default-clause-steps g c = grind (arith, common_steps, clearing_ends, clearing_starts)

-- the key that came next was the first one, and is removed
pub returns : goal.returns
returns g c =
    let now = c.args.self.now.map.now in
    let new = c.take_live.new.self in
    let least = rw c.in-Some.is at c.requires.1 in
    let comes = rw (c.idx.ensures.value, c.data.ensures.value) at c.first_live-self.ensures.comes in
    let took = c.take_live.ensures in
    let start = clearing_starts g.K.Key.data_of now _ c.requires.0 least in
    let next = clearing_removed g.K.Key.data_of now now new c.in-Some.key c.take_live.result _ start comes took.value took.removes took.blocks took.valid in
    let leaves = Leaves-removes true now.content c.requires.0.valid (g.K.Key.data_of c.in-Some.key) least.0 new.content took.removes in
    let can : IsHopContent new × IsNextLive g.K.Key.data_of new.content 0 c.first_live-self.result = (took.valid.after, next_is_least g.K.Key.data_of now new c.first_live-self.result next.0) in
    record {
      steps = (
        (took.value, took.removes),
        (refl, λ end empties. grind (arith, took.valid.capacity, Leaves-trans now.content new.content end leaves empties.leaves)),
        can,
        next.1,
      );
      goes = record {
        on = λ finite. (can, finite, omega (arith, ap map.len took.removes.live, len_removed keys_total exact_keys now.content.live (g.K.Key.data_of c.in-Some.key) least.0));
        keeps = can;
        rests = λ _. tt;
      };
    }

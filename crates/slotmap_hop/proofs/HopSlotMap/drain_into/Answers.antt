use Rattle.std.proofs.Common.{◌∷◌, ◌++◌}
use Rattle.std.specs.FinMap as map
use Rattle.slotmap_hop.proofs.Common.{map-append, keys_total, exact_keys, len_removed, entries_none, common_steps, sym, append_assoc, clearing_starts, clearing_removed, clearing_ends, clearing_blocks}
use Rattle.slotmap_hop.proofs.Common.{some_entry, [], refl, ap, ◌∙◌, append-nil, arith, list_map}
use Rattle.slotmap_hop.proofs.HopSlotMap.drain_into.Goals as goal

pub loop-next-init : goal.loop-next-init
loop-next-init g c = record {
  clearing = clearing_starts g.K.Key.data_of c.args.self.now _ c.first_live-next.ensures.valid c.first_live-next.ensures.comes;
  pairs = [];
  pushed = c.reserve.ensures.items ∙ sym (append-nil c.args.out.now.items);
  listed = refl;
  room = omega (arith, c.len.ensures.value, c.in_ok-reserve.ensures.ok);
}

pub push_reserved-requires : goal.push_reserved-requires
push_reserved-requires g c = grind (arith, common_steps, some_entry, keys_total, exact_keys)

pub loop-next-preserved : goal.loop-next-preserved
loop-next-preserved g c =
    let at = c.loop-next in
    let key = g.K.Key.data_of c.in-Some.key in
    let clearing = rw c.in-Some.is at at.invariant.clearing in
    let comes = rw (c.idx.ensures.value, c.data.ensures.value) at c.first_live-next-in-Some.ensures.comes in
    let took = c.take_live-value.ensures in
    let pushed = c.push_reserved.ensures in
    let pair : g.row.K.Denot × g.row.V.Denot = (c.in-Some.key, c.take_live-value.result) in
    let next = clearing_removed g.K.Key.data_of c.args.self.now at.self c.take_live-value.new.self c.in-Some.key c.take_live-value.result _ clearing comes
    took.value took.removes took.blocks took.valid in
    record {
      clearing = next.0;
      pairs = at.invariant.pairs ++ pair ∷ [];
      pushed = pushed.items ∙ ap (λ xs. xs ++ pair ∷ []) at.invariant.pushed ∙ append_assoc c.args.out.now.items at.invariant.pairs (pair ∷ []);
      listed = simp (map-append, append_assoc) (at.invariant.listed ∙ ap (λ es. list_map (λ p. (g.K.Key.data_of p.0, p.1)) at.invariant.pairs ++ es) next.1);
      room = omega (arith, at.invariant.room, pushed.len, pushed.capacity, ap map.len took.removes.live, len_removed keys_total exact_keys at.self.content.live key clearing.sweep.comes.0);
    }

pub returns-clause-empty : goal.returns-clause-empty
returns-clause-empty g c = clearing_ends g.K.Key.data_of c.args.self.now c.loop-next.self (rw c.in_default.is at c.loop-next.invariant.clearing)

pub returns-clause-ok : goal.returns-clause-ok
returns-clause-ok g c =
    let at = c.loop-next in
    let pairs = at.invariant.pairs in
    let entries = list_map (λ p. (g.K.Key.data_of p.0, p.1)) pairs in
    (pairs, at.invariant.pushed, sym (at.invariant.listed ∙ ap (λ es. entries ++ es) (ap (λ m. map.entries m) (returns-clause-empty g c) ∙ entries_none) ∙ append-nil entries))

pub returns-clause-blocks : goal.returns-clause-blocks
returns-clause-blocks g c = clearing_blocks g.K.Key.data_of c.args.self.now c.loop-next.self (rw c.in_default.is at c.loop-next.invariant.clearing)

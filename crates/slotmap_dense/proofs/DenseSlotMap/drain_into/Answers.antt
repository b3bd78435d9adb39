use Rattle.std.proofs.Common.{◌++◌, ◌∷◌}
use Rattle.slotmap_dense.proofs.Common.{common_steps, map-append, length_push, IsListingBut-start, IsListingBut-take, IsListingBut-done, append-nil, append_assoc, Taken-start, Taken-next, last_first}
use Rattle.slotmap_dense.proofs.Common.{Key, [], length, reverse, refl, sym, ap, ◌∙◌, arith, zip, list_map, none_left, len_keys}
use Rattle.slotmap_dense.proofs.DenseSlotMap.drain_into.Goals as goal

pub loop-pair-init : goal.loop-pair-init
loop-pair-init g c = record {
  taken = Taken-start c.args.self.now c.len.ensures.valid;
  pairs = [];
  pushed = c.reserve.ensures.items ∙ sym (append-nil c.args.out.now.items);
  listed = IsListingBut-start c.args.self.now.content.live;
  back = refl;
  room = omega (arith, c.in_ok-reserve.ensures.ok, c.len.ensures.value, len_keys c.args.self.now c.len.ensures.valid);
}

pub loop-pair-preserved : goal.loop-pair-preserved
loop-pair-preserved g c =
    let at = c.loop-pair in
    let pair = c.in-Some.pair in
    let takes = c.in-Some.ensures.takes in
    let key = g.K.Key.data_of pair.0 in
    let before = list_map (λ p. (g.K.Key.data_of p.0, p.1)) at.invariant.pairs in
    record {
      taken = Taken-next g.K.Key.data_of c.args.self.now at.self c.take_last.new.self pair at.invariant.taken takes c.in-Some.ensures.valid.capacity c.in-Some.ensures.valid.after;
      pairs = at.invariant.pairs ++ pair ∷ [];
      pushed = c.push_reserved.ensures.items ∙ ap (λ xs. xs ++ pair ∷ []) at.invariant.pushed ∙ append_assoc c.args.out.now.items at.invariant.pairs (pair ∷ []);
      listed =
          rw (map-append {B = Key × g.row.V.Denot} (λ p. (g.K.Key.data_of p.0, p.1)) at.invariant.pairs (pair ∷ []), takes.1.live)
          (IsListingBut-take c.args.self.now.content.live before at.self.content.live key pair.1 at.invariant.listed takes.0);
      back = at.invariant.back ∙ ap (λ es. before ++ es) (last_first g.K.Key.data_of at.self c.take_last.new.self pair takes c.in-Some.ensures.valid.after)
          ∙ sym (rw (map-append {B = Key × g.row.V.Denot} (λ p. (g.K.Key.data_of p.0, p.1)) at.invariant.pairs (pair ∷ []))
          (append_assoc before ((key, pair.1) ∷ []) (reverse (zip c.take_last.new.self.keys c.take_last.new.self.values))));
      room = omega (arith, at.invariant.room, ap length takes.2, length_push c.take_last.new.self.keys key, c.push_reserved.ensures.len, c.push_reserved.ensures.capacity);
    }

pub returns : goal.returns
returns g c = record {
  ok = grind (arith, common_steps, none_left, IsListingBut-done);
  in_order = grind (arith, common_steps, none_left, append-nil, map-append);
  empty = grind (arith, common_steps, none_left);
  leaves = grind (arith, common_steps);
  freed_order = grind (arith, common_steps, append-nil);
  unchanged = grind (arith, common_steps);
  valid = grind (arith, common_steps);
}

pub push_reserved-requires : goal.push_reserved-requires
push_reserved-requires g c = grind (arith, common_steps)

pub loop-pair-smaller : goal.loop-pair-smaller
loop-pair-smaller g c = grind (arith, common_steps)

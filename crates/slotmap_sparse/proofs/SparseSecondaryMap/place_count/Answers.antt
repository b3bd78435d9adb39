use Rattle.std.proofs.Common.{◌+◌}
use Rattle.slotmap_sparse.proofs.Common.{Key, ap, subst, ◌∙◌, arith, Counts, Counts-start, Counts-less, Counts-more, Counts-end}
use Rattle.slotmap_sparse.proofs.SparseSecondaryMap.place_count.Goals as goal

pub loop-key-init : goal.loop-key-init
loop-key-init g c = (tt, tt, rw c.into_iter-key-iterator.ensures.into_iter_gives (Counts-start c.args.self.now.pairs _ c.keys-key-items.ensures.listing))

pub loop-key-preserved-then-places-count : goal.loop-key-preserved-then-places-count
loop-key-preserved-then-places-count g c =
    let m = c.args.self.now.pairs in
    let k = g.K.Key.data_of c.in-Some.key in
    let before = subst (λ rest. Counts m rest c.loop-key.count) c.in-Some.ensures.steps c.loop-key.invariant.2 in
    let at = c.idx.ensures.value ∙ ap (λ (q : Key). q.index) c.data.ensures.value in
    (tt, tt, Counts-more m k _ c.loop-key.count before (c.idx.result + 1) (omega (arith, at)) (omega (arith, at)) (omega (arith, c.if-places-count.true)))

pub loop-key-preserved : goal.loop-key-preserved
loop-key-preserved g c =
    let m = c.args.self.now.pairs in
    let k = g.K.Key.data_of c.in-Some.key in
    let before = subst (λ rest. Counts m rest c.loop-key.count) c.in-Some.ensures.steps c.loop-key.invariant.2 in
    let at = c.idx.ensures.value ∙ ap (λ (q : Key). q.index) c.data.ensures.value in
    (tt, tt, Counts-less m k _ c.loop-key.count before (omega (arith, at, c.if-places-count.false)))

pub returns-clause-count : goal.returns-clause-count
returns-clause-count g c = Counts-end c.args.self.now.pairs c.loop-key.count (subst (λ rest. Counts c.args.self.now.pairs rest c.loop-key.count) c.in-None.ensures.steps.0 c.loop-key.invariant.2)

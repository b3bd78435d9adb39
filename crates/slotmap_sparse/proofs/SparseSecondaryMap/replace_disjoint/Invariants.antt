use Rattle.slotmap_sparse.proofs.Common.{map_list, Exchanging, IsSparseContent}
use Rattle.slotmap_sparse.proofs.SparseSecondaryMap.replace_disjoint.Given as goal

abbrev pub invariant-loop-i : goal.invariant-loop-i
invariant-loop-i g l = Exchanging IsSparseContent (λ c. c.pairs) (λ c m. record c { pairs = m }) l.fn.self (map_list g.K.Key.data_of l.keys) l.initial.values l.self l.values l.i

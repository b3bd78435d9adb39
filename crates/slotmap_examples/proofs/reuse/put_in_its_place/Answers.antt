use Rattle.std.proofs.Common.{true, ap, arith}
use Rattle.std.specs.FinMap as map
use Rattle.slotmap.proofs.Callers.{inserted_len, len_removed, keys_total, exact_keys}
use Rattle.slotmap_examples.proofs.reuse.put_in_its_place.Goals as goal

pub returns-clause-as_many : goal.returns-clause-as_many
returns-clause-as_many g c =
    let less = ap map.len c.remove.ensures.live in
    let one = len_removed keys_total exact_keys c.args.store.now.live (g.K.Key.data_of c.args.key) c.requires.live in
    let more = inserted_len true _ _ _ _ c.insert.ensures.valid.before c.in-Ok.ensures.ok in
    omega (arith, less, one, more)

use Rattle.std.proofs.Common.{◌+◌, rules, Some, sym, ap, ◌∙◌}
use Rattle.std.specs.Option.{option_map}
use Rattle.slotmap.proofs.Callers.{retained_as, get-keyed}
use Rattle.slotmap_examples.proofs.side_writes.raise_counts.Goals as goal

pub returns : goal.returns
returns g c k =
    sym (get-keyed c.retain.new.self.pairs k)
    ∙ retained_as _ _ (λ k v. Some (v + 1)) (λ f. Unit {0}) (λ f f' key shown after stays holds call. (tt, search rules)) tt c.retain.ensures.retained k
    ∙ ap (option_map (λ n. n + 1)) (get-keyed c.args.counts.now.pairs k)

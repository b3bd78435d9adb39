use Rattle.std.proofs.Common.{ℕ, nat_lt, if◌then◌else◌, rules, Some, None, sym, ap, ◌∙◌}
use Rattle.std.specs.Option.{option_and_then}
use Rattle.slotmap.proofs.Callers.{retained_as, get-keyed}
use Rattle.slotmap_examples.proofs.side_writes.keep_small.Goals as goal

pub returns : goal.returns
returns g c k =
    let kept = λ (n : ℕ). if nat_lt n 10 then Some n else None in
    sym (get-keyed c.retain.new.self.pairs k)
    ∙ retained_as _ _ (λ k v. kept v) (λ f. Unit {0}) (λ f f' key shown after stays holds call. (tt, search rules)) tt c.retain.ensures.retained k
    ∙ ap (option_and_then kept) (get-keyed c.args.counts.now.pairs k)
